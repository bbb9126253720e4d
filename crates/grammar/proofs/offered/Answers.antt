use Rattle.grammar.proofs.Offers.{offered_sound, struck_sound, production_stays, production_last}
use Rattle.grammar.proofs.Struck.{strict_stay, struck_fits}
use Rattle.grammar.proofs.offered.Goals as goal

pub returns : goal.returns
returns c = λ W p. record {
  stays_sound = offered_sound W p;
  struck_sound = struck_sound W p;
  before = production_stays W p;
  last = production_last W p;
  strict_stay = strict_stay W p;
  struck_fits = struck_fits W p;
}
