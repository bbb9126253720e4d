use Rattle.std.proofs.Common.{sym, ap, length}
use Rattle.text.specs.Outcomes.{line}
use Rattle.text.proofs.Wording.{words_past}
use Rattle.book.specs.Rules.{held}
use Rattle.book.specs.Loads.{first_place, offer_line}
use Rattle.book.proofs.rules.Rules.load_line.Goals as goal

-- an empty line has no word
pub returns-then-line-clause-is : goal.returns-then-line-clause-is
returns-then-line-clause-is c = λ n. sym (ap (λ ws. offer_line c.args.self.now.patterns (held c.args.self.now) n (first_place ws) (line (length c.args.line.text.now) ws)) (words_past c.args.line.text.now c.args.line.from c.if-line.true))
