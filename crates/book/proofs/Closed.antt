-- What a closed book has.
use Rattle.std.proofs.Common.{◌≡◌, List, map, ap, ◌∙◌}
use Rattle.std.proofs.lemmas.List.{take_all}
use Rattle.grammar.specs.Productions.{Book}
use Rattle.grammar.specs.Binarise.{binarised, Admitted}
use Rattle.grammar.specs.Strict.{StrictFormRule, strict_rules}
use Rattle.grammar.proofs.NullableRounds.{found_in_rounds}
use Rattle.grammar.proofs.Chosen.{nullable_chosen, chain_chosen}
use Rattle.grammar.proofs.StrictOrder.{strict_listed}
use Rattle.grammar.proofs.StrictForm.{strict_forms}
use Rattle.conversion.specs.declared.form.StrictForm.{StrictForm}
use Rattle.conversion.specs.declared.strict.StrictRule.{StrictRule}
use Rattle.conversion.specs.Views.{strict_rule_of}
use Rattle.conversion.specs.Forms.{FormOf}
use Rattle.book.specs.declared.converted.Converted.{Converted}
use Rattle.book.specs.Rules.{rules_book}
use Rattle.book.specs.Books.{StrictRulesAre}
use Rattle.book.proofs.Props.{admitted_of}
use Rattle.book.proofs.Formed.{form_of}

-- the strict rules that the form holds
abbrev in_array : StrictForm → List StrictFormRule
in_array f = map strict_rule_of f.strict.rules.items

-- they are all of them, since these fit
pub listed : (W : Book) (f : StrictForm) → Admitted W → FormOf W f → in_array f ≡ strict_rules (binarised W)
listed W f a form = form.strict.0 ∙ take_all 1024 (strict_rules (binarised W)) a.few_strict

-- the same of a book of which only the existence of these facts is kept
pub strict_kept : (W : Book) (f : StrictForm) → ∥ Admitted W ∥₁ → ∥ FormOf W f ∥₁ → in_array f ≡ strict_rules (binarised W)
strict_kept W f a t = listed W f (admitted_of W a) (form_of W f t)

-- the strict rules as they are lent
pub strict_lent : (W : Book) (f : StrictForm) (l : List StrictRule) → l ≡ f.strict.rules.items → ∥ Admitted W ∥₁ → ∥ FormOf W f ∥₁ → map strict_rule_of l ≡ strict_rules (binarised W)
strict_lent W f l e a t = ap (map strict_rule_of) e ∙ strict_kept W f a t

-- of rules with their strict form
pub closed_converted : (E : Type 0) (c : Converted) → StrictRulesAre E (rules_book c.rules) (in_array c.form)
closed_converted E c =
    let W = rules_book c.rules in
    let a = admitted_of W c.rules.admitted in
    record {
      listed = strict_kept W c.form c.rules.admitted c.formed;
      only = strict_listed W a.sound;
      language = strict_forms E W a.sound;
      rounds = found_in_rounds W a.sound;
      nullable = nullable_chosen W a.sound;
      chains = chain_chosen W a.sound;
    }
