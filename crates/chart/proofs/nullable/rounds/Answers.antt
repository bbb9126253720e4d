use Rattle.std.proofs.Common.{◌≡◌, ℕ, ◌<◌, ◌+◌, sym, subst, inl, inr, arith}
use Rattle.std.proofs.lemmas.Bool.{cases_eq}
use Rattle.grammar.specs.Productions.{Book}
use Rattle.grammar.specs.Binarise.{binarised}
use Rattle.grammar.specs.Nullable.{nullable_after, nullable}
use Rattle.chart.specs.Weights.{rules_book}
use Rattle.chart.proofs.NullableWeights.{settled_on, settled_none, settled_some}
use Rattle.chart.proofs.OfBook.{rules_sound}
use Rattle.chart.proofs.nullable.rounds.Goals as goal
use Rattle.chart.proofs.nullable.rounds.Goals.{in-Some+then-by-rounds, in-Some+else-by-rounds, in_default}

-- the symbols below s are settled after k rounds
abbrev Settled : Book → ℕ → ℕ → Type 0
Settled W k s = (x : ℕ) → x < s → nullable_after (binarised W) k x ≡ nullable (binarised W) x

one_more : (W : Book) (k s : ℕ) → Settled W k s → nullable_after (binarised W) k s ≡ nullable (binarised W) s → Settled W k (s + 1)
one_more W k s h e x l = elim (cases_eq x s) [
  | inl q ↦ subst (λ y. nullable_after (binarised W) k y ≡ nullable (binarised W) y) (sym q) e
  | inr n ↦ h x (omega (arith, n))
]

pub loop-symbol-init : goal.loop-symbol-init
loop-symbol-init c = ((λ x l. absurd (omega arith)), omega arith)

pub loop-symbol-preserved : goal.loop-symbol-preserved
loop-symbol-preserved c =
    let W = rules_book c.args.converted.now.rules in
    let S = rules_sound c.args.converted.now.rules in
    let s = c.loop-symbol.symbol in
    let was = c.loop-symbol.rounds in
    let before = c.loop-symbol.invariant in
    let is = c.match-brought.rounds in
    elim c.match-brought.branch [
      | in-Some+then-by-rounds w ↦
          (one_more W is s (λ x l. settled_on W S was is x (omega (arith, w.rounds-is, w.if-by-rounds.true)) (before.0 x l)) (settled_some W S is s w.in-Some.by w.in-Some.ensures (omega (arith, w.rounds-is))), omega (arith, w.rounds-is))
      | in-Some+else-by-rounds w ↦
          (one_more W is s (λ x l. settled_on W S was is x (omega (arith, w.rounds-is)) (before.0 x l)) (settled_some W S is s w.in-Some.by w.in-Some.ensures (omega (arith, w.rounds-is, w.if-by-rounds.false))), omega (arith, w.rounds-is, before.1))
      | in_default w ↦
          (one_more W is s (λ x l. settled_on W S was is x (omega (arith, w.rounds-is)) (before.0 x l)) (settled_none W S is s w.in_default.ensures), omega (arith, w.rounds-is, before.1))
    ]

pub returns-clause-all : goal.returns-clause-all
returns-clause-all c = λ x l. c.loop-symbol.invariant.0 x (omega arith)

pub returns-clause-few : goal.returns-clause-few
returns-clause-few c = c.loop-symbol.invariant.1
