-- Sums over the strict rules of a book, rule by rule.
use Rattle.std.proofs.Common.{◌≡◌, ℕ, ◌<◌, Bool, true, cond, eqb, List, length, get_or, sym, ap, ◌∙◌, subst, arith}
use Rattle.std.proofs.lemmas.List.{get_or-map, length-map}
use Rattle.grammar.specs.Lists.{Mem, those}
use Rattle.grammar.specs.Semiring.{Ops, Semiring, sum}
use Rattle.grammar.specs.Productions.{Book, Sound}
use Rattle.grammar.specs.Binarised.{Right, binary, empty, unit, terminal}
use Rattle.grammar.specs.Binarise.{binarised, Within}
use Rattle.grammar.specs.Strict.{StrictFormRule, strict_rules, strict_rules_of}
use Rattle.grammar.specs.Cells.{is_binary, sides, terminal_fits}
use Rattle.grammar.specs.Weights.{strict_weight_of}
use Rattle.grammar.proofs.StrictFound.{strict_found}
use Rattle.grammar.proofs.StrictOrder.{strict_listed}
use Rattle.grammar.proofs.BinarisedRules.{binarised_within, get_d_mem}
use Rattle.conversion.specs.Views.{strict_rule_of}
use Rattle.chart.specs.declared.weighed.WeighedRule.{WeighedRule}
use Rattle.chart.specs.Weights.{Weighs}
use Rattle.chart.specs.Inner.{over_event, over_parts}
use Rattle.chart.proofs.SumLaws.{sum_cond}
use Rattle.chart.proofs.PairSums.{side_sum}

-- of these strict rules, those of the symbol x, by what each comes to
abbrev pub of_symbol : {V : Type 0} → Ops V → ℕ → (StrictFormRule → V) → List StrictFormRule → V
of_symbol M x f rs = sum M (λ (r : StrictFormRule). cond (eqb r.symbol x) (f r) M.zero) rs

module _ (W : Book) {V : Type 0} (M : Ops V) where
  -- of these strict rules, what the binary ones of x come to over a left and a right cell
  abbrev pub rules_sum : (ℕ → V) → (ℕ → V) → ℕ → List StrictFormRule → V
  rules_sum left right x = of_symbol M x (λ r. side_sum M (strict_weight_of W M r) left right r.right)

  -- of these strict rules, what the terminal ones of x that fit an event weigh
  abbrev pub events_sum : {E : Type 0} → (E → ℕ → Bool) → E → ℕ → List StrictFormRule → V
  events_sum fits e x = of_symbol M x (λ r. cond (terminal_fits fits e r.right) (strict_weight_of W M r) M.zero)

module _ (W : Book) {V : Type 0} (M : Ops V) (L : Semiring M) where
  -- those of one symbol that pass a test, in the list of all
  among_all : (p : StrictFormRule → Bool) (f : StrictFormRule → V) (x : ℕ) → x < (binarised W).symbols
      → of_symbol M x (λ r. cond (p r) (f r) M.zero) (strict_rules (binarised W)) ≡ sum M f (those p (strict_rules_of (binarised W) x))
  among_all p f x h =
      sym (sum_cond M L (λ (r : StrictFormRule). eqb r.symbol x) (λ r. cond (p r) (f r) M.zero) (strict_rules (binarised W)))
      ∙ ap (sum M (λ r. cond (p r) (f r) M.zero)) (strict_found (binarised W) x h)
      ∙ sym (sum_cond M L p f (strict_rules_of (binarised W) x))

  pub all_parts : (left right : ℕ → V) (x : ℕ) → x < (binarised W).symbols → rules_sum W M left right x (strict_rules (binarised W)) ≡ over_parts W M left right x
  all_parts left right x h = among_all (λ r. is_binary r.right) _ x h

  pub all_events : {E : Type 0} (fits : E → ℕ → Bool) (e : E) (x : ℕ) → x < (binarised W).symbols → events_sum W M fits e x (strict_rules (binarised W)) ≡ over_event W M fits e x
  all_events fits e x h = among_all (λ r. terminal_fits fits e r.right) _ x h

-- a weighed rule in the list, and in the book's
pub weighed_at : {V : Type 0} (W : Book) (M : Ops V) (ws : List (WeighedRule V)) (i : ℕ) (w : WeighedRule V) → Weighs M W ws → i < length ws → w ≡ get_or ws i w
    → (i < length (strict_rules (binarised W))) × (get_or (strict_rules (binarised W)) i (strict_rule_of w.rule) ≡ strict_rule_of w.rule) × (w.weight ≡ strict_weight_of W M (strict_rule_of w.rule))
weighed_at {V} W M ws i w weighs h e =
    let f : WeighedRule V → StrictFormRule = λ a. strict_rule_of a.rule in
    let rs = strict_rules (binarised W) in (
      omega (arith, ap length weighs.rules, length-map ws f),
      ap (λ k. get_or k i (f w)) (sym weighs.rules) ∙ get_or-map f ws i w (f w) h ∙ ap f (sym e),
      weighs.weights w (subst (λ (a : WeighedRule V). Mem a ws) (sym e) (get_d_mem ws i w h)),
    )

-- there are as many
pub weighed_many : {V : Type 0} (W : Book) (M : Ops V) (ws : List (WeighedRule V)) → Weighs M W ws → length (strict_rules (binarised W)) ≡ length ws
weighed_many {V} W M ws weighs = sym (ap length weighs.rules) ∙ length-map ws (λ (a : WeighedRule V). strict_rule_of a.rule)

-- it is one of the book's
pub weighed_mem : {V : Type 0} (W : Book) (M : Ops V) (ws : List (WeighedRule V)) (i : ℕ) (w : WeighedRule V) → Weighs M W ws → i < length ws → w ≡ get_or ws i w → Mem (strict_rule_of w.rule) (strict_rules (binarised W))
weighed_mem W M ws i w weighs h e =
    let rs = strict_rules (binarised W) in
    let at = weighed_at W M ws i w weighs h e in
    subst (λ (a : StrictFormRule). Mem a rs) at.1 (get_d_mem rs i (strict_rule_of w.rule) at.0)

-- strict rules are of the symbols, and made of them
module _ (W : Book) (S : Sound W) where
  strict_within : (r : StrictFormRule) → Mem r (strict_rules (binarised W)) → (r.symbol < (binarised W).symbols) × Within (binarised W).symbols W.patterns r.right
  strict_within r m =
      let s = ((strict_listed W S).is_list.exactly r).0 m in
      (s.a_symbol, binarised_within W S r.end r.number r.right s.is_rule)

  binary_within : (b : Right) (n t : ℕ) → is_binary b ≡ true → Within n t b → ((sides b).0 < n) × ((sides b).1 < n)
  binary_within (binary y z) n t e w = w
  binary_within empty n t e w = absurd (subst (λ b. cond b ⊥ (Unit {0})) e tt)
  binary_within (unit y) n t e w = absurd (subst (λ b. cond b ⊥ (Unit {0})) e tt)
  binary_within (terminal y) n t e w = absurd (subst (λ b. cond b ⊥ (Unit {0})) e tt)

  pub parts_within : (r : StrictFormRule) → Mem r (strict_rules (binarised W)) → is_binary r.right ≡ true
      → (r.symbol < (binarised W).symbols) × ((sides r.right).0 < (binarised W).symbols) × ((sides r.right).1 < (binarised W).symbols)
  parts_within r m e = let k = strict_within r m in let b = binary_within r.right (binarised W).symbols W.patterns e k.1 in (k.0, b.0, b.1)

  -- a weighed rule is of one of the symbols
  pub symbol_within : {V : Type 0} (M : Ops V) (ws : List (WeighedRule V)) (i : ℕ) (w : WeighedRule V) → Weighs M W ws → i < length ws → w ≡ get_or ws i w → w.rule.symbol < (binarised W).symbols
  symbol_within M ws i w weighs h e = (strict_within (strict_rule_of w.rule) (weighed_mem W M ws i w weighs h e)).0
