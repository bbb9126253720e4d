use Rattle.std.proofs.Common.{◌≡◌, ℕ, ◌+◌, ◌-◌, ◌<◌, ◌≤◌, false, leb, List, [], ◌∷◌, ◌++◌, map, length, take, Some, Option, sym, refl, ap, ◌∙◌, subst, arith}
use Rattle.std.specs.Prelude.{MatchOption}
use mathlib.Core.Logic.{∥∥₁_prop}
use mathlib.Core.HLevel.{is_prop→PathP}
use Rattle.std.proofs.lemmas.List.{map-append, take-append-le, take_all, length_push}
use Rattle.arrayvec.specs.ArrayVec.{ArrayVec}
use Rattle.grammar.specs.Lists.{some_of}
use Rattle.grammar.specs.Productions.{Production as Written, all_tails, Sound}
use Rattle.grammar.specs.Binarise.{Admitted}
use Rattle.conversion.specs.declared.production.Production.{Production}
use Rattle.conversion.specs.Binarised.{rows_book}
use Rattle.conversion.specs.Rows.{production_of, written}
use Rattle.book.specs.declared.rules.Rules.{Rules}
use Rattle.book.specs.Rules.{held, rules_book}
use Rattle.book.specs.Offers.{book, refusal, same_rule, size_refusal}
use Rattle.book.proofs.Held.{many}
use Rattle.book.proofs.Props.{admitted_of}
use Rattle.book.proofs.Refused.{PastFour, meets_five, meets_size, past_sound, sized_admitted}
use Rattle.book.proofs.rules.Rules.offer.Goals as goal

module _ (b : Rules) (head : ℕ) (items : List ℕ) (cost : ℕ) (row : Production) where
  abbrev p : Written
  p = written head items cost

  -- the row is that of the rule, which is short
  abbrev IsRow : Type 0
  IsRow = (production_of row ≡ p) × (length items ≤ 8)

  -- the tests of the first four refusals failed
  passed : (o : Option Production) → MatchOption o (8 < length items) (λ r. (production_of r ≡ p) × (length items ≤ 8)) → o ≡ Some row → head < 32
      → false ≡ some_of (leb (32 + b.patterns)) items → (rows : List Production) → rows ≡ b.rows.items
      → false ≡ some_of (same_rule (production_of row)) (map production_of rows) → IsRow × PastFour b.patterns (held b) p
  passed o m o_is h u rows lent e =
      let is : IsRow = subst (λ v. MatchOption v (8 < length items) (λ r. (production_of r ≡ p) × (length items ≤ 8))) o_is m in (
        is,
        record {
          head = omega arith;
          short = is.1;
          known = sym u;
          new = sym (e ∙ ap (λ q. some_of (same_rule q) (map production_of rows)) is.0 ∙ ap (λ l. some_of (same_rule p) (map production_of l)) lent);
        },
      )

  -- the rules with one more
  pushed : (rows : List Production) → IsRow → rows ≡ b.rows.items ++ (row ∷ []) → map production_of rows ≡ held b ++ (p ∷ [])
  pushed rows is e = ap (map production_of) e ∙ map-append production_of b.rows.items (row ∷ []) ∙ ap (λ q. held b ++ (q ∷ [])) is.0

  -- they keep to the bounds, unless they take too many tails
  sound_pushed : (rows : List Production) → IsRow → rows ≡ b.rows.items ++ (row ∷ []) → PastFour b.patterns (held b) p → cost ≤ 65535 → length b.rows.items < 64
      → all_tails (map production_of rows) ≤ 64 → Sound (rows_book rows b.patterns)
  sound_pushed rows is e four c h t =
      let q = pushed rows is e in
      subst (λ l. Sound (book b.patterns l)) (sym q)
      (past_sound b.patterns (held b) p four (admitted_of (rules_book b) b.admitted).sound c (omega (arith, many b)) (subst (λ l. all_tails l ≤ 64) q t))

  -- what the rule meets, with room for one more
  meets : (rows : List Production) → IsRow → rows ≡ b.rows.items ++ (row ∷ []) → PastFour b.patterns (held b) p → length b.rows.items < 64
      → refusal b.patterns (held b) p ≡ size_refusal (rows_book rows b.patterns)
  meets rows is e four h = meets_size b.patterns (held b) p four (omega (arith, many b)) ∙ ap (λ l. size_refusal (book b.patterns l)) (sym (pushed rows is e))

-- a list with one more, without its last
popped : {A : Type 0} (was mid is : List A) (x : A) → mid ≡ was ++ (x ∷ []) → is ≡ take (length mid - 1) mid → is ≡ was
popped was mid is x e f =
    let n : length mid - 1 ≡ length was = omega (arith, ap length e, length_push was x) in
    f ∙ ap (λ k. take k mid) n ∙ ap (take (length was)) e ∙ take-append-le (length was) was (x ∷ []) (omega arith) ∙ take_all (length was) was (omega arith)

-- the rules as they were
restored : (b : Rules) (rows : ArrayVec Production) (a : ∥ Admitted (rows_book rows.items b.patterns) ∥₁) → rows.items ≡ b.rows.items
    → ◌≡◌ {A = Rules} (record { rows = rows; patterns = b.patterns; admitted = a }) b
restored b rows a e = λ i. record {
  rows = record { items = e i };
  patterns = b.patterns;
  admitted = is_prop→PathP (λ i. ∥ Admitted (rows_book (e i) b.patterns) ∥₁) (λ i. ∥∥₁_prop) a b.admitted i;
}

pub check_size-requires-clause-sound : goal.check_size-requires-clause-sound
check_size-requires-clause-sound c t =
    let b = c.args.self.now in
    let k = passed b c.args.head c.args.items.now c.args.cost c.in_ok-rule.rule c.new.result c.new.ensures c.in_ok-rule.ensures.ok_part (omega (arith, c.if-head-ge-HEADS.false)) c.if-some_unknown.ensures
    c.deref.result.now c.deref.ensures.0 c.if-some_same.ensures in
    sound_pushed b c.args.head c.args.items.now c.args.cost c.in_ok-rule.rule c.deref-2.result.now k.0 (c.deref-2.ensures.0 ∙ c.push.ensures.items) k.1 (omega arith) (omega (arith, c.len-at.ensures.value)) t

pub returns-then-at-ge-RULES : goal.returns-then-at-ge-RULES
returns-then-at-ge-RULES c =
    let b = c.args.self.now in
    let k = passed b c.args.head c.args.items.now c.args.cost c.in_ok-rule.rule c.new.result c.new.ensures c.in_ok-rule.ensures.ok_part (omega (arith, c.if-head-ge-HEADS.false)) c.if-some_unknown.ensures
    c.deref.result.now c.deref.ensures.0 c.if-some_same.ensures in
    record { says = (meets_five b.patterns (held b) (written c.args.head c.args.items.now c.args.cost) k.1 (omega (arith, many b, c.len-at.ensures.value)), refl); over = refl }

pub returns-in-Err : goal.returns-in-Err
returns-in-Err c =
    let b = c.args.self.now in
    let row = c.in_ok-rule.rule in
    let rows = c.deref-2.result.now in
    let k = passed b c.args.head c.args.items.now c.args.cost c.in_ok-rule.rule c.new.result c.new.ensures c.in_ok-rule.ensures.ok_part (omega (arith, c.if-head-ge-HEADS.false)) c.if-some_unknown.ensures
    c.deref.result.now c.deref.ensures.0 c.if-some_same.ensures in
    let m = meets b c.args.head c.args.items.now c.args.cost row rows k.0 (c.deref-2.ensures.0 ∙ c.push.ensures.items) k.1 (omega (arith, c.len-at.ensures.value)) in
    let back : c.pop.new.self.items ≡ b.rows.items = popped b.rows.items c.push.new.self.items c.pop.new.self.items row c.push.ensures.items c.pop.ensures.rest in
    record { says = (m ∙ c.in-Err.ensures, restored b _ _ cc); over = refl }

pub invariant_of-self-in_default : goal.invariant_of-self-in_default
invariant_of-self-in_default c =
    let b = c.args.self.now in
    let row = c.in_ok-rule.rule in
    let rows = c.deref-2.result.now in
    let k = passed b c.args.head c.args.items.now c.args.cost c.in_ok-rule.rule c.new.result c.new.ensures c.in_ok-rule.ensures.ok_part (omega (arith, c.if-head-ge-HEADS.false)) c.if-some_unknown.ensures
    c.deref.result.now c.deref.ensures.0 c.if-some_same.ensures in
    let sound = sound_pushed b c.args.head c.args.items.now c.args.cost row rows k.0 (c.deref-2.ensures.0 ∙ c.push.ensures.items) k.1 (omega arith) (omega (arith, c.len-at.ensures.value)) in
    record { admitted = ∣ subst (λ l. Admitted (rows_book l b.patterns)) c.deref-2.ensures.0 (sized_admitted (rows_book rows b.patterns) sound c.in_default.ensures) ∣₁ }

pub returns : goal.returns
returns c =
    let b = c.args.self.now in
    let row = c.in_ok-rule.rule in
    let rows = c.deref-2.result.now in
    let k = passed b c.args.head c.args.items.now c.args.cost c.in_ok-rule.rule c.new.result c.new.ensures c.in_ok-rule.ensures.ok_part (omega (arith, c.if-head-ge-HEADS.false)) c.if-some_unknown.ensures
    c.deref.result.now c.deref.ensures.0 c.if-some_same.ensures in
    let m = meets b c.args.head c.args.items.now c.args.cost row rows k.0 (c.deref-2.ensures.0 ∙ c.push.ensures.items) k.1 (omega (arith, c.len-at.ensures.value)) in
    record {
      says = (m ∙ c.in_default.ensures, omega (arith, many b, c.len-at.ensures.value), pushed b c.args.head c.args.items.now c.args.cost row c.push.new.self.items k.0 c.push.ensures.items);
      over = refl;
    }
