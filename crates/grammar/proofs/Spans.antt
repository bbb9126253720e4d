-- The cuts of a span, by the length of the left part.
use Rattle.std.proofs.Common.{◌≡◌, ℕ, suc, ◌+◌, ◌-◌, ◌<◌, ◌≤◌, Bool, List, [], ◌∷◌, ◌++◌, map, length, take, drop, sym, refl, ap, ◌∙◌, ap₂, arith, length-drop, length-take, take-take, drop-drop}
use Rattle.grammar.specs.Lists.{those, Cut, cuts, count_up, span}
use Rattle.grammar.specs.Binarised.{Binarised}
use Rattle.grammar.specs.Strict.{StrictFormRule, strict_rules_of}
use Rattle.grammar.specs.Semiring.{Ops, Semiring, sum}
use Rattle.grammar.specs.Cells.{strict_weight, is_binary, sides, cell}
use Rattle.grammar.proofs.Lists.{longer, map_map, suc_count_up, count_up_mem}
use Rattle.grammar.proofs.Sums.{sum_cong, sum_map}
use Rattle.grammar.proofs.CellEquations.{cell_more}
use lib.Seq.{take-append-le, drop-append-le}
use Rattle.std.proofs.lemmas.List.{drop-take}

abbrev at_place : {E : Type 0} → List E → ℕ → Cut E
at_place w m = (take m w, drop m w)

cuts_from_places : {E : Type 0} (e : E) (w : List E) → cuts (e ∷ w) ≡ map (at_place (e ∷ w)) (count_up 1 (length w))
cuts_from_places e [] = refl
cuts_from_places e (f ∷ w) = ap (λ l. (e ∷ [], f ∷ w) ∷ l)
    (ap (map (longer e)) (cuts_from_places f w)
    ∙ map_map (longer e) (at_place (f ∷ w)) (count_up 1 (length w))
    ∙ sym (map_map (at_place (e ∷ f ∷ w)) suc (count_up 1 (length w)))
    ∙ ap (map (at_place (e ∷ f ∷ w))) (suc_count_up 1 (length w)))

-- the cuts of a list, by the length of the left part from 1 on
pub cuts_places : {E : Type 0} (w : List E) → cuts w ≡ map (λ m. (take m w, drop m w)) (count_up 1 (length w - 1))
cuts_places [] = refl
cuts_places (e ∷ w) = cuts_from_places e w ∙ ap (λ n. map (at_place (e ∷ w)) (count_up 1 n)) (omega arith)

-- the left part of a span is a span, and so is the right part
pub span_left : {E : Type 0} (ev : List E) (i l m : ℕ) → m ≤ l → take m (span ev i l) ≡ span ev i m
span_left ev i l m h = take-take m l (drop i ev) h

pub span_right : {E : Type 0} (ev : List E) (i l m : ℕ) → m ≤ l → drop m (span ev i l) ≡ span ev (i + m) (l - m)
span_right ev i l m h =
    ap (λ n. drop m (take n (drop i ev))) (let e : l ≡ m + (l - m) = omega arith in e)
    ∙ drop-take m (l - m) (drop i ev) ∙ ap (take (l - m)) (drop-drop m i ev)

pub span_length : {E : Type 0} (ev : List E) (i l : ℕ) → i + l ≤ length ev → length (span ev i l) ≡ l
span_length ev i l h = simp (length-take, length-drop) (omega arith)

-- a span does not change when an event comes after it
pub span_kept : {E : Type 0} (ev more : List E) (i l : ℕ) → i + l ≤ length ev → span (ev ++ more) i l ≡ span ev i l
span_kept ev more i l h = ap (take l) (drop-append-le i ev more (omega arith)) ∙ take-append-le l (drop i ev) more (simp length-drop (omega arith))

module _ {V : Type 0} (M : Ops V) (L : Semiring M) {E : Type 0} (fits : E → ℕ → Bool) (B : Binarised) (wt : ℕ → ℕ → V) where
  more : (x : ℕ) (w : List E) → 1 < length w
      → cell B M wt fits x w
      ≡ sum M (λ (r : StrictFormRule). sum M (λ (c : Cut E). M.times (strict_weight B M wt r) (M.times (cell B M wt fits (sides r.right).0 c.0) (cell B M wt fits (sides r.right).1 c.1))) (cuts w))
      (those (λ (r : StrictFormRule). is_binary r.right) (strict_rules_of B x))
  more x [] h = absurd (omega arith)
  more x (e ∷ []) h = absurd (omega arith)
  more x (e ∷ f ∷ w) h = cell_more M L fits B wt x e f w

  -- the cell of a span of more than one event: over the strict binary rules and the lengths of the left part, weight times left cell times
  -- right cell
  pub cell_span : (ev : List E) (x i l : ℕ) → 1 < l → i + l ≤ length ev
      → cell B M wt fits x (span ev i l)
      ≡ sum M (λ (r : StrictFormRule). sum M (λ m. M.times (strict_weight B M wt r)
      (M.times (cell B M wt fits (sides r.right).0 (span ev i m)) (cell B M wt fits (sides r.right).1 (span ev (i + m) (l - m))))) (count_up 1 (l - 1)))
      (those (λ (r : StrictFormRule). is_binary r.right) (strict_rules_of B x))
  cell_span ev x i l h k =
      let n = span_length ev i l k in
      more x (span ev i l) (omega arith)
      ∙ sum_cong M L _ _ (those (λ (r : StrictFormRule). is_binary r.right) (strict_rules_of B x)) (λ r j.
      ap (sum M _) (cuts_places (span ev i l) ∙ ap (λ q. map (at_place (span ev i l)) (count_up 1 (q - 1))) n)
      ∙ sum_map M L _ (at_place (span ev i l)) (count_up 1 (l - 1))
      ∙ sum_cong M L _ _ (count_up 1 (l - 1)) (λ m q.
      let c = count_up_mem 1 (l - 1) m q in
      ap₂ (λ u v. M.times (strict_weight B M wt r) (M.times (cell B M wt fits (sides r.right).0 u) (cell B M wt fits (sides r.right).1 v)))
      (span_left ev i l m (omega arith)) (span_right ev i l m (omega arith))))
