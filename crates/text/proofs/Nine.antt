-- A line's items as far as they are kept: the first nine.
use Rattle.std.proofs.Common.{◌≡◌, ℕ, ◌<◌, ◌≤◌, List, [], ◌∷◌, ◌++◌, length, take, Some, None, Option, sym, refl, ap, ◌∙◌, inl, inr, ⊎_elim, arith}
use Rattle.std.proofs.lemmas.List.{take_all, take-take, take-append-le, length-take-le}
use Rattle.std.proofs.lemmas.Bool.{cases_lt}
use Rattle.text.specs.Kinds.{kind}
use Rattle.text.specs.Outcomes.{rule, written, misplaced, no_more, item_of, cost_of, cost_part, item_part, in_nine}
use Rattle.text.proofs.Short.{by}
use Rattle.text.specs.Words.{Piece}

push_nine : (is : List ℕ) (i : ℕ) → take 9 (take 9 is ++ (i ∷ [])) ≡ take 9 (is ++ (i ∷ []))
push_nine is i = ⊎_elim
    (λ (h : length is ≤ 9). ap (λ l. take 9 (l ++ (i ∷ []))) (take_all 9 is h))
    (λ (h : 9 ≤ length is). let n = length-take-le 9 is h in take-append-le 9 (take 9 is) (i ∷ []) (omega arith) ∙ take-take 9 9 is (omega arith) ∙ sym (take-append-le 9 is (i ∷ []) h))
    (⊎_elim (λ (h : length is < 9). inl (omega arith)) (λ (h : 9 ≤ length is). inr h) (cases_lt (length is) 9))

nine_cost : (h : ℕ) (is : List ℕ) (ws : List Piece) → in_nine (cost_part h (take 9 is) ws) ≡ in_nine (cost_part h is ws)
nine_cost h is [] = ap (λ l. rule (written h l 0)) (take-take 9 9 is (omega arith))
nine_cost h is (w ∷ ws) = elim (cost_of (kind w.bytes)) as (λ (o : Option ℕ). in_nine (by o (misplaced w) (λ c. no_more (rule (written h (take 9 is) c)) ws)) ≡ in_nine (by o (misplaced w) (λ c. no_more (rule (written h is c)) ws)))
    [ None ↦ refl | Some c ↦ behind c ws ]
  where
    behind : (c : ℕ) (ws : List Piece) → in_nine (no_more (rule (written h (take 9 is) c)) ws) ≡ in_nine (no_more (rule (written h is c)) ws)
    behind c [] = ap (λ l. rule (written h l c)) (take-take 9 9 is (omega arith))
    behind c (v ∷ vs) = refl

nine_items : (h : ℕ) (is : List ℕ) (ws : List Piece) → in_nine (item_part h (take 9 is) ws) ≡ in_nine (item_part h is ws)
unfolding item_part
nine_items h is [] = nine_cost h is []
nine_items h is (w ∷ ws) = elim (item_of (kind w.bytes)) as (λ (o : Option ℕ). in_nine (by o (cost_part h (take 9 is) (w ∷ ws)) (λ i. item_part h (take 9 is ++ (i ∷ [])) ws)) ≡ in_nine (by o (cost_part h is (w ∷ ws)) (λ i. item_part h (is ++ (i ∷ [])) ws))) [
  | None ↦ nine_cost h is (w ∷ ws)
  | Some i ↦ sym (nine_items h (take 9 is ++ (i ∷ [])) ws) ∙ ap (λ l. in_nine (item_part h l ws)) (push_nine is i) ∙ nine_items h (is ++ (i ∷ [])) ws
]

-- one item more
pub item_step : (h : ℕ) (is js : List ℕ) (i : ℕ) (w : Piece) (all rest : List Piece) → all ≡ w ∷ rest → Some i ≡ item_of (kind w.bytes) → js ≡ take 9 (is ++ (i ∷ []))
    → in_nine (item_part h js rest) ≡ in_nine (item_part h is all)
unfolding item_part
item_step h is js i w all rest e s n =
    ap (λ l. in_nine (item_part h l rest)) n ∙ nine_items h (is ++ (i ∷ [])) rest
    ∙ ap (λ (o : Option ℕ). in_nine (by o (cost_part h is (w ∷ rest)) (λ i. item_part h (is ++ (i ∷ [])) rest))) s ∙ sym (ap (λ l. in_nine (item_part h is l)) e)

cost_kept : (h : ℕ) (is : List ℕ) (ws : List Piece) → length is ≤ 9 → in_nine (cost_part h is ws) ≡ cost_part h is ws
cost_kept h is [] l = ap (λ m. rule (written h m 0)) (take_all 9 is l)
cost_kept h is (w ∷ ws) l = elim (cost_of (kind w.bytes)) as (λ (o : Option ℕ). in_nine (by o (misplaced w) (λ c. no_more (rule (written h is c)) ws)) ≡ by o (misplaced w) (λ c. no_more (rule (written h is c)) ws))
    [ None ↦ refl | Some c ↦ behind c ws ]
  where
    behind : (c : ℕ) (ws : List Piece) → in_nine (no_more (rule (written h is c)) ws) ≡ no_more (rule (written h is c)) ws
    behind c [] = ap (λ m. rule (written h m c)) (take_all 9 is l)
    behind c (v ∷ vs) = refl

-- no item more: the line ends
pub items_end : (h : ℕ) (is : List ℕ) (all : List Piece) → length is ≤ 9 → all ≡ [] → cost_part h is all ≡ in_nine (item_part h is all)
unfolding item_part
items_end h is all l e = sym (cost_kept h is all l) ∙ ap (λ ws. in_nine (cost_part h is ws)) e ∙ sym (ap (λ ws. in_nine (item_part h is ws)) e)

-- no item more: another word comes
pub items_stop : (h : ℕ) (is : List ℕ) (w : Piece) (all rest : List Piece) → length is ≤ 9 → all ≡ w ∷ rest → None ≡ item_of (kind w.bytes) → cost_part h is all ≡ in_nine (item_part h is all)
unfolding item_part
items_stop h is w all rest l e n =
    sym (cost_kept h is all l) ∙ ap (λ ws. in_nine (cost_part h is ws)) e
    ∙ ap (λ (o : Option ℕ). in_nine (by o (cost_part h is (w ∷ rest)) (λ i. item_part h (is ++ (i ∷ [])) rest))) n ∙ sym (ap (λ ws. in_nine (item_part h is ws)) e)
