-- A sound line gives its production.
use Rattle.std.proofs.Common.{◌≡◌, ℕ, ◌<◌, ◌≤◌, cond, leb, List, [], ◌∷◌, ◌++◌, map, Some, None, Option, sym, refl, ap, ◌∙◌, inl, inr, append_assoc, append-nil}
use Rattle.std.proofs.lemmas.Bool.{cond-true, le-leb}
use Rattle.grammar.specs.Lists.{Mem}
use Rattle.grammar.specs.Productions.{Production}
use Rattle.text.specs.Kinds.{Kind, arrow, blank, head, cost, kind}
use Rattle.text.specs.Outcomes.{rule, written, head_of, item_of, cost_of, is_arrow, is_blank, misplaced, no_more, cost_part, item_part, right_part, arrow_part, line, kinds, item_kind, right_kinds, Says}
use Rattle.text.proofs.Short.{by}
use Rattle.text.specs.Words.{Piece}
use Rattle.text.proofs.Meaning.{item_named, item_neither, first_same, rest_same, not_empty}

-- what the last words say of a cost
pub data Costs (c : ℕ) : List Kind → Type 0 where
  left_out : c ≡ 0 → Costs c []
  said : c ≤ 65535 → Costs c (cost c ∷ [])

cost_says : (h : ℕ) (is : List ℕ) (c : ℕ) (ws : List Piece) (t : List Kind) → kinds ws ≡ t → Costs c t → cost_part h is ws ≡ rule (written h is c)
cost_says h is c [] t e (left_out z) = ap (λ n. rule (written h is n)) (sym z)
cost_says h is c (w ∷ ws) t e (left_out z) = absurd (not_empty (kind w.bytes) (kinds ws) e)
cost_says h is c [] t e (said l) = absurd (not_empty (cost c) [] (sym e))
cost_says h is c (w ∷ []) t e (said l) =
    ap (λ (o : Option ℕ). by o (misplaced w) (λ d. no_more (rule (written h is d)) [])) (ap cost_of (first_same (kind w.bytes) (cost c) [] [] e) ∙ cond-true (leb c 65535) (Some c) None (le-leb c 65535 l))
cost_says h is c (w ∷ (v ∷ vs)) t e (said l) = absurd (not_empty (kind v.bytes) (kinds vs) (rest_same (kind w.bytes) (cost c) (kinds (v ∷ vs)) [] e))

no_item_there : (c : ℕ) (t : List Kind) (k : Kind) (ks : List Kind) → Costs c t → k ∷ ks ≡ t → item_of k ≡ None
no_item_there c t k ks (left_out z) e = absurd (not_empty k ks e)
no_item_there c t k ks (said l) e = ap item_of (first_same k (cost c) ks [] e)

items_say : (h : ℕ) (is js : List ℕ) (c : ℕ) (ws : List Piece) (t : List Kind) → kinds ws ≡ map item_kind js ++ t → ((j : ℕ) → Mem j js → j < 64) → Costs c t → item_part h is ws ≡ rule (written h (is ++ js) c)
unfolding item_part
items_say h is [] c [] t e low s = cost_says h is c [] t e s ∙ ap (λ l. rule (written h l c)) (sym (append-nil is))
items_say h is [] c (w ∷ ws) t e low s =
    ap (λ (o : Option ℕ). by o (cost_part h is (w ∷ ws)) (λ i. item_part h (is ++ (i ∷ [])) ws)) (no_item_there c t (kind w.bytes) (kinds ws) s e)
    ∙ cost_says h is c (w ∷ ws) t e s ∙ ap (λ l. rule (written h l c)) (sym (append-nil is))
items_say h is (j ∷ js) c [] t e low s = absurd (not_empty (item_kind j) (map item_kind js ++ t) (sym e))
items_say h is (j ∷ js) c (w ∷ ws) t e low s =
    ap (λ (o : Option ℕ). by o (cost_part h is (w ∷ ws)) (λ i. item_part h (is ++ (i ∷ [])) ws)) (ap item_of (first_same (kind w.bytes) (item_kind j) (kinds ws) (map item_kind js ++ t) e) ∙ item_named j (low j (inl refl)))
    ∙ items_say h (is ++ (j ∷ [])) js c ws t (rest_same (kind w.bytes) (item_kind j) (kinds ws) (map item_kind js ++ t) e) (λ i m. low i (inr m)) s
    ∙ ap (λ l. rule (written h l c)) (append_assoc is (j ∷ []) js)

right_says : (end h : ℕ) (is : List ℕ) (c : ℕ) (ws : List Piece) (t : List Kind) → kinds ws ≡ right_kinds is ++ t → ((j : ℕ) → Mem j is → j < 64) → Costs c t → right_part end h ws ≡ rule (written h is c)
right_says end h [] c [] t e low s = absurd (not_empty blank t (sym e))
right_says end h (i ∷ is) c [] t e low s = absurd (not_empty (item_kind i) (map item_kind is ++ t) (sym e))
right_says end h [] c (w ∷ ws) t e low s =
    ap (λ b. cond b (cost_part h [] ws) (by (item_of (kind w.bytes)) (misplaced w) (λ i. item_part h (i ∷ []) ws))) (ap is_blank (first_same (kind w.bytes) blank (kinds ws) t e))
    ∙ cost_says h [] c ws t (rest_same (kind w.bytes) blank (kinds ws) t e) s
right_says end h (i ∷ is) c (w ∷ ws) t e low s =
    let k = first_same (kind w.bytes) (item_kind i) (kinds ws) (map item_kind is ++ t) e in
    ap (λ b. cond b (cost_part h [] ws) (by (item_of (kind w.bytes)) (misplaced w) (λ i. item_part h (i ∷ []) ws))) (ap is_blank k ∙ (item_neither i).0)
    ∙ ap (λ (o : Option ℕ). by o (misplaced w) (λ i. item_part h (i ∷ []) ws)) (ap item_of k ∙ item_named i (low i (inl refl)))
    ∙ items_say h (i ∷ []) is c ws t (rest_same (kind w.bytes) (item_kind i) (kinds ws) (map item_kind is ++ t) e) (λ j m. low j (inr m)) s

arrow_says : (end h : ℕ) (is : List ℕ) (c : ℕ) (ws : List Piece) (t : List Kind) → kinds ws ≡ arrow ∷ (right_kinds is ++ t) → ((j : ℕ) → Mem j is → j < 64) → Costs c t → arrow_part end h ws ≡ rule (written h is c)
arrow_says end h is c [] t e low s = absurd (not_empty arrow (right_kinds is ++ t) (sym e))
arrow_says end h is c (w ∷ ws) t e low s =
    ap (λ b. cond b (right_part end h ws) (misplaced w)) (ap is_arrow (first_same (kind w.bytes) arrow (kinds ws) (right_kinds is ++ t) e))
    ∙ right_says end h is c ws t (rest_same (kind w.bytes) arrow (kinds ws) (right_kinds is ++ t) e) low s

line_says : (end : ℕ) (p : Production) (ws : List Piece) (t : List Kind) → kinds ws ≡ head p.head ∷ (arrow ∷ (right_kinds p.right ++ t)) → p.head ≤ 31 → ((j : ℕ) → Mem j p.right → j < 64) → Costs p.cost t
    → line end ws ≡ rule p
line_says end p [] t e l low s = absurd (not_empty (head p.head) (arrow ∷ (right_kinds p.right ++ t)) (sym e))
line_says end p (w ∷ ws) t e l low s =
    let k = first_same (kind w.bytes) (head p.head) (kinds ws) (arrow ∷ (right_kinds p.right ++ t)) e in
    ap (λ (o : Option ℕ). by o (misplaced w) (λ h. arrow_part end h ws)) (ap head_of k ∙ cond-true (leb p.head 31) (Some p.head) None (le-leb p.head 31 l))
    ∙ arrow_says end p.head p.right p.cost ws t (rest_same (kind w.bytes) (head p.head) (kinds ws) (arrow ∷ (right_kinds p.right ++ t)) e) low s

pub says_rule : (end : ℕ) (ws : List Piece) (p : Production) → Says (kinds ws) p → line end ws ≡ rule p
says_rule end ws p (w, inl e) = line_says end p ws (cost p.cost ∷ []) e w.low_head w.low_items (said w.low_cost)
says_rule end ws p (w, inr (e, z)) = line_says end p ws [] (e ∙ ap (λ l. head p.head ∷ (arrow ∷ l)) (sym (append-nil (right_kinds p.right)))) w.low_head w.low_items (left_out z)
