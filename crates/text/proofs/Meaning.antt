-- What the outcome of a line means.
use Rattle.std.proofs.Common.{◌≡◌, ℕ, ◌+◌, ◌-◌, ◌<◌, ◌≤◌, Bool, true, false, cond, ltb, leb, ◌⊎◌, List, [], ◌∷◌, ◌++◌, map, length, Some, None, Option, sym, refl, ap, ◌∙◌, subst, inl, inr, ⊎_elim, append_assoc, append-nil, arith, length-append}
use mathlib.Core.List.{map-append}
use Rattle.std.proofs.lemmas.List.{length-map}
use Rattle.std.proofs.lemmas.Bool.{both_ways, cases_Bool, cases_lt, cond-true, cond-false, le-leb, leb-true, lt-ltb, le-ltb}
use Rattle.grammar.specs.Lists.{Mem}
use Rattle.grammar.specs.Productions.{Production}
use Rattle.grammar.proofs.Lists.{mem_append}
use Rattle.text.specs.Kinds.{Kind, arrow, blank, head, pattern, cost, unknown, kind}
use Rattle.text.specs.Outcomes.{word_refused, too_short, rule, written, head_of, item_of, cost_of, is_arrow, is_blank, misplaced, no_more, cost_part, item_part, right_part, arrow_part, line, kinds, item_kind, right_kinds, Writable, front_kinds, Says, Begins, Means}
use Rattle.text.proofs.Short.{by}
use Rattle.text.specs.Words.{Piece}

-- Kinds told apart

-- a number for each kind
abbrev tag : Kind → ℕ
tag arrow = 0
tag blank = 1
tag (head n) = 2
tag (pattern n) = 3
tag (cost n) = 4
tag unknown = 5

item_tag : (i : ℕ) → (tag (item_kind i) ≡ 2) ⊎ (tag (item_kind i) ≡ 3)
item_tag i = elim (ltb i 32) as (λ b. (tag (cond b (head i) (pattern (i - 32))) ≡ 2) ⊎ (tag (cond b (head i) (pattern (i - 32))) ≡ 3)) [ true ↦ inl refl | false ↦ inr refl ]

no_item : (i : ℕ) (k : Kind) → k ≡ item_kind i → (tag k ≡ 2 → ⊥) → (tag k ≡ 3 → ⊥) → ⊥
no_item i k e a b = ⊎_elim (λ (h : tag (item_kind i) ≡ 2). a (ap tag e ∙ h)) (λ (h : tag (item_kind i) ≡ 3). b (ap tag e ∙ h)) (item_tag i)

not_none : (n : ℕ) (o : Option ℕ) → o ≡ None → o ≡ Some n → ⊥
not_none n o p q = let z : ◌≡◌ {A = ℕ} 0 1 = cc in omega arith

-- the items, heads and costs within their limits are what their words name

-- it is neither blank nor an arrow
pub item_neither : (i : ℕ) → (is_blank (item_kind i) ≡ false) × (is_arrow (item_kind i) ≡ false)
item_neither i = elim (ltb i 32) as (λ b. (is_blank (cond b (head i) (pattern (i - 32))) ≡ false) × (is_arrow (cond b (head i) (pattern (i - 32))) ≡ false)) [ true ↦ (refl, refl) | false ↦ (refl, refl) ]

pub item_named : (i : ℕ) → i < 64 → item_of (item_kind i) ≡ Some i
item_named i h = ⊎_elim
    (λ (l : i < 32). ap item_of (cond-true (ltb i 32) (head i) (pattern (i - 32)) (lt-ltb i 32 l)) ∙ cond-true (leb i 31) (Some i) None (le-leb i 31 (omega arith)))
    (λ (g : 32 ≤ i).
    let e : 32 + (i - 32) ≡ i = omega arith in
    ap item_of (cond-false (ltb i 32) (head i) (pattern (i - 32)) (le-ltb i 32 g)) ∙ cond-true (leb (i - 32) 31) (Some (32 + (i - 32))) None (le-leb (i - 32) 31 (omega arith)) ∙ ap Some e)
    (cases_lt i 32)

same_some : (m n : ℕ) → Some m ≡ Some n → m ≡ n
same_some m n e = cc

within_limit : (n m limit i : ℕ) → cond (leb n limit) (Some m) None ≡ Some i → (n ≤ limit) × (m ≡ i)
within_limit n m limit i e = ⊎_elim
    (λ (t : leb n limit ≡ true). (leb-true n limit t, same_some m i (sym (cond-true (leb n limit) (Some m) None t) ∙ e)))
    (λ (f : leb n limit ≡ false). absurd (not_none i None refl (sym (cond-false (leb n limit) (Some m) None f) ∙ e)))
    (cases_Bool (leb n limit))

item_word : (k : Kind) (i : ℕ) → item_of k ≡ Some i → (k ≡ item_kind i) × (i < 64)
item_word arrow i e = absurd (not_none i None refl e)
item_word blank i e = absurd (not_none i None refl e)
item_word (head n) i e =
    let w = within_limit n n 31 i e in
    (ap head w.1 ∙ sym (cond-true (ltb i 32) (head i) (pattern (i - 32)) (lt-ltb i 32 (omega (arith, w.0, w.1)))), omega (arith, w.0, w.1))
item_word (pattern n) i e =
    let w = within_limit n (32 + n) 31 i e in
    let s : n ≡ i - 32 = omega (arith, w.1) in
    (ap pattern s ∙ sym (cond-false (ltb i 32) (head i) (pattern (i - 32)) (le-ltb i 32 (omega (arith, w.1)))), omega (arith, w.0, w.1))
item_word (cost n) i e = absurd (not_none i None refl e)
item_word unknown i e = absurd (not_none i None refl e)

head_word : (k : Kind) (h : ℕ) → head_of k ≡ Some h → (k ≡ head h) × (h ≤ 31)
head_word arrow h e = absurd (not_none h None refl e)
head_word blank h e = absurd (not_none h None refl e)
head_word (head n) h e = let w = within_limit n n 31 h e in (ap head w.1, omega (arith, w.0, w.1))
head_word (pattern n) h e = absurd (not_none h None refl e)
head_word (cost n) h e = absurd (not_none h None refl e)
head_word unknown h e = absurd (not_none h None refl e)

cost_word : (k : Kind) (c : ℕ) → cost_of k ≡ Some c → (k ≡ cost c) × (c ≤ 65535)
cost_word arrow c e = absurd (not_none c None refl e)
cost_word blank c e = absurd (not_none c None refl e)
cost_word (head n) c e = absurd (not_none c None refl e)
cost_word (pattern n) c e = absurd (not_none c None refl e)
cost_word (cost n) c e = let w = within_limit n n 65535 c e in (ap cost w.1, omega (arith, w.0, w.1))
cost_word unknown c e = absurd (not_none c None refl e)

arrow_word : (k : Kind) → is_arrow k ≡ true → k ≡ arrow
arrow_word arrow e = refl
arrow_word blank e = absurd (both_ways _ refl e)
arrow_word (head n) e = absurd (both_ways _ refl e)
arrow_word (pattern n) e = absurd (both_ways _ refl e)
arrow_word (cost n) e = absurd (both_ways _ refl e)
arrow_word unknown e = absurd (both_ways _ refl e)

blank_word : (k : Kind) → is_blank k ≡ true → k ≡ blank
blank_word arrow e = absurd (both_ways _ refl e)
blank_word blank e = refl
blank_word (head n) e = absurd (both_ways _ refl e)
blank_word (pattern n) e = absurd (both_ways _ refl e)
blank_word (cost n) e = absurd (both_ways _ refl e)
blank_word unknown e = absurd (both_ways _ refl e)

-- Sound lines

pub first_same : (j k : Kind) (js ks : List Kind) → j ∷ js ≡ k ∷ ks → j ≡ k
first_same j k js ks e = cc

pub rest_same : (j k : Kind) (js ks : List Kind) → j ∷ js ≡ k ∷ ks → js ≡ ks
rest_same j k js ks e = cc

pub not_empty : (k : Kind) (ks : List Kind) → k ∷ ks ≡ [] → ⊥
not_empty k ks e = omega (arith, ap length e)

-- what may come behind a right side: nothing, a cost, or a further item behind items
abbrev Behind : List ℕ → List Kind → Type 0
Behind is x = (x ≡ []) ⊎ (((c : ℕ) × (c ≤ 65535) × (x ≡ cost c ∷ [])) ⊎ ((is ≡ [] → ⊥) × ((j : ℕ) × ((y : List Kind) × (j < 64) × (x ≡ item_kind j ∷ y)))))

-- what a cost is in a sound line
abbrev Tail : List Kind → Type 0
Tail t = (t ≡ []) ⊎ ((c : ℕ) × (c ≤ 65535) × (t ≡ cost c ∷ []))

tail_behind : (is : List ℕ) (x t : List Kind) → x ≡ t → Tail t → Behind is x
tail_behind is x t e (inl z) = inl (e ∙ z)
tail_behind is x t e (inr (c, l, z)) = inr (inl (c, l, e ∙ z))

no_item_tail : (i : ℕ) (y t : List Kind) → item_kind i ∷ y ≡ t → Tail t → ⊥
no_item_tail i y t e (inl z) = not_empty (item_kind i) y (e ∙ z)
no_item_tail i y t e (inr (c, l, z)) = no_item i (cost c) (sym (first_same (item_kind i) (cost c) y [] (e ∙ z))) (λ q. omega arith) (λ q. omega arith)

-- items before what is behind them
items_behind : (is js : List ℕ) (x t : List Kind) → map item_kind is ++ x ≡ map item_kind js ++ t → ((j : ℕ) → Mem j js → j < 64) → Tail t
    → Behind (0 ∷ []) x
items_behind [] [] x t e low tail = tail_behind (0 ∷ []) x t e tail
items_behind [] (j ∷ js) x t e low tail = inr (inr ((λ q. omega (arith, ap length q)), (j, (map item_kind js ++ t, low j (inl refl), e))))
items_behind (i ∷ is) [] x t e low tail = absurd (no_item_tail i (map item_kind is ++ x) t e tail)
items_behind (i ∷ is) (j ∷ js) x t e low tail = items_behind is js x t (rest_same (item_kind i) (item_kind j) (map item_kind is ++ x) (map item_kind js ++ t) e) (λ k m. low k (inr m)) tail

right_behind : (is js : List ℕ) (x t : List Kind) → right_kinds is ++ x ≡ right_kinds js ++ t → ((j : ℕ) → Mem j js → j < 64) → Tail t → Behind is x
right_behind [] [] x t e low tail = tail_behind [] x t (rest_same blank blank x t e) tail
right_behind [] (j ∷ js) x t e low tail = absurd (no_item j blank (first_same blank (item_kind j) x (map item_kind js ++ t) e) (λ q. omega arith) (λ q. omega arith))
right_behind (i ∷ is) [] x t e low tail = absurd (no_item i blank (sym (first_same (item_kind i) blank (map item_kind is ++ x) t e)) (λ q. omega arith) (λ q. omega arith))
right_behind (i ∷ is) (j ∷ js) x t e low tail = elim (items_behind (i ∷ is) (j ∷ js) x t e low tail) [
  | inl z ↦ inl z
  | inr (inl z) ↦ inr (inl z)
  | inr (inr z) ↦ inr (inr ((λ q. omega (arith, ap length q)), z.1))
]

-- the words of a production, with what is behind its right side
says_tail : (ks : List Kind) (p : Production) → Says ks p → (t : List Kind) × Tail t × (ks ≡ head p.head ∷ (arrow ∷ (right_kinds p.right ++ t)))
says_tail ks p (w, inl e) = (cost p.cost ∷ [], inr (p.cost, w.low_cost, refl), e)
says_tail ks p (w, inr (e, z)) = ([], inl refl, e ∙ ap (λ l. head p.head ∷ (arrow ∷ l)) (sym (append-nil (right_kinds p.right))))

-- the first of some words
abbrev first_piece : List Piece → Piece → Piece
first_piece [] w = w
first_piece (v ∷ vs) w = v

-- Words that have been read

module _ (end : ℕ) where
  -- a word is refused
  refused_word : (before : List Piece) (w : Piece) (ws : List Piece) → Begins (kinds before) → (Begins (kinds before ++ (kind w.bytes ∷ [])) → ⊥) → Means end (before ++ (w ∷ ws)) (misplaced w)
  refused_word before w ws b n = word_refused before w ws refl b n

  -- a production from the limits of its parts
  can_write : (h : ℕ) (is : List ℕ) (c : ℕ) → h ≤ 31 → ((i : ℕ) → Mem i is → i < 64) → c ≤ 65535 → Writable (written h is c)
  can_write h is c a b d = record { low_head = a; low_items = b; low_cost = d }

  module _ (h : ℕ) (low : h ≤ 31) where
    begins_front : (is : List ℕ) (before : List Piece) → ((i : ℕ) → Mem i is → i < 64) → kinds before ≡ front_kinds (written h is 0) → Begins (kinds before)
    begins_front is before items e = (written h is 0, ([], (can_write h is 0 low items (omega arith), inr (append-nil (kinds before) ∙ e, refl))))

    -- what may come behind a right side that has been read
    behind_front : (is : List ℕ) (ks x : List Kind) (p : Production) → ks ≡ front_kinds (written h is 0) → Says (ks ++ x) p → Behind is x
    behind_front is ks x p e s =
        let t = says_tail (ks ++ x) p s in
        let q = rest_same (head h) (head p.head) (arrow ∷ (right_kinds is ++ x)) (arrow ∷ (right_kinds p.right ++ t.0)) (sym (ap (λ l. l ++ x) e) ∙ t.2) in
        right_behind is p.right x t.0 (rest_same arrow arrow (right_kinds is ++ x) (right_kinds p.right ++ t.0) q) s.0.low_items t.1

    -- behind a right side: at most a cost
    cost_means : (is : List ℕ) (before ws : List Piece) → ((i : ℕ) → Mem i is → i < 64) → kinds before ≡ front_kinds (written h is 0)
        → ((w : Piece) (rest : List Piece) → ws ≡ w ∷ rest → (is ≡ []) ⊎ (item_of (kind w.bytes) ≡ None)) → Means end (before ++ ws) (cost_part h is ws)
    cost_means is before [] items e stop = (can_write h is 0 low items (omega arith), inr (ap kinds (append-nil before) ∙ e, refl))
    cost_means is before (w ∷ ws) items e stop = at (cost_of (kind w.bytes)) refl
      where
        -- no cost
        none : cost_of (kind w.bytes) ≡ None → Begins (kinds before ++ (kind w.bytes ∷ [])) → ⊥
        none n (p, (more, s)) = elim (behind_front is (kinds before) (kind w.bytes ∷ more) p e (subst (λ l. Says l p) (append_assoc (kinds before) (kind w.bytes ∷ []) more) s)) [
          | inl z ↦ not_empty (kind w.bytes) more z
          | inr (inl (c, l, z)) ↦
              let k = first_same (kind w.bytes) (cost c) more [] z in
              not_none c (cost_of (kind w.bytes)) n (ap cost_of k ∙ cond-true (leb c 65535) (Some c) None (le-leb c 65535 l))
          | inr (inr (some, (j, (y, l, z)))) ↦
              let k = first_same (kind w.bytes) (item_kind j) more y z in
              ⊎_elim (λ (q : is ≡ []). some q) (λ (q : item_of (kind w.bytes) ≡ None). not_none j (item_of (kind w.bytes)) q (ap item_of k ∙ item_named j l)) (stop w ws refl)
        ]

        -- a word behind the cost
        more_behind : (c : ℕ) → kind w.bytes ≡ cost c → c ≤ 65535 → (vs : List Piece) → Means end (before ++ (w ∷ vs)) (no_more (rule (written h is c)) vs)
        more_behind c k l [] = (can_write h is c low items l, inl (map-append (λ (v : Piece). kind v.bytes) before (w ∷ []) ∙ ap (λ z. z ++ (kind w.bytes ∷ [])) e ∙ ap (λ z. front_kinds (written h is 0) ++ (z ∷ [])) k))
        more_behind c k l (v ∷ vs) =
            let all : kinds (before ++ (w ∷ [])) ≡ front_kinds (written h is 0) ++ (cost c ∷ []) = map-append (λ (v : Piece). kind v.bytes) before (w ∷ []) ∙ ap (λ z. z ++ (kind w.bytes ∷ [])) e ∙ ap (λ z. front_kinds (written h is 0) ++ (z ∷ [])) k in
            subst (λ z. Means end z (misplaced v)) (append_assoc before (w ∷ []) (v ∷ vs))
            (refused_word (before ++ (w ∷ [])) v vs (written h is c, ([], (can_write h is c low items l, inl (append-nil (kinds (before ++ (w ∷ []))) ∙ all)))) (too_many all))
          where
            too_many : kinds (before ++ (w ∷ [])) ≡ front_kinds (written h is 0) ++ (cost c ∷ []) → Begins (kinds (before ++ (w ∷ [])) ++ (kind v.bytes ∷ [])) → ⊥
            too_many all (p, (more, s)) =
                let x = cost c ∷ (kind v.bytes ∷ more) in
                let f = front_kinds (written h is 0) in
                let regroup : (kinds (before ++ (w ∷ [])) ++ (kind v.bytes ∷ [])) ++ more ≡ f ++ x = ap (λ z. (z ++ (kind v.bytes ∷ [])) ++ more) all ∙ append_assoc (f ++ (cost c ∷ [])) (kind v.bytes ∷ []) more ∙ append_assoc f (cost c ∷ []) (kind v.bytes ∷ more) in
                elim (behind_front is f x p refl (subst (λ z. Says z p) regroup s)) [
                  | inl z ↦ not_empty (cost c) (kind v.bytes ∷ more) z
                  | inr (inl (d, l, z)) ↦ not_empty (kind v.bytes) more (rest_same (cost c) (cost d) (kind v.bytes ∷ more) [] z)
                  | inr (inr (some, (j, (y, l, z)))) ↦ no_item j (cost c) (first_same (cost c) (item_kind j) (kind v.bytes ∷ more) y z) (λ q. omega arith) (λ q. omega arith)
                ]

        at : (o : Option ℕ) → cost_of (kind w.bytes) ≡ o → Means end (before ++ (w ∷ ws)) (by o (misplaced w) (λ c. no_more (rule (written h is c)) ws))
        at None n = refused_word before w ws (begins_front is before items e) (none n)
        at (Some c) s = let k = cost_word (kind w.bytes) c s in more_behind c k.0 k.1 ws

    more_items : (is : List ℕ) (i : ℕ) → (is ≡ [] → ⊥) → right_kinds is ++ (item_kind i ∷ []) ≡ right_kinds (is ++ (i ∷ []))
    more_items [] i some = absurd (some refl)
    more_items (j ∷ is) i some = sym (map-append item_kind (j ∷ is) (i ∷ []))

    pushed_some : (is : List ℕ) (i : ℕ) → is ++ (i ∷ []) ≡ [] → ⊥
    pushed_some is i e = omega (arith, ap length e, length-append is (i ∷ []))

    pushed_low : (is : List ℕ) (i : ℕ) → ((j : ℕ) → Mem j is → j < 64) → i < 64 → (j : ℕ) → Mem j (is ++ (i ∷ [])) → j < 64
    pushed_low is i low l j m = elim (mem_append j is (i ∷ []) m) [ inl k ↦ low j k | inr (inl e) ↦ subst (λ n. n < 64) (sym e) l | inr (inr k) ↦ absurd k ]

    -- behind some items: further items, then at most a cost
    item_means : (is : List ℕ) (before ws : List Piece) → (is ≡ [] → ⊥) → ((i : ℕ) → Mem i is → i < 64) → kinds before ≡ front_kinds (written h is 0) → Means end (before ++ ws) (item_part h is ws)
    unfolding item_part
    item_means is before [] some items e = cost_means is before [] items e (λ w rest q. absurd (omega (arith, ap length q)))
    item_means is before (w ∷ ws) some items e = at (item_of (kind w.bytes)) refl (λ i k l.
        subst (λ z. Means end z (item_part h (is ++ (i ∷ [])) ws)) (append_assoc before (w ∷ []) ws)
        (item_means (is ++ (i ∷ [])) (before ++ (w ∷ [])) ws (pushed_some is i) (pushed_low is i items l)
        (map-append (λ (v : Piece). kind v.bytes) before (w ∷ []) ∙ ap (λ z. z ++ (kind w.bytes ∷ [])) e ∙ ap (λ z. front_kinds (written h is 0) ++ (z ∷ [])) k ∙ ap (λ z. head h ∷ (arrow ∷ z)) (more_items is i some))))
      where
        at : (o : Option ℕ) → item_of (kind w.bytes) ≡ o → ((i : ℕ) → kind w.bytes ≡ item_kind i → i < 64 → Means end (before ++ (w ∷ ws)) (item_part h (is ++ (i ∷ [])) ws))
            → Means end (before ++ (w ∷ ws)) (by o (cost_part h is (w ∷ ws)) (λ i. item_part h (is ++ (i ∷ [])) ws))
        at None n more = cost_means is before (w ∷ ws) items e (λ v rest q. inr (ap (λ (l : List Piece). item_of (kind (first_piece l w).bytes)) (sym q) ∙ n))
        at (Some i) s more = let k = item_word (kind w.bytes) i s in more i k.0 k.1

    -- behind the arrow
    right_means : (before ws : List Piece) → kinds before ≡ head h ∷ (arrow ∷ []) → Means end (before ++ ws) (right_part end h ws)
    right_means before [] e = too_short
        (omega (arith, ap length (ap kinds (append-nil before) ∙ e), length-map (before ++ []) (λ (v : Piece). kind v.bytes)))
        (written h [] 0, (blank ∷ [], (can_write h [] 0 low (λ i m. absurd m) (omega arith), inr (ap (λ z. z ++ (blank ∷ [])) (ap kinds (append-nil before) ∙ e), refl))))
        (λ p s.
        let t = says_tail (kinds (before ++ [])) p s in
        let q = sym (ap kinds (append-nil before) ∙ e) ∙ t.2 in
        no_right p.right t.0 (rest_same arrow arrow [] (right_kinds p.right ++ t.0) (rest_same (head h) (head p.head) (arrow ∷ []) (arrow ∷ (right_kinds p.right ++ t.0)) q)))
      where
        no_right : (is : List ℕ) (t : List Kind) → [] ≡ right_kinds is ++ t → ⊥
        no_right [] t e = not_empty blank t (sym e)
        no_right (i ∷ is) t e = not_empty (item_kind i) (map item_kind is ++ t) (sym e)
    right_means before (w ∷ ws) e = by_blank (is_blank (kind w.bytes)) refl
      where
        grown : (k : Kind) → kind w.bytes ≡ k → kinds (before ++ (w ∷ [])) ≡ head h ∷ (arrow ∷ (k ∷ []))
        grown k q = map-append (λ (v : Piece). kind v.bytes) before (w ∷ []) ∙ ap (λ z. z ++ (kind w.bytes ∷ [])) e ∙ ap (λ z. head h ∷ (arrow ∷ (z ∷ []))) q

        neither : is_blank (kind w.bytes) ≡ false → item_of (kind w.bytes) ≡ None → Begins (kinds before ++ (kind w.bytes ∷ [])) → ⊥
        neither nb ni (p, (more, s)) =
            let t = says_tail ((kinds before ++ (kind w.bytes ∷ [])) ++ more) p s in
            let q = sym (ap (λ z. (z ++ (kind w.bytes ∷ [])) ++ more) e) ∙ t.2 in
            first p.right t.0 s.0.low_items (rest_same arrow arrow (kind w.bytes ∷ more) (right_kinds p.right ++ t.0) (rest_same (head h) (head p.head) (arrow ∷ (kind w.bytes ∷ more)) (arrow ∷ (right_kinds p.right ++ t.0)) q))
          where
            first : (is : List ℕ) (t : List Kind) → ((i : ℕ) → Mem i is → i < 64) → kind w.bytes ∷ more ≡ right_kinds is ++ t → ⊥
            first [] t items z = both_ways _ nb (ap is_blank (first_same (kind w.bytes) blank more t z))
            first (i ∷ is) t items z = not_none i (item_of (kind w.bytes)) ni (ap item_of (first_same (kind w.bytes) (item_kind i) more (map item_kind is ++ t) z) ∙ item_named i (items i (inl refl)))

        by_item : (o : Option ℕ) → item_of (kind w.bytes) ≡ o → is_blank (kind w.bytes) ≡ false → Means end (before ++ (w ∷ ws)) (by o (misplaced w) (λ i. item_part h (i ∷ []) ws))
        by_item None n nb = refused_word before w ws (written h [] 0, (blank ∷ [], (can_write h [] 0 low (λ i m. absurd m) (omega arith), inr (ap (λ z. z ++ (blank ∷ [])) e, refl)))) (neither nb n)
        by_item (Some i) s nb =
            let k = item_word (kind w.bytes) i s in
            subst (λ z. Means end z (item_part h (i ∷ []) ws)) (append_assoc before (w ∷ []) ws)
            (item_means (i ∷ []) (before ++ (w ∷ [])) ws (λ q. omega (arith, ap length q)) (λ j m. elim m [ inl q ↦ subst (λ n. n < 64) (sym q) k.1 | inr q ↦ absurd q ]) (grown (item_kind i) k.0))

        by_blank : (b : Bool) → is_blank (kind w.bytes) ≡ b → Means end (before ++ (w ∷ ws)) (cond b (cost_part h [] ws) (by (item_of (kind w.bytes)) (misplaced w) (λ i. item_part h (i ∷ []) ws)))
        by_blank true t = subst (λ z. Means end z (cost_part h [] ws)) (append_assoc before (w ∷ []) ws) (cost_means [] (before ++ (w ∷ [])) ws (λ i m. absurd m) (grown blank (blank_word (kind w.bytes) t)) (λ v rest q. inl refl))
        by_blank false f = by_item (item_of (kind w.bytes)) refl f

    -- behind the head
    arrow_means : (v : Piece) (ws : List Piece) → kind v.bytes ≡ head h → Means end (v ∷ ws) (arrow_part end h ws)
    arrow_means v [] e = too_short
        (omega arith)
        (written h [] 0, (arrow ∷ (blank ∷ []), (can_write h [] 0 low (λ i m. absurd m) (omega arith), inr (ap (λ z. z ∷ (arrow ∷ (blank ∷ []))) e, refl))))
        (λ p s. let t = says_tail (kind v.bytes ∷ []) p s in not_empty arrow (right_kinds p.right ++ t.0) (sym (rest_same (kind v.bytes) (head p.head) [] (arrow ∷ (right_kinds p.right ++ t.0)) t.2)))
    arrow_means v (w ∷ ws) e = at (is_arrow (kind w.bytes)) refl
      where
        no_arrow : is_arrow (kind w.bytes) ≡ false → Begins (kinds (v ∷ []) ++ (kind w.bytes ∷ [])) → ⊥
        no_arrow f (p, (more, s)) =
            let t = says_tail (kind v.bytes ∷ (kind w.bytes ∷ more)) p s in
            both_ways _ f (ap is_arrow (first_same (kind w.bytes) arrow more (right_kinds p.right ++ t.0) (rest_same (kind v.bytes) (head p.head) (kind w.bytes ∷ more) (arrow ∷ (right_kinds p.right ++ t.0)) t.2)))

        at : (b : Bool) → is_arrow (kind w.bytes) ≡ b → Means end (v ∷ (w ∷ ws)) (cond b (right_part end h ws) (misplaced w))
        at true t = right_means (v ∷ (w ∷ [])) ws (ap (λ z. z ∷ (kind w.bytes ∷ [])) e ∙ ap (λ z. head h ∷ (z ∷ [])) (arrow_word (kind w.bytes) t))
        at false f = refused_word (v ∷ []) w ws (written h [] 0, (arrow ∷ (blank ∷ []), (can_write h [] 0 low (λ i m. absurd m) (omega arith), inr (ap (λ z. z ∷ (arrow ∷ (blank ∷ []))) e, refl)))) (no_arrow f)

  -- a whole line
  pub line_means : (ws : List Piece) → Means end ws (line end ws)
  line_means [] = refl
  line_means (w ∷ ws) = at (head_of (kind w.bytes)) refl
    where
      no_head : head_of (kind w.bytes) ≡ None → Begins (kinds [] ++ (kind w.bytes ∷ [])) → ⊥
      no_head n (p, (more, s)) =
          let t = says_tail (kind w.bytes ∷ more) p s in
          let k = first_same (kind w.bytes) (head p.head) more (arrow ∷ (right_kinds p.right ++ t.0)) t.2 in
          not_none p.head (head_of (kind w.bytes)) n (ap head_of k ∙ cond-true (leb p.head 31) (Some p.head) None (le-leb p.head 31 s.0.low_head))

      at : (o : Option ℕ) → head_of (kind w.bytes) ≡ o → Means end (w ∷ ws) (by o (misplaced w) (λ h. arrow_part end h ws))
      at None n = refused_word [] w ws (written 0 [] 0, (head 0 ∷ (arrow ∷ (blank ∷ [])), (can_write 0 [] 0 (omega arith) (λ i m. absurd m) (omega arith), inr (refl, refl)))) (no_head n)
      at (Some h) s = let k = head_word (kind w.bytes) h s in arrow_means h k.1 w ws k.0
