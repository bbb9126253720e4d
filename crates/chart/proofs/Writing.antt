-- What stands below a choice, and the nodes of the derivation that it takes.
use Rattle.std.proofs.Common.{◌≡◌, ℕ, zero, suc, ◌+◌, ◌<◌, ◌≤◌, Bool, true, false, Some, List, [], ◌∷◌, ◌++◌, length, drop, get_or, sym, refl, ap, ◌∙◌, subst, ap₂, inl, inr, true≢false, arith}
use Rattle.std.proofs.lemmas.List.{append-nil}
use Rattle.grammar.specs.Lists.{Mem, span}
use Rattle.grammar.specs.Productions.{Production, production, Book, Sound, right_of, first_tail}
use Rattle.grammar.specs.Binarised.{Right, empty, unit, binary, terminal, Binarised, Has, Tree, null, over, fork, leaf, root, width}
use Rattle.grammar.specs.Binarise.{one_item, binarise_right, binarised}
use Rattle.grammar.specs.Nullable.{nullable, nullable_tree}
use Rattle.grammar.specs.Chains.{Dropped, nothing, the_right, the_left, Leads}
use Rattle.grammar.specs.Nodes.{tree_nodes}
use Rattle.grammar.specs.Taken.{step_over, yes_cell, Takes}
use Rattle.grammar.proofs.Theorems.{reading_plain, reading_one, reading_exact}
use Rattle.grammar.proofs.Once.{derives_width}
use Rattle.grammar.proofs.ChainOver.{derives_root}
use Rattle.grammar.proofs.Binarise.{whole}
use Rattle.grammar.proofs.BinarisedRules.{binarised_bounded, binarised_has, binarised_same, binarised_within, one_item_cases, head_rule, tail_same}
use Rattle.conversion.specs.Views.{drop_of}
use Rattle.chart.specs.declared.choice.Choice.{Choice}
use Rattle.chart.specs.declared.choice.Choice.TheVariants.{Step, Leaf, Fork}
use Rattle.chart.specs.Inner.{choice_number, ChoiceAt, ChoiceTaken, RuleOver, Stands, below_root, blank_nodes, AllBlank}
use Rattle.chart.proofs.BlankNodes.{first_right, first_pair, blank_width, tail_nodes, nullable_head, item_below}
use Rattle.grammar.proofs.Marks.{head_mark, no_mark}

-- the nodes of a tree by its root: of a head its node first, of a tail those below alone

pub tail_below : (i : ℕ) (s : Tree) → 32 ≤ root s → tree_nodes i s ≡ below_root i s
tail_below i (null x n) h = no_mark x n i 0 [] h
tail_below i (over x n s) h = no_mark x n i (width s) (tree_nodes i s) h
tail_below i (fork x n s t) h = no_mark x n i (width s + width t) (tree_nodes i s ++ tree_nodes (i + width s) t) h
tail_below i (leaf x n) h = no_mark x n i 1 [] h

-- the number of the rule at the root
abbrev root_number : Tree → ℕ
root_number (null x n) = n
root_number (over x n s) = n
root_number (fork x n s t) = n
root_number (leaf x n) = n

head_below : (i : ℕ) (s : Tree) → root s < 32 → tree_nodes i s ≡ record { rule = root_number s; first = i; count = width s } ∷ below_root i s
head_below i (null x n) h = head_mark x n i 0 [] h
head_below i (over x n s) h = head_mark x n i (width s) (tree_nodes i s) h
head_below i (fork x n s t) h = head_mark x n i (width s + width t) (tree_nodes i s ++ tree_nodes (i + width s) t) h
head_below i (leaf x n) h = head_mark x n i 1 [] h

step_number : (B : Binarised) (x n : ℕ) (d : Dropped) (t : Tree) → root_number (step_over B x n d t) ≡ n
step_number B x n nothing t = refl
step_number B x n (the_right z) t = refl
step_number B x n (the_left z) t = refl

module _ (W : Book) (S : Sound W) where
  module _ {E : Type 0} (fits : E → ℕ → Bool) where
    pub taken_width : (x : ℕ) (s : Tree) (w : List E) → Takes (binarised W) fits x s w → width s ≡ length w
    taken_width x s w t = derives_width (binarised W) fits x s w (reading_plain (binarised W) (binarised_bounded W S) fits x s w t).0

    pub taken_root : (x : ℕ) (s : Tree) (w : List E) → Takes (binarised W) fits x s w → root s ≡ x
    taken_root x s w t = derives_root (binarised W) fits x s w (reading_plain (binarised W) (binarised_bounded W S) fits x s w t).0

    pub taken_one : (x : ℕ) (s t : Tree) (w : List E) → Takes (binarised W) fits x s w → Takes (binarised W) fits x t w → s ≡ t
    taken_one x s t w = reading_one (binarised W) (binarised_bounded W S) fits x s t w

    -- where a derivation is taken the cell says yes
    pub taken_yes : (x : ℕ) (s : Tree) (w : List E) → Takes (binarised W) fits x s w → yes_cell (binarised W) fits x w ≡ false → ⊥
    taken_yes x s w t n = true≢false (sym ((reading_exact (binarised W) (binarised_bounded W S) fits x w).1 (s, t)) ∙ n)

    -- a pattern's own symbol has no node
    pub pattern_nodes : (i x : ℕ) (s : Tree) (w : List E) → 32 ≤ x → x < 64 → Takes (binarised W) fits x s w → tree_nodes i s ≡ []
    pattern_nodes i x s w h l t =
        let d = (reading_plain (binarised W) (binarised_bounded W S) fits x s w t).0 in
        let k = (whole W S fits d).at_symbol h l in
        ap (tree_nodes i) (sym k.1.4) ∙ no_mark x 255 i 1 [] h

    -- the derivation taken has the chosen rule at its root
    chosen_number : (x : ℕ) (es : List E) (i n : ℕ) (c : Choice) (s : Tree) → Takes (binarised W) fits x s (span es i n) → ChoiceTaken (binarised W) fits x es i n (Some c)
        → root_number s ≡ choice_number c
    chosen_number x es i n (Step u) s t c = ap root_number (taken_one x s _ (span es i n) t c.2) ∙ step_number (binarised W) x u.number (drop_of u.dropped) c.0
    chosen_number x es i n (Leaf k) s t c = ap root_number (taken_one x s _ (span es i n) t c)
    chosen_number x es i n (Fork k y z m) s t c = ap root_number (taken_one x s _ (span es i n) t c.1.3)

    -- of a head: the node of that rule, then those below
    pub head_chosen : (x : ℕ) (es : List E) (i n : ℕ) (c : Choice) (s : Tree) → x < 32 → length (span es i n) ≡ n → Takes (binarised W) fits x s (span es i n)
        → ChoiceTaken (binarised W) fits x es i n (Some c) → tree_nodes i s ≡ record { rule = choice_number c; first = i; count = n } ∷ below_root i s
    head_chosen x es i n c s h long t taken =
        head_below i s (subst (λ y. y < 32) (sym (taken_root x s (span es i n) t)) h)
        ∙ ap₂ (λ k m. record { rule = k; first = i; count = m } ∷ below_root i s) (chosen_number x es i n c s t taken) (taken_width x s (span es i n) t ∙ long)

    -- below the root of the derivation taken, by the choice

    pub leaf_below : (x k i : ℕ) (s : Tree) (w : List E) → Takes (binarised W) fits x s w → Takes (binarised W) fits x (leaf x k) w → below_root i s ≡ []
    leaf_below x k i s w t c = ap (below_root i) (taken_one x s (leaf x k) w t c)

    module _ (x k i : ℕ) (s t : Tree) (w : List E) (taken : Takes (binarised W) fits x s w) where
      pub unit_below : Takes (binarised W) fits x (step_over (binarised W) x k nothing t) w → below_root i s ≡ tree_nodes i t
      unit_below c = ap (below_root i) (taken_one x s (over x k t) w taken c)

      pub right_below : (y z n : ℕ) → Takes (binarised W) fits y t w → length w ≡ n → Takes (binarised W) fits x (step_over (binarised W) x k (the_right z) t) w
          → below_root i s ≡ tree_nodes i t ++ tree_nodes (i + n) (nullable_tree (binarised W) z)
      right_below y z n d long c =
          ap (below_root i) (taken_one x s (fork x k t (nullable_tree (binarised W) z)) w taken c)
          ∙ ap (λ m. tree_nodes i t ++ tree_nodes (i + m) (nullable_tree (binarised W) z)) (taken_width y t w d ∙ long)

      pub left_below : (z : ℕ) → nullable (binarised W) z ≡ true → Takes (binarised W) fits x (step_over (binarised W) x k (the_left z) t) w
          → below_root i s ≡ tree_nodes i (nullable_tree (binarised W) z) ++ tree_nodes i t
      left_below z n c =
          let width_none = blank_width W S z n in
          ap (below_root i) (taken_one x s (fork x k (nullable_tree (binarised W) z) t) w taken c)
          ∙ ap (λ j. tree_nodes i (nullable_tree (binarised W) z) ++ tree_nodes j t) (let e : i + width (nullable_tree (binarised W) z) ≡ i = omega arith in e)

      pub fork_below : (t' : Tree) (y m : ℕ) (u : List E) → Takes (binarised W) fits y t u → length u ≡ m → Takes (binarised W) fits x (fork x k t t') w
          → below_root i s ≡ tree_nodes i t ++ tree_nodes (i + m) t'
      fork_below t' y m u d long c =
          ap (below_root i) (taken_one x s (fork x k t t') w taken c)
          ∙ ap (λ n. tree_nodes i t ++ tree_nodes (i + n) t') (taken_width y t u d ∙ long)

  -- a choice at x is by a rule of x
  pub choice_has : (x n : ℕ) (c : Choice) → ChoiceAt (binarised W) x n (Some c) → (b : Right) × Has (binarised W) x (choice_number c) b
  choice_has x n (Step u) h = by (drop_of u.dropped) h.1
    where
      by : (d : Dropped) → Leads (binarised W) x u.number d u.to → (b : Right) × Has (binarised W) x u.number b
      by nothing l = (unit u.to, l)
      by (the_right z) l = (binary u.to z, l.0)
      by (the_left z) l = (binary z u.to, l.0)
  choice_has x n (Leaf k) h = (terminal h.0, h.1)
  choice_has x n (Fork k y z m) h = (binary y z, h.0)

  -- a head's rule comes from the right side of its production
  pub head_over : (x k : ℕ) (b : Right) → x < 32 → Has (binarised W) x k b → RuleOver (binarised W) x k (right_of W k)
  head_over x k b h m =
      let p = head_rule W S x k b h m in (
        first_tail W k,
        omega arith,
        λ r i. binarised_has W k r p.0 (subst (λ v. Mem r (binarise_right v k (first_tail W k) (right_of W k))) (sym p.1) i),
        λ y i. item_below W S k y p.0 i,
      )

  pub choice_over : (x n : ℕ) (c : Choice) → x < 32 → ChoiceAt (binarised W) x n (Some c) → RuleOver (binarised W) x (choice_number c) (right_of W (choice_number c))
  choice_over x n c h at = let k = choice_has x n c at in head_over x (choice_number c) k.0 h k.1

  -- and it has items
  pub over_some : (x n : ℕ) (c : Choice) (ys : List ℕ) → length ys ≡ 0 → ChoiceAt (binarised W) x n (Some c) → RuleOver (binarised W) x (choice_number c) ys → ⊥
  over_some x n c [] e at r = by c at (r.2 _ (inl refl))
    where
      not_empty : (k : ℕ) (d : Dropped) (y : ℕ) → Leads (binarised W) x k d y → Has (binarised W) x k empty → ⊥
      not_empty k nothing y l h = let q = binarised_same W S x k empty (unit y) h l in cc
      not_empty k (the_right z) y l h = let q = binarised_same W S x k empty (binary y z) h l.0 in cc
      not_empty k (the_left z) y l h = let q = binarised_same W S x k empty (binary z y) h l.0 in cc

      by : (c : Choice) → ChoiceAt (binarised W) x n (Some c) → Has (binarised W) x (choice_number c) empty → ⊥
      by (Step u) at h = not_empty u.number (drop_of u.dropped) u.to at.1 h
      by (Leaf k) at h = let q = binarised_same W S x k empty (terminal at.0) h at.1 in cc
      by (Fork k y z m) at h = let q = binarised_same W S x k empty (binary y z) h at.0 in cc
  over_some x n c (y ∷ ys) e at r = absurd (omega arith)

  -- a tail has one rule
  pub tail_over : (x n : ℕ) (c : Choice) (ys : List ℕ) → 64 ≤ x → ChoiceAt (binarised W) x n (Some c) → Stands (binarised W) x ys → RuleOver (binarised W) x (choice_number c) ys
  tail_over x n c ys h at (inl l) = absurd (omega arith)
  tail_over x n c ys h at (inr r) =
      let k = choice_has x n c at in
      let d = over_has r.1.0 ys r.1.1 in
      subst (λ j. RuleOver (binarised W) x j ys) (tail_same W S x r.1.0 (choice_number c) d.0 k.0 h d.1 k.1).0 r.1.1
    where
      over_has : (k : ℕ) (ys : List ℕ) → RuleOver (binarised W) x k ys → (b : Right) × Has (binarised W) x k b
      over_has k [] r = (empty, r.2 _ (inl refl))
      over_has k (a ∷ []) r = (one_item a, r.2 _ (inl refl))
      over_has k (a ∷ b ∷ ys) r = (first_right r.0 a b ys, r.2 _ (first_pair x k r.0 a b ys))

  -- the symbols of a choice at x
  pub step_small : (x k : ℕ) (d : Dropped) (y : ℕ) → Leads (binarised W) x k d y → y < (binarised W).symbols
  step_small x k nothing y l = binarised_within W S x k (unit y) l
  step_small x k (the_right z) y l = (binarised_within W S x k (binary y z) l.0).0
  step_small x k (the_left z) y l = (binarised_within W S x k (binary z y) l.0).1

  pub fork_small : (x k y z : ℕ) → Has (binarised W) x k (binary y z) → (y < (binarised W).symbols) × (z < (binarised W).symbols)
  fork_small x k y z h = binarised_within W S x k (binary y z) h

  -- of one item
  unit_item : (a y : ℕ) → one_item a ≡ unit y → y < 32
  unit_item a y e = elim (one_item_cases a) [ inl q ↦ (let r : a ≡ y = (let u = q.1 in cc) in let h = q.0 in omega arith) | inr q ↦ absurd (let u = q.2 in cc) ]

  one_not_two : (a y z : ℕ) → one_item a ≡ binary y z → ⊥
  one_not_two a y z e = elim (one_item_cases a) [ inl q ↦ (let u = q.1 in cc) | inr q ↦ (let u = q.2 in cc) ]

  module _ (x k : ℕ) where
    -- below a unit rule stands an item
    pub over_unit : (ys : List ℕ) → RuleOver (binarised W) x k ys → (y : ℕ) → Has (binarised W) x k (unit y) → y < 64
    over_unit [] r y h = absurd (let e = binarised_same W S x k empty (unit y) (r.2 _ (inl refl)) h in cc)
    over_unit (a ∷ []) r y h = let l = unit_item a y (binarised_same W S x k (one_item a) (unit y) (r.2 _ (inl refl)) h) in omega arith
    over_unit (a ∷ b ∷ []) r y h = absurd (let e = binarised_same W S x k (binary a b) (unit y) (r.2 _ (inl refl)) h in cc)
    over_unit (a ∷ b ∷ c ∷ ys) r y h = absurd (let e = binarised_same W S x k (binary a r.0) (unit y) (r.2 _ (inl refl)) h in cc)

    -- below a binary rule the first item, and what stands for the rest
    pub over_binary : (ys : List ℕ) → RuleOver (binarised W) x k ys → (y z : ℕ) → Has (binarised W) x k (binary y z) → (y < 64) × Stands (binarised W) z (drop 1 ys)
    over_binary [] r y z h = absurd (let e = binarised_same W S x k empty (binary y z) (r.2 _ (inl refl)) h in cc)
    over_binary (a ∷ []) r y z h = absurd (one_not_two a y z (binarised_same W S x k (one_item a) (binary y z) (r.2 _ (inl refl)) h))
    over_binary (a ∷ b ∷ []) r y z h =
        let e = binarised_same W S x k (binary a b) (binary y z) (r.2 _ (inl refl)) h in
        let p : a ≡ y = cc in
        let q : b ≡ z = cc in
        (subst (λ v. v < 64) p (r.3 a (inl refl)), inl (subst (λ v. v < 64) q (r.3 b (inr (inl refl)))))
    over_binary (a ∷ b ∷ c ∷ ys) r y z h =
        let e = binarised_same W S x k (binary a r.0) (binary y z) (r.2 _ (inl refl)) h in
        let p : a ≡ y = cc in
        let q : r.0 ≡ z = cc in (
          subst (λ v. v < 64) p (r.3 a (inl refl)),
          inr (subst (λ v. 64 ≤ v) q r.1, (k, subst (λ v. RuleOver (binarised W) v k (b ∷ c ∷ ys)) q (suc r.0, omega (arith, r.1), (λ u m. r.2 u (inr m)), (λ v m. r.3 v (inr m))))),
        )

    -- where the right symbol is nullable, its nodes are those of the rest, which are all nullable
    pub over_blank : (ys : List ℕ) → RuleOver (binarised W) x k ys → (y z : ℕ) → Has (binarised W) x k (binary y z) → nullable (binarised W) z ≡ true → (i : ℕ)
        → (tree_nodes i (nullable_tree (binarised W) z) ≡ blank_nodes (binarised W) i (drop 1 ys)) × AllBlank (binarised W) (drop 1 ys)
    over_blank [] r y z h t i = absurd (let e = binarised_same W S x k empty (binary y z) (r.2 _ (inl refl)) h in cc)
    over_blank (a ∷ []) r y z h t i = absurd (one_not_two a y z (binarised_same W S x k (one_item a) (binary y z) (r.2 _ (inl refl)) h))
    over_blank (a ∷ b ∷ []) r y z h t i =
        let e = binarised_same W S x k (binary a b) (binary y z) (r.2 _ (inl refl)) h in
        let q : z ≡ b = cc in (
          sym (append-nil _) ∙ ap (λ v. tree_nodes i (nullable_tree (binarised W) v) ++ []) q,
          λ v m. elim m [
            | inl s ↦ let n = subst (λ u. nullable (binarised W) u ≡ true) (q ∙ sym s) t in (nullable_head W S v (r.3 v (inr (inl s))) n, n)
            | inr o ↦ absurd o
          ],
        )
    over_blank (a ∷ b ∷ c ∷ ys) r y z h t i =
        let e = binarised_same W S x k (binary a r.0) (binary y z) (r.2 _ (inl refl)) h in
        let q : z ≡ r.0 = cc in
        let n = tail_nodes W S i r.0 k b c ys r.1 (λ u m. r.2 u (inr m)) (subst (λ u. nullable (binarised W) u ≡ true) q t) in
        (ap (λ v. tree_nodes i (nullable_tree (binarised W) v)) q ∙ n.0, λ v m. (nullable_head W S v (r.3 v (inr m)) (n.1 v m), n.1 v m))

    -- the left symbol is a head where it is nullable
    pub over_left : (ys : List ℕ) → RuleOver (binarised W) x k ys → (y z : ℕ) → Has (binarised W) x k (binary y z) → nullable (binarised W) y ≡ true → y < 32
    over_left ys r y z h t = nullable_head W S y (over_binary ys r y z h).0 t

  -- a production has eight items at most
  pub right_short : (n : ℕ) → length (right_of W n) ≤ 8
  unfolding production
  right_short n = S_short W.productions S.short n
    where
      S_short : (ps : List Production) → ((p : Production) → Mem p ps → length p.right ≤ 8) → (n : ℕ) → length (get_or ps n (record { head = zero; right = []; cost = zero })).right ≤ 8
      S_short [] h n = omega arith
      S_short (p ∷ ps) h zero = h p (inl refl)
      S_short (p ∷ ps) h (suc n) = S_short ps (λ q m. h q (inr m)) n
