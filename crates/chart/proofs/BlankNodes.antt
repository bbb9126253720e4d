-- The nodes of a chosen tree without events, by the productions as they are written, and the rounds that find its symbols.
use Rattle.std.proofs.Common.{◌≡◌, ℕ, zero, suc, ◌+◌, ◌<◌, ◌≤◌, true, false, List, [], ◌∷◌, ◌++◌, length, get_or, take, drop, sym, refl, ap, ◌∙◌, subst, ap₂, append_assoc, inl, inr, arith}
use Rattle.std.proofs.lemmas.Bool.{both_ways, false≢true, cases_lt, cases_Bool, or_cases, and_parts, and_from}
use Rattle.std.proofs.lemmas.List.{append-nil, take_more, take-append-drop}
use Rattle.grammar.specs.Lists.{Mem}
use Rattle.grammar.specs.Binarised.{Right, empty, unit, binary, terminal, Rule, rule, Binarised, Bounded, Has, OwnRule, rules_of, Tree, fork, width}
use Rattle.grammar.specs.Productions.{Book, Sound, Numbers, right_of, first_tail}
use Rattle.grammar.specs.Binarise.{one_item, binaries, binarise_right, binarised}
use Rattle.grammar.specs.Nullable.{ready, nullable_after, nullable, nullable_tree, first_ready, rule_tree}
use Rattle.grammar.specs.Nodes.{Node, mark, tree_nodes}
use Rattle.grammar.proofs.Lists.{first_from}
use Rattle.grammar.proofs.Nullable.{rule_has, nullable_derives}
use Rattle.grammar.proofs.Once.{derives_width}
use Rattle.grammar.proofs.Chosen.{nullable_chosen}
use Rattle.grammar.proofs.BinarisedRules.{get_d_mem, binarised_bounded, binarised_has, one_item_cases, binaries_left, head_rule, item_small, symbol_rule, tail_same}
use Rattle.conversion.specs.Views.{right_side_of}
use Rattle.conversion.specs.Held.{Brings}
use Rattle.conversion.specs.declared.nullable.Brought.{Brought}
use Rattle.conversion.proofs.Each.{each_append}
use Rattle.conversion.proofs.Bringing.{held_on, held_last}
use Rattle.conversion.proofs.Walking.{brings_ready, brings_tree}
use Rattle.chart.specs.Inner.{blank_nodes, AllBlank}
use Rattle.chart.proofs.BlankRounds.{rounds_in, most_rounds, rounds_low, rounds_high, rounds_under}
use Rattle.grammar.proofs.Marks.{head_mark, no_mark}

-- of a binary rule over two trees without events
fork_nodes : (at x n : ℕ) (s t : Tree) (l : List Node) → width s ≡ 0 → width t ≡ 0 → tree_nodes at t ≡ l
    → tree_nodes at (fork x n s t) ≡ mark x n at 0 (tree_nodes at s ++ l)
fork_nodes at x n s t l p q e =
    ap₂ (mark x n at) (let k : width s + width t ≡ 0 = omega arith in k)
    (ap (λ j. tree_nodes at s ++ tree_nodes j t) (let k : at + width s ≡ at = omega arith in k) ∙ ap (λ m. tree_nodes at s ++ m) e)

-- the right side of the first of the binary rules of items
abbrev pub first_right : ℕ → ℕ → ℕ → List ℕ → Right
first_right z a b [] = binary a b
first_right z a b (c ∷ ys) = binary a z

pub first_pair : (x n z a b : ℕ) (ys : List ℕ) → Mem (rule x n (first_right z a b ys)) (binaries x n z a b ys)
first_pair x n z a b [] = inl refl
first_pair x n z a b (c ∷ ys) = inl refl

first_only : (x n z a b : ℕ) (ys : List ℕ) (r : Right) → x < z → Mem (rule x n r) (binaries x n z a b ys) → r ≡ first_right z a b ys
first_only x n z a b [] r h (inl e) = ap (λ q. q.right) e
first_only x n z a b [] r h (inr m) = elim m [ ]
first_only x n z a b (c ∷ ys) r h (inl e) = ap (λ q. q.right) e
first_only x n z a b (c ∷ ys) r h (inr m) = absurd (elim (binaries_left z n (suc z) b c ys (rule x n r) m) [ inl e ↦ omega arith | inr p ↦ omega arith ])

-- the rules are all of B
abbrev pub AllOf : Binarised → List Rule → Type 0
AllOf B rs = (r : Rule) → Mem r rs → Mem r B.rules

module _ (W : Book) (S : Sound W) where
  bd : Bounded (binarised W)
  bd = binarised_bounded W S

  pub found_nullable : (k x : ℕ) → nullable_after (binarised W) k x ≡ true → nullable (binarised W) x ≡ true
  unfolding nullable
  found_nullable k x t = held_last (binarised W) bd k x t

  pub blank_width : (x : ℕ) → nullable (binarised W) x ≡ true → width (nullable_tree (binarised W) x) ≡ 0
  blank_width x t = derives_width (binarised W) {E = ℕ} (λ e p. false) x (nullable_tree (binarised W) x) [] (nullable_derives (binarised W) bd {E = ℕ} (λ e p. false) x t)

  -- one round found the symbol
  pub found_in : (k x : ℕ) → nullable_after (binarised W) k x ≡ true → (j : ℕ) × (j < k) × (nullable_after (binarised W) j x ≡ false) × (nullable_after (binarised W) (suc j) x ≡ true)
  unfolding nullable_after
  found_in zero x t = absurd (false≢true t)
  found_in (suc k) x t = elim (cases_Bool (nullable_after (binarised W) k x)) [
    | inl e ↦ let r = found_in k x e in (r.0, omega (arith, r.1), r.2, r.3)
    | inr e ↦ (k, omega arith, e, t)
  ]

  ready_on : (j k : ℕ) (b : Right) → j ≤ k → ready (nullable_after (binarised W) j) b ≡ true → ready (nullable_after (binarised W) k) b ≡ true
  ready_on j k empty h t = refl
  ready_on j k (unit y) h t = held_on (binarised W) bd j k y h t
  ready_on j k (binary y z) h t =
      let r = and_parts (nullable_after (binarised W) j y) (nullable_after (binarised W) j z) t in
      and_from (nullable_after (binarised W) k y) (nullable_after (binarised W) k z) (held_on (binarised W) bd j k y h r.0) (held_on (binarised W) bd j k z h r.1)
  ready_on j k (terminal p) h t = t

  -- the one rule of a tail is the one that brought it in
  tail_tree : (k z n : ℕ) (b : Right) → 64 ≤ z → Has (binarised W) z n b → nullable_after (binarised W) k z ≡ true
      → (ready (nullable_after (binarised W) k) b ≡ true) × (nullable_tree (binarised W) z ≡ rule_tree (nullable_tree (binarised W)) z n b)
  tail_tree k z n b h m t =
      let f = found_in k z t in
      let c = nullable_chosen W S f.0 z f.2 f.3 in
      let e = tail_same W S z n c.number b c.right h m c.brings_in.is_rule in (
        ready_on f.0 k b (omega (arith, f.1)) (subst (λ r. ready (nullable_after (binarised W) f.0) r ≡ true) (sym e.1) c.brings_in.of_found),
        c.tree ∙ ap₂ (rule_tree (nullable_tree (binarised W)) z) (sym e.0) (sym e.1),
      )

  -- of binary rules and the tails between them: the nodes of the items in turn, after that of a head
  pairs_nodes : (at k x n z a b : ℕ) (ys : List ℕ) → 64 ≤ z → AllOf (binarised W) (binaries x n z a b ys)
      → ready (nullable_after (binarised W) k) (first_right z a b ys) ≡ true
      → nullable_tree (binarised W) x ≡ rule_tree (nullable_tree (binarised W)) x n (first_right z a b ys)
      → (tree_nodes at (nullable_tree (binarised W) x) ≡ mark x n at 0 (blank_nodes (binarised W) at (a ∷ b ∷ ys)))
      × ((y : ℕ) → Mem y (a ∷ b ∷ ys) → nullable_after (binarised W) k y ≡ true)
  pairs_nodes at k x n z a b [] h all t e =
      let f = nullable_tree (binarised W) in
      let r = and_parts (nullable_after (binarised W) k a) (nullable_after (binarised W) k b) t in (
        ap (tree_nodes at) e ∙ fork_nodes at x n (f a) (f b) (tree_nodes at (f b) ++ []) (blank_width a (found_nullable k a r.0)) (blank_width b (found_nullable k b r.1))
            (sym (append-nil (tree_nodes at (f b)))),
        λ y m. elim m [
          | inl q ↦ subst (λ v. nullable_after (binarised W) k v ≡ true) (sym q) r.0
          | inr i ↦ elim i [ inl q ↦ subst (λ v. nullable_after (binarised W) k v ≡ true) (sym q) r.1 | inr j ↦ absurd j ]
        ],
      )
  pairs_nodes at k x n z a b (c ∷ ys) h all t e =
      let f = nullable_tree (binarised W) in
      let r = and_parts (nullable_after (binarised W) k a) (nullable_after (binarised W) k z) t in
      let d = tail_tree k z n (first_right (suc z) b c ys) h (all _ (inr (first_pair z n (suc z) b c ys))) r.1 in
      let i = pairs_nodes at k z n (suc z) b c ys (omega arith) (λ q m. all q (inr m)) d.0 d.1 in (
        ap (tree_nodes at) e ∙ fork_nodes at x n (f a) (f z) (blank_nodes (binarised W) at (b ∷ c ∷ ys)) (blank_width a (found_nullable k a r.0)) (blank_width z (found_nullable k z r.1))
            (i.0 ∙ no_mark z n at 0 (blank_nodes (binarised W) at (b ∷ c ∷ ys)) (omega arith)),
        λ y m. elim m [ inl q ↦ subst (λ v. nullable_after (binarised W) k v ≡ true) (sym q) r.0 | inr j ↦ i.1 y j ],
      )

  -- a tail: the nodes of the items that it stands for, which are nullable
  pub tail_nodes : (at z n a b : ℕ) (ys : List ℕ) → 64 ≤ z → AllOf (binarised W) (binaries z n (suc z) a b ys) → nullable (binarised W) z ≡ true
      → (tree_nodes at (nullable_tree (binarised W) z) ≡ blank_nodes (binarised W) at (a ∷ b ∷ ys))
      × ((y : ℕ) → Mem y (a ∷ b ∷ ys) → nullable (binarised W) y ≡ true)
  unfolding nullable
  tail_nodes at z n a b ys h all t =
      let k = (binarised W).symbols in
      let d = tail_tree k z n (first_right (suc z) a b ys) h (all _ (first_pair z n (suc z) a b ys)) t in
      let i = pairs_nodes at k z n (suc z) a b ys (omega arith) all d.0 d.1 in
      (i.0 ∙ no_mark z n at 0 (blank_nodes (binarised W) at (a ∷ b ∷ ys)) (omega arith), i.1)

  -- of the symbols that are items only heads are nullable
  found_head : (k y : ℕ) → y < 64 → nullable_after (binarised W) k y ≡ true → y < 32
  found_head k y l t = elim (cases_lt y 32) [
    | inl h ↦ h
    | inr g ↦
        let f = found_in k y t in
        let c = nullable_chosen W S f.0 y f.2 f.3 in
        let s = symbol_rule W S y c.number c.right g l c.brings_in.is_rule in
        absurd (false≢true (subst (λ r. ready (nullable_after (binarised W) f.0) r ≡ true) s.1.2 c.brings_in.of_found))
  ]

  pub item_below : (n y : ℕ) → Numbers W n → Mem y (right_of W n) → y < 64
  item_below n y h m = let l = item_small W S n y h m in let w = S.few_patterns in omega arith

  pub nullable_head : (y : ℕ) → y < 64 → nullable (binarised W) y ≡ true → y < 32
  unfolding nullable
  nullable_head y l t = found_head (binarised W).symbols y l t

  -- a head over its right side
  right_nodes : (at k x n z : ℕ) (b : Right) (ys : List ℕ) → x < z → 64 ≤ z → AllOf (binarised W) (binarise_right x n z ys) → Mem (rule x n b) (binarise_right x n z ys)
      → ready (nullable_after (binarised W) k) b ≡ true → nullable_tree (binarised W) x ≡ rule_tree (nullable_tree (binarised W)) x n b
      → (tree_nodes at (nullable_tree (binarised W) x) ≡ mark x n at 0 (blank_nodes (binarised W) at ys))
      × ((y : ℕ) → Mem y ys → nullable_after (binarised W) k y ≡ true)
  right_nodes at k x n z b [] h l all (inl q) t e =
      (ap (tree_nodes at) (e ∙ ap (λ (r : Rule). rule_tree (nullable_tree (binarised W)) x n r.right) q), λ y m. absurd m)
  right_nodes at k x n z b [] h l all (inr m) t e = elim m [ ]
  right_nodes at k x n z b (a ∷ []) h l all (inl q) t e =
      let f = nullable_tree (binarised W) in
      let s : b ≡ one_item a = ap (λ r. r.right) q in
      elim (one_item_cases a) [
        | inl u ↦
            let v : nullable_after (binarised W) k a ≡ true = subst (λ r. ready (nullable_after (binarised W) k) r ≡ true) (s ∙ u.1) t in (
              ap (tree_nodes at) (e ∙ ap (rule_tree f x n) (s ∙ u.1))
                  ∙ ap₂ (mark x n at) (blank_width a (found_nullable k a v)) (sym (append-nil (tree_nodes at (f a)))),
              λ y m. elim m [ inl i ↦ subst (λ j. nullable_after (binarised W) k j ≡ true) (sym i) v | inr j ↦ absurd j ],
            )
        | inr u ↦ absurd (false≢true (subst (λ r. ready (nullable_after (binarised W) k) r ≡ true) (s ∙ u.2) t))
      ]
  right_nodes at k x n z b (a ∷ []) h l all (inr m) t e = elim m [ ]
  right_nodes at k x n z b (a ∷ c ∷ ys) h l all m t e =
      let s = first_only x n z a c ys b h m in
      pairs_nodes at k x n z a c ys l all (subst (λ r. ready (nullable_after (binarised W) k) r ≡ true) s t) (e ∙ ap (rule_tree (nullable_tree (binarised W)) x n) s)

  -- the chosen tree of a head over rule n: the node of n, then the nodes of each item of production n, all of them found by rounds before
  pub head_nodes : (at k x n : ℕ) (b : Right) → x < 32 → Has (binarised W) x n b → ready (nullable_after (binarised W) k) b ≡ true
      → nullable_tree (binarised W) x ≡ rule_tree (nullable_tree (binarised W)) x n b
      → (tree_nodes at (nullable_tree (binarised W) x) ≡ record { rule = n; first = at; count = 0 } ∷ blank_nodes (binarised W) at (right_of W n))
      × ((y : ℕ) → Mem y (right_of W n) → (y < 32) × (nullable_after (binarised W) k y ≡ true))
  head_nodes at k x n b l m t e =
      let p = head_rule W S x n b l m in
      let z = first_tail W n in
      let r = right_nodes at k x n z b (right_of W n) (omega arith) (omega arith)
      (λ q i. binarised_has W n q p.0 (subst (λ v. Mem q (binarise_right v n z (right_of W n))) (sym p.1) i))
      (subst (λ v. Mem (rule x n b) (binarise_right v n z (right_of W n))) p.1 p.2) t e in (
        r.0 ∙ head_mark x n at 0 (blank_nodes (binarised W) at (right_of W n)) l,
        λ y i. (found_head k y (item_below n y p.0 i) (r.1 y i), r.1 y i),
      )

  brings_has : (x : ℕ) (b : Brought) → Brings (binarised W) x b → Has (binarised W) x b.number (right_side_of b.right)
  unfolding nullable_after
  brings_has x b h = elim (or_cases (nullable_after (binarised W) b.round x) _ h.1) [
    | inl t ↦ absurd (both_ways _ h.0 t)
    | inr t ↦ subst (λ (o : OwnRule). Has (binarised W) x o.0 o.1) (sym h.2)
        (rule_has (binarised W) x (first_ready (binarised W) (nullable_after (binarised W) b.round) x)
        (first_from (λ (o : OwnRule). ready (nullable_after (binarised W) b.round) o.1) (zero, empty) (rules_of (binarised W) x) t).0)
  ]

  brings_early : (x : ℕ) (b : Brought) → Brings (binarised W) x b → b.round < (binarised W).symbols
  brings_early x b h = elim (cases_lt b.round (binarised W).symbols) [
    | inl l ↦ l
    | inr g ↦ absurd (both_ways _ h.0 (held_on (binarised W) bd (binarised W).symbols b.round x g (held_last (binarised W) bd (suc b.round) x h.1)))
  ]

  -- a head by what brought it in: the node of that rule, then those of the rule's items, which are nullable heads that fewer rounds find
  module _ (x : ℕ) (l : x < 32) (b : Brought) (h : Brings (binarised W) x b) where
    pub brought_nodes : (at : ℕ) → tree_nodes at (nullable_tree (binarised W) x) ≡ record { rule = b.number; first = at; count = 0 } ∷ blank_nodes (binarised W) at (right_of W b.number)
    brought_nodes at = (head_nodes at b.round x b.number (right_side_of b.right) l (brings_has x b h) (brings_ready (binarised W) bd x b h) (brings_tree (binarised W) bd x b h)).0

    brought_items : (y : ℕ) → Mem y (right_of W b.number) → (y < 32) × (nullable_after (binarised W) b.round y ≡ true)
    brought_items = (head_nodes 0 b.round x b.number (right_side_of b.right) l (brings_has x b h) (brings_ready (binarised W) bd x b h) (brings_tree (binarised W) bd x b h)).1

    pub brought_blank : AllBlank (binarised W) (right_of W b.number)
    brought_blank y m = let r = brought_items y m in (r.0, found_nullable b.round y r.1)

    pub brought_fewer : most_rounds (binarised W) (right_of W b.number) < rounds_in (binarised W) (binarised W).symbols x
    brought_fewer =
        let n = (binarised W).symbols in
        let low = rounds_under (binarised W) b.round (right_of W b.number) (λ y m. rounds_low (binarised W) bd n b.round y (brought_items y m).1) in
        let high = rounds_high (binarised W) bd n b.round x (brings_early x b h) h.0 in
        omega arith

-- items in turn

module _ (B : Binarised) (at : ℕ) (ys : List ℕ) (i : ℕ) where
  -- those of the first items, then those of the rest
  pub blank_rest : blank_nodes B at ys ≡ blank_nodes B at (take i ys) ++ blank_nodes B at (drop i ys)
  blank_rest = ap (blank_nodes B at) (sym (take-append-drop i ys)) ∙ each_append (λ y. tree_nodes at (nullable_tree B y)) (take i ys) (drop i ys)

  module _ (h : i < length ys) where
    pub blank_at : AllBlank B ys → (get_or ys i 0 < 32) × (nullable B (get_or ys i 0) ≡ true)
    blank_at all = all (get_or ys i 0) (get_d_mem ys i 0 h)

    -- one item more
    pub blank_more : (ks : List Node) (k : Node) (l : List Node) → tree_nodes at (nullable_tree B (get_or ys i 0)) ≡ k ∷ l
        → ((ks ++ blank_nodes B at (take i ys)) ++ (k ∷ [])) ++ l ≡ ks ++ blank_nodes B at (take (i + 1) ys)
    blank_more ks k l e =
        let f : ℕ → List Node = λ y. tree_nodes at (nullable_tree B y) in
        append_assoc (ks ++ blank_nodes B at (take i ys)) (k ∷ []) l
        ∙ append_assoc ks (blank_nodes B at (take i ys)) (k ∷ l)
        ∙ ap (λ m. ks ++ (blank_nodes B at (take i ys) ++ m)) (sym (append-nil (f (get_or ys i 0)) ∙ e))
        ∙ ap (λ m. ks ++ m) (sym (ap (blank_nodes B at) (take_more ys i 0 h) ∙ each_append f (take i ys) (get_or ys i 0 ∷ [])))

-- one item more, by what brought it in
pub blank_step : (W : Book) (S : Sound W) (at : ℕ) (ys : List ℕ) (i : ℕ) (h : i < length ys) (b : Brought) → get_or ys i 0 < 32 → Brings (binarised W) (get_or ys i 0) b
    → (ks : List Node) (k : Node) (zs : List ℕ) → k ≡ record { rule = b.number; first = at; count = 0 } → zs ≡ right_of W b.number
    → ((ks ++ blank_nodes (binarised W) at (take i ys)) ++ (k ∷ [])) ++ blank_nodes (binarised W) at zs ≡ ks ++ blank_nodes (binarised W) at (take (i + 1) ys)
blank_step W S at ys i h b l m ks k zs e r = blank_more (binarised W) at ys i h ks k (blank_nodes (binarised W) at zs)
    (brought_nodes W S (get_or ys i 0) l b m at ∙ ap₂ (λ q z. q ∷ blank_nodes (binarised W) at z) (sym e) (sym r))
