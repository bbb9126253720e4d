-- The definitions worked out on books: the rounds that add nothing are left out, so that antt can compute.
use Rattle.std.proofs.Common.{◌≡◌, ℕ, zero, suc, ◌<◌, ◌≤◌, Bool, true, false, cond, ◌&&◌, ◌||◌, eqb, List, [], ◌∷◌, map, length, sym, refl, ap, ◌∙◌, subst, ap₂, inl, inr, true≢false, arith}
use mathlib.Core.Path.{fun_ext}
use Rattle.std.proofs.lemmas.Bool.{and_parts}
use Rattle.grammar.specs.Lists.{First, first_of, Cut, cuts, Mem, some_of, those, each, below}
use Rattle.grammar.specs.Binarised.{Tree, null, over, fork, leaf, binary, terminal, Binarised, OwnRule, rules_of, Bounded}
use Rattle.grammar.specs.Nullable.{nullable_tree_in, nullable_tree, next_round, nullable_after, nullable}
use Rattle.grammar.specs.Chains.{Dropped, nothing, the_right, the_left, unit_step, Leads, UnitChain, first_step, chosen_chain_in, chosen_chain, ChainStep, steps_by, steps, nearer, within, reached}
use Rattle.grammar.specs.Strict.{StrictFormRule, strict_rule, strict_rules_of, strict_rules, proper}
use Rattle.grammar.specs.Semiring.{Ops, sum}
use Rattle.grammar.specs.Weighings.{yes_no}
use Rattle.grammar.specs.Cells.{tree_weight, drop_weight, chain_weight, over_events, cell_in, cell}
use Rattle.grammar.specs.Taken.{step_over, chain_over, yes_cell, rule_fits, Takes, takes_terminal, takes_binary}
use Rattle.grammar.proofs.Lists.{mem_below, count_up_mem}
use Rattle.grammar.proofs.Rounds.{settled}
use Rattle.grammar.proofs.Chains.{chain_kept, chain_leads, mem_reached, within_next, within_grows, within_small}
use Rattle.grammar.proofs.Nullable.{nullable_kept, rounds_next, rounds_grow, rounds_small}

abbrev same_bit : Bool → Bool → Bool
same_bit true b = b
same_bit false true = false
same_bit false false = true

abbrev pub every : {A : Type 0} → (A → Bool) → List A → Bool
every p [] = true
every p (x ∷ xs) = p x && every p xs

pub every_gives : {A : Type 0} (p : A → Bool) (xs : List A) → every p xs ≡ true → (x : A) → Mem x xs → p x ≡ true
every_gives p [] t x m = absurd m
every_gives p (y ∷ xs) t x (inl e) = ap p e ∙ (and_parts (p y) (every p xs) t).0
every_gives p (y ∷ xs) t x (inr m) = every_gives p xs (and_parts (p y) (every p xs) t).1 x m

same_bit_gives : (a b : Bool) → same_bit a b ≡ true → a ≡ b
same_bit_gives true b t = sym t
same_bit_gives false true t = absurd (true≢false (sym t))
same_bit_gives false false t = refl

-- round j adds nothing
abbrev pub nullables_rest : Binarised → ℕ → Bool
nullables_rest B j = every (λ x. same_bit (nullable_after B (suc j) x) (nullable_after B j x)) (below B.symbols)

pub nullable_at : (B : Binarised) → Bounded B → (j : ℕ) → j ≤ B.symbols → nullables_rest B j ≡ true → nullable B ≡ nullable_after B j
unfolding nullable
nullable_at B bounded j l t = settled (next_round B) (nullable_after B) B.symbols (rounds_next B bounded) (rounds_grow B bounded) (rounds_small B bounded) j l
    (λ x h. same_bit_gives _ _ (every_gives _ (below B.symbols) t x (mem_below B.symbols x h)))

-- the unit steps, the chains and the strict rules by a test for nullable symbols
abbrev pub steps_at : Binarised → (ℕ → Bool) → ℕ → List ChainStep
steps_at B b x = each (λ (o : OwnRule). steps_by b x o.0 o.1) (rules_of B x)

abbrev pub within_at : Binarised → (ℕ → Bool) → ℕ → ℕ → ℕ → Bool
within_at B b y zero x = eqb x y
within_at B b y (suc k) x = within_at B b y k x || some_of (λ (s : ChainStep). within_at B b y k s.to) (steps_at B b x)

abbrev pub reached_at : Binarised → (ℕ → Bool) → ℕ → ℕ → List ℕ
reached_at B b k x = those (λ y. within_at B b y k x) (below B.symbols)

abbrev pub strict_of_at : Binarised → (ℕ → Bool) → ℕ → ℕ → List StrictFormRule
strict_of_at B b k x = each (λ y. map (strict_rule x y) (those (λ (o : OwnRule). proper o.1) (rules_of B y))) (reached_at B b k x)

abbrev pub strict_at : Binarised → (ℕ → Bool) → ℕ → List StrictFormRule
strict_at B b k = each (λ x. each (λ y. map (strict_rule x y) (those (λ (o : OwnRule). proper o.1) (rules_of B y))) (reached_at B b k x)) (below B.symbols)

-- no chain needs more than k steps
abbrev pub chains_rest : Binarised → (ℕ → Bool) → ℕ → Bool
chains_rest B b k = every (λ y. every (λ x. same_bit (within_at B b y (suc k) x) (within_at B b y k x)) (below B.symbols)) (below B.symbols)

steps_same : (B : Binarised) (b : ℕ → Bool) → nullable B ≡ b → steps B ≡ steps_at B b
unfolding steps
steps_same B b e = λ i x. each (λ (o : OwnRule). steps_by (e i) x o.0 o.1) (rules_of B x)

within_same : (B : Binarised) (b : ℕ → Bool) → nullable B ≡ b → (y k x : ℕ) → within B y k x ≡ within_at B b y k x
unfolding within
within_same B b e y zero x = refl
within_same B b e y (suc k) x = ap₂ ◌||◌ (within_same B b e y k x)
    (ap₂ (λ (h : ℕ → Bool) (l : List ChainStep). some_of (λ (s : ChainStep). h s.to) l) (fun_ext (within_same B b e y k)) (λ i. steps_same B b e i x))

those_cong : (p q : ℕ → Bool) (xs : List ℕ) → ((x : ℕ) → Mem x xs → p x ≡ q x) → those p xs ≡ those q xs
those_cong p q [] h = refl
those_cong p q (x ∷ xs) h = ap₂ (λ b l. cond b (x ∷ l) l) (h x (inl refl)) (those_cong p q xs (λ y m. h y (inr m)))

module _ (B : Binarised) (bounded : Bounded B) (b : ℕ → Bool) (e : nullable B ≡ b) (k : ℕ) (l : k ≤ B.symbols) (t : chains_rest B b k ≡ true) where
  pub reached_same : (x : ℕ) → reached B x ≡ reached_at B b k x
  unfolding reached
  reached_same x = those_cong _ _ (below B.symbols) (λ y m.
      let h : y < B.symbols = let j = count_up_mem zero B.symbols y m in omega arith in
      ap (λ g. g x) (settled (nearer B) (within B y) B.symbols (within_next B y) (within_grows B y) (within_small B bounded y h) k l
      (λ z h'. within_same B b e y (suc k) z ∙ same_bit_gives _ _ (every_gives _ (below B.symbols) (every_gives _ (below B.symbols) t y m) z (mem_below B.symbols z h')) ∙ sym (within_same B b e y k z)))
      ∙ within_same B b e y k x)

  pub strict_same : strict_rules B ≡ strict_at B b k
  unfolding strict_rules strict_rules_of
  strict_same = ap (λ g. each g (below B.symbols)) (fun_ext (λ x. ap (each (λ y. map (strict_rule x y) (those (λ (o : OwnRule). proper o.1) (rules_of B y)))) (reached_same x)))

  pub strict_of_same : strict_rules_of B ≡ strict_of_at B b k
  unfolding strict_rules_of
  strict_of_same = fun_ext (λ x. ap (each (λ y. map (strict_rule x y) (those (λ (o : OwnRule). proper o.1) (rules_of B y)))) (reached_same x))

-- the chosen chain, by tests that compute
abbrev pub first_at : Binarised → (ℕ → Bool) → ℕ → ℕ → ℕ → ChainStep
first_at B b y k x = first_of (λ (s : ChainStep). within_at B b y k s.to) (unit_step x zero nothing x) (steps_at B b x)

abbrev pub chain_at : Binarised → (ℕ → Bool) → ℕ → ℕ → ℕ → List ChainStep
chain_at B b y zero x = []
chain_at B b y (suc k) x = cond (within_at B b y k x) (chain_at B b y k x) (first_at B b y k x ∷ chain_at B b y k (first_at B b y k x).to)

chain_in_same : (B : Binarised) (b : ℕ → Bool) → nullable B ≡ b → (y k x : ℕ) → chosen_chain_in B y k x ≡ chain_at B b y k x
unfolding chosen_chain_in
chain_in_same B b e y zero x = refl
chain_in_same B b e y (suc k) x =
    ap₂ (λ t c. cond t c (first_step B y k x ∷ chosen_chain_in B y k (first_step B y k x).to)) (within_same B b e y k x) (chain_in_same B b e y k x)
    ∙ ap (λ c. cond (within_at B b y k x) (chain_at B b y k x) c)
    (ap₂ ◌∷◌ fs (ap (λ (s : ChainStep). chosen_chain_in B y k s.to) fs ∙ chain_in_same B b e y k (first_at B b y k x).to))
  where
    fs : first_step B y k x ≡ first_at B b y k x
    fs = ap₂ (λ (h : ℕ → Bool) (l : List ChainStep). first_of (λ (s : ChainStep). h s.to) (unit_step x zero nothing x) l) (fun_ext (within_same B b e y k)) (λ i. steps_same B b e i x)

chain_same : (B : Binarised) → Bounded B → (b : ℕ → Bool) → nullable B ≡ b → (k x y : ℕ) → k ≤ B.symbols → y < B.symbols → within_at B b y k x ≡ true
    → chosen_chain B x y ≡ chain_at B b y k x
unfolding chosen_chain
chain_same B bounded b e k x y l small t =
    chain_kept B bounded y small k B.symbols x l (within_same B b e y k x ∙ t) ∙ chain_in_same B b e y k x

-- a chain over a tree, with the chosen trees of the first j rounds
abbrev pub over_at : Binarised → ℕ → ℕ → ℕ → Dropped → Tree → Tree
over_at B j x n nothing t = over x n t
over_at B j x n (the_right z) t = fork x n t (nullable_tree_in B j z)
over_at B j x n (the_left y) t = fork x n (nullable_tree_in B j y) t

abbrev pub chain_over_at : Binarised → ℕ → List ChainStep → Tree → Tree
chain_over_at B j [] t = t
chain_over_at B j (s ∷ c) t = over_at B j s.from s.number s.dropped (chain_over_at B j c t)

pub tree_same : (B : Binarised) → Bounded B → (j z : ℕ) → j ≤ B.symbols → nullable_after B j z ≡ true → nullable_tree B z ≡ nullable_tree_in B j z
unfolding nullable_tree
tree_same B bounded j z l t = nullable_kept B bounded j B.symbols z l t

module _ (B : Binarised) (bounded : Bounded B) (j : ℕ) (l : j ≤ B.symbols) (e : nullable B ≡ nullable_after B j) where
  tree_found : (z : ℕ) → nullable B z ≡ true → nullable_tree B z ≡ nullable_tree_in B j z
  tree_found z t = tree_same B bounded j z l (ap (λ h. h z) (sym e) ∙ t)

  over_same : (x n : ℕ) (d : Dropped) (y : ℕ) (s t : Tree) → Leads B x n d y → s ≡ t → step_over B x n d s ≡ over_at B j x n d t
  over_same x n nothing y s t h q = ap (over x n) q
  over_same x n (the_right z) y s t h q = ap₂ (fork x n) q (tree_found z h.1)
  over_same x n (the_left z) y s t h q = ap₂ (fork x n) (tree_found z h.1) q

  chain_over_same : (x : ℕ) (c : List ChainStep) (y : ℕ) (t : Tree) → UnitChain B x c y → chain_over B c t ≡ chain_over_at B j c t
  chain_over_same x [] y t h = refl
  chain_over_same x (s ∷ c) y t h = over_same s.from s.number s.dropped s.to (chain_over B c t) (chain_over_at B j c t) h.1 (chain_over_same s.to c y t h.2)

-- cells where each rule weighs one
module _ {V : Type 0} (M : Ops V) (unit-one : M.times M.one M.one ≡ M.one) where
  abbrev pub ones : ℕ → ℕ → V
  ones x n = M.one

  tree_one : (s : Tree) → tree_weight M ones s ≡ M.one
  tree_one (null x n) = refl
  tree_one (over x n s) = ap (M.times M.one) (tree_one s) ∙ unit-one
  tree_one (fork x n s t) = ap (M.times M.one) (ap₂ M.times (tree_one s) (tree_one t) ∙ unit-one) ∙ unit-one
  tree_one (leaf x n) = refl

  drop_one : (B : Binarised) (d : Dropped) → drop_weight B M ones d ≡ M.one
  drop_one B nothing = refl
  drop_one B (the_right z) = tree_one (nullable_tree B z)
  drop_one B (the_left z) = tree_one (nullable_tree B z)

  chain_one : (B : Binarised) (c : List ChainStep) → chain_weight B M ones c ≡ M.one
  chain_one B [] = refl
  chain_one B (s ∷ c) = ap₂ M.times (ap (M.times M.one) (drop_one B s.dropped) ∙ unit-one) (chain_one B c) ∙ unit-one

  abbrev pub cells_at : {E : Type 0} → (ℕ → List StrictFormRule) → (E → ℕ → Bool) → ℕ → ℕ → List E → V
  cells_at σ fits zero x w = M.zero
  cells_at σ fits (suc n) x w = sum M (λ (r : StrictFormRule). M.times M.one (over_events M fits (cells_at σ fits n) r.right w)) (σ x)

  module _ (B : Binarised) (σ : ℕ → List StrictFormRule) (e : strict_rules_of B ≡ σ) {E : Type 0} (fits : E → ℕ → Bool) where
    cells_in_same : (n x : ℕ) (w : List E) → cell_in B M ones fits n x w ≡ cells_at σ fits n x w
    unfolding cell_in
    cells_in_same zero x w = refl
    cells_in_same (suc n) x w = ap₂ (sum M)
        (fun_ext (λ r. ap₂ M.times (ap (λ v. M.times v M.one) (chain_one B (chosen_chain B r.symbol r.end)) ∙ unit-one)
        (ap (λ c. over_events M fits c r.right w) (fun_ext (λ y. fun_ext (λ u. cells_in_same n y u))))))
        (ap (λ g. g x) e)

    pub cells_same : (x : ℕ) (w : List E) → cell B M ones fits x w ≡ cells_at σ fits (length w) x w
    unfolding cell
    cells_same x w = cells_in_same (length w) x w

-- the derivation taken, by cells that compute
module _ (B : Binarised) (bounded : Bounded B) (j k : ℕ) (lj : j ≤ B.symbols) (lk : k ≤ B.symbols) (e : nullable B ≡ nullable_after B j)
    (t : chains_rest B (nullable_after B j) k ≡ true) {E : Type 0} (fits : E → ℕ → Bool) where
  abbrev σ : ℕ → List StrictFormRule
  σ = strict_of_at B (nullable_after B j) k

  abbrev pub yes_at : ℕ → List E → Bool
  yes_at x w = cells_at yes_no refl σ fits (length w) x w

  pub yes_same : yes_cell B fits ≡ yes_at
  yes_same = fun_ext (λ x. fun_ext (λ w. cells_same yes_no refl B σ (strict_of_same B bounded (nullable_after B j) e k lk t) fits x w))

  rules_same : (x : ℕ) → strict_rules_of B x ≡ σ x
  rules_same x = ap (λ g. g x) (strict_of_same B bounded (nullable_after B j) e k lk t)

  tree_at : ℕ → StrictFormRule → Tree → Tree
  tree_at x r s = chain_over_at B j (chain_at B (nullable_after B j) r.end k x) s

  at_end : (x : ℕ) (r : StrictFormRule) (s : Tree) → r.end < B.symbols → within_at B (nullable_after B j) r.end k x ≡ true
      → chain_over B (chosen_chain B x r.end) s ≡ tree_at x r s
  unfolding tree_at
  at_end x r s small h =
      let c = chain_same B bounded (nullable_after B j) e k x r.end lk small h in
      let m : within B r.end B.symbols x ≡ true = ap (λ g. g x) (settled_within r.end small) ∙ within_same B (nullable_after B j) e r.end k x ∙ h in
      chain_over_same B bounded j lj e x (chosen_chain B x r.end) r.end s (chain_leads B bounded x r.end (mem_reached B bounded x r.end small m))
      ∙ ap (λ d. chain_over_at B j d s) c
    where
      settled_within : (y : ℕ) → y < B.symbols → within B y B.symbols ≡ within B y k
      settled_within y small = settled (nearer B) (within B y) B.symbols (within_next B y) (within_grows B y) (within_small B bounded y small) k lk
          (λ z h'. within_same B (nullable_after B j) e y (suc k) z
          ∙ same_bit_gives _ _ (every_gives _ (below B.symbols) (every_gives _ (below B.symbols) t y (mem_below B.symbols y small)) z (mem_below B.symbols z h'))
          ∙ sym (within_same B (nullable_after B j) e y k z))

  first_rule : (x : ℕ) (w : List E) (r : StrictFormRule) → First (λ (r : StrictFormRule). over_events yes_no fits yes_at r.right w) (σ x) r
      → First (rule_fits B fits w) (strict_rules_of B x) r
  first_rule x w r f = subst (λ (c : ℕ → List E → Bool). First (λ (r : StrictFormRule). over_events yes_no fits c r.right w) (strict_rules_of B x) r) (sym yes_same)
      (subst (λ (l : List StrictFormRule). First (λ (r : StrictFormRule). over_events yes_no fits yes_at r.right w) l r) (sym (rules_same x)) f)

  pub takes_event : (x p : ℕ) (v : E) (r : StrictFormRule) → First (λ (r : StrictFormRule). over_events yes_no fits yes_at r.right (v ∷ [])) (σ x) r → r.right ≡ terminal p
      → r.end < B.symbols → within_at B (nullable_after B j) r.end k x ≡ true
      → Takes B fits x (chain_over_at B j (chain_at B (nullable_after B j) r.end k x) (leaf r.end r.number)) (v ∷ [])
  unfolding tree_at
  takes_event x p v r f q small h =
      subst (λ s. Takes B fits x s (v ∷ [])) (at_end x r (leaf r.end r.number) small h) (takes_terminal r (first_rule x (v ∷ []) r f) q)

  pub takes_events : (x a b : ℕ) (s u : Tree) (w : List E) (r : StrictFormRule) (c : Cut E)
      → First (λ (r : StrictFormRule). over_events yes_no fits yes_at r.right w) (σ x) r → r.right ≡ binary a b
      → r.end < B.symbols → within_at B (nullable_after B j) r.end k x ≡ true
      → First (λ (c : Cut E). yes_at a c.0 && yes_at b c.1) (cuts w) c → Takes B fits a s c.0 → Takes B fits b u c.1
      → Takes B fits x (chain_over_at B j (chain_at B (nullable_after B j) r.end k x) (fork r.end r.number s u)) w
  unfolding tree_at
  takes_events x a b s u w r c f q small h g d d' =
      subst (λ s. Takes B fits x s w) (at_end x r (fork r.end r.number s u) small h)
      (takes_binary r c (first_rule x w r f) q (subst (λ (h : ℕ → List E → Bool). First (λ (c : Cut E). h a c.0 && h b c.1) (cuts w) c) (sym yes_same) g) d d')
