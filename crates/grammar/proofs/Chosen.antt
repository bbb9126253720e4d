-- The chosen rules of nullable symbols, and the chosen chains.
use Rattle.std.proofs.Common.{◌≡◌, ℕ, zero, suc, ◌≤◌, Bool, true, false, cond, ◌⊎◌, List, [], ◌∷◌, ◌++◌, length, sym, refl, ap, ◌∙◌, subst, ap₂, inl, inr, true≢false, arith, ◌<◌}
use Rattle.std.proofs.lemmas.Bool.{and_parts, cases_lt, cases_Bool, or_cases}
use Rattle.grammar.specs.Lists.{Mem, each, first_of, some_of, Sorted}
use Rattle.grammar.specs.Binarised.{Has, Right, empty, unit, binary, terminal, OwnRule, rules_of, Binarised, Bounded, over, fork}
use Rattle.grammar.specs.Nullable.{BringsIn, ready, next_round, nullable_after, nullable, rule_tree, first_ready, nullable_tree_in, nullable_tree}
use Rattle.grammar.specs.Productions.{Book, Sound}
use Rattle.grammar.specs.Binarise.{binarised}
use Rattle.grammar.specs.Chains.{IsChosen, Lower, nothing, the_right, the_left, ChainStep, unit_step, UnitChain, steps_by, steps, within, first_step, chosen_chain_in, chosen_chain, reached}
use Rattle.grammar.proofs.Rounds.{in_the_end, holds_on}
use Rattle.grammar.proofs.Nullable.{rule_has, has_rule, rounds_next, rounds_grow, rounds_small, nullable_kept}
use Rattle.grammar.proofs.Lists.{sorted_append, first_from, each_mem}
use Rattle.grammar.proofs.Chains.{chain_leads, mem_reached, chain_within, chain_kept, chain_rest, chain_fewest, chain_in_length, within_length, lead_steps}
use Rattle.grammar.proofs.BinarisedRules.{binarised_same, Ascending, binarised_bounded, binarised_ascending}
use Rattle.grammar.specs.Promises.{ChosenRule, TheChosenChain}

first_least : (p : OwnRule → Bool) (d : OwnRule) (os : List OwnRule) → Ascending os → (o : OwnRule) → Mem o os → p o ≡ true → (first_of p d os).0 ≤ o.0
first_least p d [] r o m t = absurd m
first_least p d (x ∷ os) r o m t = (elim (p x) as (λ b. p x ≡ b → (cond b x (first_of p d os)).0 ≤ o.0) [
  | true ↦ λ e. elim m [ inl q ↦ (let h : o.0 ≡ x.0 = ap (λ (z : OwnRule). z.0) q in omega arith) | inr i ↦ (let h = r.0 o i in omega arith) ]
  | false ↦ λ e. elim m [ inl q ↦ absurd (true≢false (sym t ∙ ap p q ∙ e)) | inr i ↦ first_least p d os r.1 o i t ]
]) refl

module _ (B : Binarised) (bounded : Bounded B) (k : ℕ) (low : k ≤ B.symbols) where
  same_below : (y : ℕ) → nullable_after B k y ≡ true → nullable_tree_in B k y ≡ nullable_tree B y
  unfolding nullable_tree
  same_below y t = sym (nullable_kept B bounded k B.symbols y low t)

  rule_tree_same : (x n : ℕ) (b : Right) → ready (nullable_after B k) b ≡ true → rule_tree (nullable_tree_in B k) x n b ≡ rule_tree (nullable_tree B) x n b
  rule_tree_same x n empty t = refl
  rule_tree_same x n (unit y) t = ap (over x n) (same_below y t)
  rule_tree_same x n (binary y z) t = ap₂ (fork x n) (same_below y (and_parts (nullable_after B k y) (nullable_after B k z) t).0) (same_below z (and_parts (nullable_after B k y) (nullable_after B k z) t).1)
  rule_tree_same x n (terminal p) t = refl

nullable_tree_next : (B : Binarised) (k x : ℕ) → nullable_after B k x ≡ false → nullable_tree_in B (suc k) x ≡ rule_tree (nullable_tree_in B k) x (first_ready B (nullable_after B k) x).0 (first_ready B (nullable_after B k) x).1
unfolding nullable_tree_in
nullable_tree_next B k x f = rw f refl

rounds_step : (B : Binarised) (k x : ℕ) → nullable_after B k x ≡ false → nullable_after B (suc k) x ≡ true → some_of (λ (o : OwnRule). ready (nullable_after B k) o.1) (rules_of B x) ≡ true
unfolding nullable_after
rounds_step B k x f t = elim (or_cases (nullable_after B k x) _ t) [ inl e ↦ absurd (true≢false (sym e ∙ f)) | inr e ↦ e ]

pub nullable_chosen : (W : Book) → Sound W → (k x : ℕ)
    → nullable_after (binarised W) k x ≡ false → nullable_after (binarised W) (suc k) x ≡ true → ChosenRule (binarised W) k x
nullable_chosen W S k x f t = elim (cases_lt k B.symbols) [
  | inl l ↦
      let r = first_from (λ (o : OwnRule). ready (nullable_after B k) o.1) (zero, empty) (rules_of B x) (rounds_step B k x f t) in
      let o = first_ready B (nullable_after B k) x in
      let j : BringsIn B k x o.0 o.1 = record {
        is_rule = rule_has B x o r.0;
        of_found = r.1;
        lowest = (λ m c h e. first_least (λ (o : OwnRule). ready (nullable_after B k) o.1) (zero, empty) (rules_of B x) (binarised_ascending W S x) (m, c) (has_rule B x m c h) e);
      } in
      record {
        number = o.0;
        right = o.1;
        brings_in = j;
        only = λ n b q. same n o.0 b o.1 q j;
        tree = (tree (omega arith) ∙ nullable_tree_next B k x f ∙ rule_tree_same B bd k (omega arith) x o.0 o.1 r.1);
      }
  | inr g ↦ absurd (true≢false (sym (holds_on (next_round B) (nullable_after B) B.symbols (rounds_next B bd) (rounds_grow B bd) (rounds_small B bd) B.symbols k x (omega arith)
      (in_the_end (next_round B) (nullable_after B) B.symbols (rounds_next B bd) (rounds_grow B bd) (rounds_small B bd) (suc k) x t)) ∙ f))
]
  where
    B : Binarised
    B = binarised W

    bd : Bounded B
    bd = binarised_bounded W S

    same : (n m : ℕ) (b c : Right) → BringsIn B k x n b → BringsIn B k x m c → (n ≡ m) × (b ≡ c)
    same n m b c q j =
        let e : n ≡ m = omega (arith, q.lowest m c j.is_rule j.of_found, j.lowest n b q.is_rule q.of_found) in
        (e, binarised_same W S x m b c (subst (λ z. Has B x z b) e q.is_rule) j.is_rule)

    tree : suc k ≤ B.symbols → nullable_tree B x ≡ nullable_tree_in B (suc k) x
    tree l = sym (same_below B bd (suc k) l x t)

-- the steps of a symbol stand in order
steps_one : (b : ℕ → Bool) (x n : ℕ) (d : Right) → Sorted Lower (steps_by b x n d)
steps_one b x n empty = tt
steps_one b x n (unit y) = ((λ q m. absurd m), tt)
steps_one b x n (terminal p) = tt
steps_one b x n (binary y z) = (elim (b z) as (λ c. Sorted Lower (cond c (unit_step x n (the_right z) y ∷ []) [] ++ cond (b y) (unit_step x n (the_left y) z ∷ []) [])) [
  | true ↦ (elim (b y) as (λ c. Sorted Lower (unit_step x n (the_right z) y ∷ cond c (unit_step x n (the_left y) z ∷ []) [])) [
    | true ↦ ((λ q m. elim m [ inl e ↦ subst (Lower (unit_step x n (the_right z) y)) (sym e) (inr (refl, omega arith)) | inr i ↦ absurd i ]), ((λ q m. absurd m), tt))
    | false ↦ ((λ q m. absurd m), tt)
  ])
  | false ↦ (elim (b y) as (λ c. Sorted Lower (cond c (unit_step x n (the_left y) z ∷ []) []))
      [ true ↦ ((λ q m. absurd m), tt) | false ↦ tt ])
])

step_number : (b : ℕ → Bool) (x n : ℕ) (d : Right) (s : ChainStep) → Mem s (steps_by b x n d) → s.number ≡ n
step_number b x n empty s m = absurd m
step_number b x n (unit y) s m = elim m [ inl e ↦ ap (λ z. z.number) e | inr i ↦ absurd i ]
step_number b x n (terminal p) s m = absurd m
step_number b x n (binary y z) s m = go (b z) (b y) m
  where
    go : (c d : Bool) → Mem s (cond c (unit_step x n (the_right z) y ∷ []) [] ++ cond d (unit_step x n (the_left y) z ∷ []) []) → s.number ≡ n
    go true true m = elim m [ inl e ↦ ap (λ z. z.number) e | inr i ↦ elim i [ inl e ↦ ap (λ z. z.number) e | inr j ↦ absurd j ] ]
    go true false m = elim m [ inl e ↦ ap (λ z. z.number) e | inr i ↦ absurd i ]
    go false true m = elim m [ inl e ↦ ap (λ z. z.number) e | inr i ↦ absurd i ]
    go false false m = absurd m

steps_all : (b : ℕ → Bool) (x : ℕ) (os : List OwnRule) → Ascending os → Sorted Lower (each (λ (o : OwnRule). steps_by b x o.0 o.1) os)
steps_all b x [] h = tt
steps_all b x (o ∷ os) h = sorted_append Lower (steps_by b x o.0 o.1) (each (λ (o : OwnRule). steps_by b x o.0 o.1) os) (steps_one b x o.0 o.1) (steps_all b x os h.1)
    (λ s q m n. let k = each_mem (λ (o : OwnRule). steps_by b x o.0 o.1) q os n in
    let e = step_number b x o.0 o.1 s m in
    let f = step_number b x k.0.0 k.0.1 q k.2 in
    let l = h.0 k.0 k.1 in
    inl (omega arith))

steps_sorted : (W : Book) → Sound W → (x : ℕ) → Sorted Lower (steps (binarised W) x)
unfolding steps
steps_sorted W S x = steps_all (nullable (binarised W)) x (rules_of (binarised W) x) (binarised_ascending W S x)

first_lower : (p : ChainStep → Bool) (d : ChainStep) (l : List ChainStep) → Sorted Lower l → (q : ChainStep) → Mem q l → p q ≡ true → (first_of p d l ≡ q) ⊎ Lower (first_of p d l) q
first_lower p d [] h q m t = absurd m
first_lower p d (s ∷ l) h q m t = (elim (p s) as (λ b. p s ≡ b → (cond b s (first_of p d l) ≡ q) ⊎ Lower (cond b s (first_of p d l)) q) [
  | true ↦ λ e. elim m [ inl i ↦ inl (sym i) | inr j ↦ inr (h.0 q j) ]
  | false ↦ λ e. elim m [ inl i ↦ absurd (true≢false (sym t ∙ ap p i ∙ e)) | inr j ↦ first_lower p d l h.1 q j t ]
]) refl

chain_next : (B : Binarised) (y k x : ℕ) → within B y k x ≡ false → chosen_chain_in B y (suc k) x ≡ first_step B y k x ∷ chosen_chain_in B y k (first_step B y k x).to
unfolding chosen_chain_in
chain_next B y k x f = rw f refl

chain_at : (B : Binarised) (x y : ℕ) → chosen_chain B x y ≡ chosen_chain_in B y B.symbols x
unfolding chosen_chain
chain_at B x y = refl

-- no two steps are lower than each other
lower_once : (s q : ChainStep) → Lower s q → Lower q s → ⊥
lower_once s q (inl a) (inl b) = omega arith
lower_once s q (inl a) (inr b) = let e = b.0 in omega arith
lower_once s q (inr a) (inl b) = let e = a.0 in omega arith
lower_once s q (inr a) (inr b) = let e = a.1 in let f = b.1 in omega arith

-- the law of the chosen chain leaves no choice
only_chosen : (B : Binarised) (y : ℕ) (chosen : ℕ → List ChainStep) (x : ℕ) (c d : List ChainStep) → IsChosen B y chosen x c → IsChosen B y chosen x d → c ≡ d
only_chosen B y chosen x [] [] p q = refl
only_chosen B y chosen x [] (t ∷ d) p q = absurd (let h = q.fewest [] p.leads in omega arith)
only_chosen B y chosen x (s ∷ c) [] p q = absurd (let h = p.fewest [] q.leads in omega arith)
only_chosen B y chosen x (s ∷ c) (t ∷ d) p q = ap₂ ◌∷◌ same (p.rest s c refl ∙ ap (λ (z : ChainStep). chosen z.to) same ∙ sym (q.rest t d refl))
  where
    long : length c ≡ length d
    long = let h = p.fewest (t ∷ d) q.leads in let k = q.fewest (s ∷ c) p.leads in omega arith

    same : s ≡ t
    same = elim (p.lowest s c refl t d q.leads (sym long))
        [ inl e ↦ e | inr l ↦ elim (q.lowest t d refl s c p.leads long) [ inl e ↦ sym e | inr k ↦ absurd (lower_once s t l k) ] ]

pub chain_chosen : (W : Book) → Sound W → (x y : ℕ) (c : List ChainStep)
    → y < (binarised W).symbols → UnitChain (binarised W) x c y → TheChosenChain (binarised W) x y
chain_chosen W S x y c small h = record { is_chosen = law; only = λ d q. only_chosen B y (λ z. chosen_chain B z y) x d (chosen_chain B x y) q law }
  where
    B : Binarised
    B = binarised W

    bd : Bounded B
    bd = binarised_bounded W S

    here : Mem y (reached B x)
    here = mem_reached B bd x y small (chain_within B bd y small x c h)

    lowest : (s : ChainStep) (d : List ChainStep) → chosen_chain B x y ≡ s ∷ d → (q : ChainStep) (e : List ChainStep) → UnitChain B x (q ∷ e) y → length e ≡ length d → (s ≡ q) ⊎ Lower s q
    lowest s d i q e g n = by (cases_Bool (within B y (length e) x))
      where
        kept : (k : ℕ) → within B y k x ≡ true → chosen_chain B x y ≡ chosen_chain_in B y k x
        kept k t = elim (cases_lt k B.symbols) [
          | inl l ↦ chain_at B x y ∙ chain_kept B bd y small k B.symbols x (omega arith) t
          | inr l ↦ chain_at B x y ∙ sym (chain_kept B bd y small B.symbols k x l (chain_within B bd y small x c h))
        ]

        long : length (chosen_chain B x y) ≡ suc (length d)
        long = ap length i

        by : ((within B y (length e) x) ≡ true) ⊎ ((within B y (length e) x) ≡ false) → (s ≡ q) ⊎ Lower s q
        by (inl t) = absurd (let a = ap length (kept (length e) t) in let b = chain_in_length B bd y (length e) x in let z = long in omega arith)
        by (inr f) =
            let j = kept (suc (length e)) (within_length B bd y x (q ∷ e) g) ∙ chain_next B y (length e) x f in
            let o : first_step B y (length e) x ≡ s = let j' = sym j ∙ i in cc in
            subst (λ z. (z ≡ q) ⊎ Lower z q) o
            (first_lower (λ (s : ChainStep). within B y (length e) s.to) (unit_step x zero nothing x) (steps B x) (steps_sorted W S x) q
            (subst (λ z. Mem q (steps B z)) g.0 (lead_steps B q.from q.number q.dropped q.to g.1))
            (within_length B bd y q.to e g.2))

    law : IsChosen B y (λ z. chosen_chain B z y) x (chosen_chain B x y)
    law = record
        { leads = chain_leads B bd x y here; fewest = λ c h. chain_fewest B bd x y c small h; lowest = lowest; rest = λ s d e. (chain_rest B bd x y s d here e).2 }
