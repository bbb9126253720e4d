-- A derivation is plain by its parts and runs exactly if it is plain by the definition along the tree.
use Rattle.std.proofs.Common.{◌≡◌, ℕ, zero, suc, ◌≤◌, Bool, true, false, cond, ◌&&◌, ◌||◌, List, sym, refl, ap, ◌∙◌, subst, inl, inr, true≢false, arith}
use Rattle.std.proofs.lemmas.Bool.{and_parts, and_from, both_ways}
use Rattle.grammar.specs.Lists.{some_of}
use Rattle.grammar.specs.Binarised.{Right, empty, unit, binary, terminal, Binarised, OwnRule, rules_of, Bounded, Tree, null, over, fork, leaf, root, bare, Derives, by_empty, by_unit, by_binary, by_terminal}
use Rattle.grammar.specs.Nullable.{ready, nullable_after, nullable, rule_tree, first_ready, nullable_tree_in, nullable_tree}
use Rattle.grammar.specs.Plain.{by_parts, Part, Starts, whole, on_left, on_right, Plain}
use Rattle.grammar.proofs.Short.{Apart, ChosenEmpty, ChosenChain}
use Rattle.grammar.proofs.PlainTrees.{Below, PlainByTree}
use Rattle.grammar.proofs.Lists.{first_from}
use Rattle.grammar.proofs.Nullable.{rule_tree_root, nullable_kept, derives_nullable}
use Rattle.grammar.proofs.ChainOver.{nil_of, derives_bare, derives_root}

pub part_self : (s : Tree) → Part s s
part_self (null x n) = refl
part_self (over x n s) = inl refl
part_self (fork x n s t) = inl refl
part_self (leaf x n) = refl

-- a part of a tree without events has none
pub part_bare : (t s : Tree) → Part t s → bare s ≡ true → bare t ≡ true
part_bare t (null x n) p e = ap bare p ∙ e
part_bare t (over x n s) (inl p) e = ap bare p ∙ e
part_bare t (over x n s) (inr p) e = part_bare t s p e
part_bare t (fork x n s r) (inl p) e = ap bare p ∙ e
part_bare t (fork x n s r) (inr (inl p)) e = part_bare t s p (and_parts (bare s) (bare r) e).0
part_bare t (fork x n s r) (inr (inr p)) e = part_bare t r p (and_parts (bare s) (bare r) e).1
part_bare t (leaf x n) p e = ap bare p ∙ e

module _ (B : Binarised) (bounded : Bounded B) where
  Kept : Tree → Type 0
  Kept s = (t : Tree) → Part t s → ChosenEmpty B t

  rule_tree_kept : (k x n : ℕ) (b : Right) → ready (nullable_after B k) b ≡ true → ChosenEmpty B (rule_tree (nullable_tree_in B k) x n b)
      → ((y : ℕ) → nullable_after B k y ≡ true → Kept (nullable_tree_in B k y)) → Kept (rule_tree (nullable_tree_in B k) x n b)
  unfolding Kept
  rule_tree_kept k x n empty h e ih t p = rw p e
  rule_tree_kept k x n (unit y) h e ih t (inl p) = rw p e
  rule_tree_kept k x n (unit y) h e ih t (inr p) = ih y h t p
  rule_tree_kept k x n (binary y z) h e ih t (inl p) = rw p e
  rule_tree_kept k x n (binary y z) h e ih t (inr (inl p)) = ih y (and_parts (nullable_after B k y) (nullable_after B k z) h).0 t p
  rule_tree_kept k x n (binary y z) h e ih t (inr (inr p)) = ih z (and_parts (nullable_after B k y) (nullable_after B k z) h).1 t p
  rule_tree_kept k x n (terminal p) h e ih t q = absurd (true≢false (sym h))

  -- the parts of a chosen tree without events are the chosen trees of their roots
  nullable_in_kept : (k x : ℕ) → k ≤ B.symbols → nullable_after B k x ≡ true → Kept (nullable_tree_in B k x)
  unfolding nullable_after nullable_tree_in nullable_tree
  nullable_in_kept zero x l t = absurd (true≢false (sym t))
  nullable_in_kept (suc k) x l t =
      let p : OwnRule → Bool = λ o. ready (nullable_after B k) o.1 in
      let o = first_ready B (nullable_after B k) x in
      (elim (nullable_after B k x) as (λ b. nullable_after B k x ≡ b → (b || some_of p (rules_of B x)) ≡ true
      → cond b (nullable_tree_in B k x) (rule_tree (nullable_tree_in B k) x o.0 o.1) ≡ nullable_tree_in B (suc k) x
      → Kept (cond b (nullable_tree_in B k x) (rule_tree (nullable_tree_in B k) x o.0 o.1))) [
        | true ↦ λ e t' q. nullable_in_kept k x (omega arith) e
        | false ↦ λ e t' q. let r = first_from p (zero, empty) (rules_of B x) t' in
            rule_tree_kept k x o.0 o.1 r.1 (q ∙ sym (nullable_kept B bounded (suc k) B.symbols x l t) ∙ ap (nullable_tree B) (sym (rule_tree_root (nullable_tree_in B k) x o.0 o.1)))
            (λ y. nullable_in_kept k y (omega arith))
      ]) refl t refl

  nullable_tree_kept : (x : ℕ) → nullable B x ≡ true → Kept (nullable_tree B x)
  unfolding nullable nullable_tree
  nullable_tree_kept x t = nullable_in_kept B.symbols x (omega arith) t

  dropped_kept : (x : ℕ) (s : Tree) → root s ≡ x → nullable B x ≡ true → ChosenEmpty B s → (t : Tree) → Part t s → ChosenEmpty B t
  unfolding Kept
  dropped_kept x s r b d t p = nullable_tree_kept x b t (subst (λ z. Part t z) (d ∙ ap (nullable_tree B) r) p)

  module _ {E : Type 0} (fits : E → ℕ → Bool) where
    bare_nullable : (x : ℕ) (s : Tree) (w : List E) → Derives B fits x s w → bare s ≡ true → nullable B x ≡ true
    bare_nullable x s w d e = derives_nullable B bounded fits x s w d (nil_of w (sym (derives_bare B fits x s w d) ∙ e))

    below_nullables : (x : ℕ) (s : Tree) (w : List E) → Derives B fits x s w → bare s ≡ false → Below B s → (t : Tree) → Part t s → bare t ≡ true → ChosenEmpty B t
    below_nullables x s w (by_empty m) e b t p h = absurd (true≢false e)
    below_nullables x s w (by_terminal m f) e b t p h = absurd (both_ways (bare t) (ap bare p) h)
    below_nullables x s w (by_unit m d) e b t (inl p) h = absurd (both_ways (bare t) (ap bare p ∙ e) h)
    below_nullables x s w (by_unit {y = y} {s = s'} m d) e b t (inr p) h = below_nullables y s' w d e b t p h
    below_nullables x s w (by_binary m d d' q) e b t (inl p) h = absurd (both_ways (bare t) (ap bare p ∙ e) h)
    below_nullables x s w (by_binary {y = y} {z = z} {s = s'} {t = t'} {u = u} {v = v} m d d' q) e b t (inr p) h =
        (elim (bare t') as (λ j. bare t' ≡ j → by_parts (bare s') j (ChosenEmpty B t' × Below B s') (ChosenEmpty B s' × Below B t') ((ChosenChain B s' × Below B s') × (ChosenChain B t' × Below B t')) → ChosenEmpty B t) [
          | true ↦ λ j b'. elim p [
            | inl i ↦ (elim (bare s') as (λ k. bare s' ≡ k → ChosenEmpty B t) [
              | true ↦ λ k. absurd (both_ways (bare s' && bare t') e (and_from (bare s') (bare t') k j))
              | false ↦ λ k. below_nullables y s' u d k b'.1 t i h
            ]) refl
            | inr i ↦ dropped_kept z t' (derives_root B fits z t' v d') (bare_nullable z t' v d' j) b'.0 t i
          ]
          | false ↦ λ j b'. (elim (bare s') as (λ k. bare s' ≡ k → by_parts k false (ChosenEmpty B t' × Below B s') (ChosenEmpty B s' × Below B t') ((ChosenChain B s' × Below B s') × (ChosenChain B t' × Below B t')) → ChosenEmpty B t) [
            | true ↦ λ k b''. elim p [
              | inl i ↦ dropped_kept y s' (derives_root B fits y s' u d) (bare_nullable y s' u d k) b''.0 t i
              | inr i ↦ below_nullables z t' v d' j b''.1 t i h
            ]
            | false ↦ λ k b''. elim p [
              | inl i ↦ below_nullables y s' u d k b''.0.1 t i h
              | inr i ↦ below_nullables z t' v d' j b''.1.1 t i h
            ]
          ]) refl b'
        ]) refl b

  -- under a binary rule with events on both sides the runs are the chosen chains
  below_runs : (s : Tree) → Below B s → (x n : ℕ) (l r : Tree) → Part (fork x n l r) s → Apart l r → ChosenChain B l × ChosenChain B r
  below_runs (null y m) b x n l r p a = absurd (let z : ◌≡◌ {A = ℕ} 0 1 = cc in omega arith)
  below_runs (leaf y m) b x n l r p a = absurd (let z : ◌≡◌ {A = ℕ} 0 1 = cc in omega arith)
  below_runs (over y m s) b x n l r (inl p) a = absurd (let z : ◌≡◌ {A = ℕ} 0 1 = cc in omega arith)
  below_runs (over y m s) b x n l r (inr p) a = below_runs s b x n l r p a
  below_runs (fork y m s t) b x n l r (inl p) a =
      let el : l ≡ s = cc in
      let er : r ≡ t = cc in
      let b' = rw (ap bare (sym el) ∙ a.0, ap bare (sym er) ∙ a.1) at b in
      (rw el b'.0.0, rw er b'.1.0)
  below_runs (fork y m s t) b x n l r (inr p) a =
      (elim (bare t) as (λ j. bare t ≡ j → by_parts (bare s) j (ChosenEmpty B t × Below B s) (ChosenEmpty B s × Below B t) ((ChosenChain B s × Below B s) × (ChosenChain B t × Below B t)) → ChosenChain B l × ChosenChain B r) [
        | true ↦ λ j b'. elim p [
          | inl i ↦ below_runs s b'.1 x n l r i a
          | inr i ↦ absurd (both_ways (bare l) a.0 (and_parts (bare l) (bare r) (part_bare (fork x n l r) t i j)).0)
        ]
        | false ↦ λ j b'. (elim (bare s) as (λ k. bare s ≡ k → by_parts k false (ChosenEmpty B t × Below B s) (ChosenEmpty B s × Below B t) ((ChosenChain B s × Below B s) × (ChosenChain B t × Below B t)) → ChosenChain B l × ChosenChain B r) [
          | true ↦ λ k b''. elim p [
            | inl i ↦ absurd (both_ways (bare l) a.0 (and_parts (bare l) (bare r) (part_bare (fork x n l r) s i k)).0)
            | inr i ↦ below_runs t b''.1 x n l r i a
          ]
          | false ↦ λ k b''. elim p [ inl i ↦ below_runs s b''.0.1 x n l r i a | inr i ↦ below_runs t b''.1.1 x n l r i a ]
        ]) refl b'
      ]) refl b

  from_parts : (s : Tree) → ((t : Tree) → Part t s → bare t ≡ true → ChosenEmpty B t)
      → ((x n : ℕ) (l r : Tree) → Part (fork x n l r) s → Apart l r → ChosenChain B l × ChosenChain B r) → Below B s
  from_parts (null x n) h g = tt
  from_parts (leaf x n) h g = tt
  from_parts (over x n s) h g = from_parts s (λ t p. h t (inr p)) (λ y m l r p. g y m l r (inr p))
  from_parts (fork x n s t) h g =
      let bs = from_parts s (λ t p. h t (inr (inl p))) (λ y m l r p. g y m l r (inr (inl p))) in
      let bt = from_parts t (λ t p. h t (inr (inr p))) (λ y m l r p. g y m l r (inr (inr p))) in
      (elim (bare t) as (λ j. bare t ≡ j → by_parts (bare s) j (ChosenEmpty B t × Below B s) (ChosenEmpty B s × Below B t) ((ChosenChain B s × Below B s) × (ChosenChain B t × Below B t))) [
        | true ↦ λ j. (h t (inr (inr (part_self t))) j, bs)
        | false ↦ λ j. (elim (bare s) as (λ k. bare s ≡ k → by_parts k false (ChosenEmpty B t × Below B s) (ChosenEmpty B s × Below B t) ((ChosenChain B s × Below B s) × (ChosenChain B t × Below B t))) [
          | true ↦ λ k. (h s (inr (inl (part_self s))) k, bt)
          | false ↦ λ k. let c = g x n s t (inl refl) (k, j) in ((c.0, bs), (c.1, bt))
        ]) refl
      ]) refl

  -- the two definitions agree
  pub plain_to_tree : (s : Tree) → Plain B s → PlainByTree B s
  plain_to_tree s p = (elim (bare s) as (λ b. bare s ≡ b → cond b (ChosenEmpty B s) (ChosenChain B s × Below B s)) [
    | true ↦ λ e. p.null_parts s (part_self s) e
    | false ↦ λ e. (
      p.runs s (whole refl) e,
      from_parts s p.null_parts (λ x n l r q a. (p.runs l (on_left x n r q a) a.0, p.runs r (on_right x n l q a) a.1)),
    )
  ]) refl

  pub plain_from_tree : {E : Type 0} (fits : E → ℕ → Bool) (x : ℕ) (s : Tree) (w : List E) → Derives B fits x s w → PlainByTree B s → Plain B s
  plain_from_tree fits x s w d p = (elim (bare s) as (λ b. bare s ≡ b → cond b (ChosenEmpty B s) (ChosenChain B s × Below B s) → Plain B s) [
    | true ↦ λ e p'. record {
      null_parts = λ t q h. dropped_kept x s (derives_root B fits x s w d) (bare_nullable fits x s w d e) p' t q;
      runs = λ t q h. absurd (no_start e t q h);
    }
    | false ↦ λ e p'. record {
      null_parts = below_nullables fits x s w d e p'.1;
      runs = λ t q h. start p'.0 p'.1 t q;
    }
  ]) refl p
    where
      no_start : bare s ≡ true → (t : Tree) → Starts t s → bare t ≡ false → ⊥
      no_start e t (whole q) h = both_ways (bare t) h (ap bare q ∙ e)
      no_start e t (on_left y n r q a) h = both_ways (bare t) h (and_parts (bare t) (bare r) (part_bare (fork y n t r) s q e)).0
      no_start e t (on_right y n r q a) h = both_ways (bare t) h (and_parts (bare r) (bare t) (part_bare (fork y n r t) s q e)).1

      start : ChosenChain B s → Below B s → (t : Tree) → Starts t s → ChosenChain B t
      start c b t (whole q) = rw q c
      start c b t (on_left y n r q a) = (below_runs s b y n t r q a).0
      start c b t (on_right y n r q a) = (below_runs s b y n r t q a).1
