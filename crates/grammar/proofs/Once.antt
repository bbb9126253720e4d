-- The list of all plain trees holds each once.
use Rattle.std.proofs.Common.{◌≡◌, ℕ, zero, suc, ◌+◌, Bool, true, false, cond, List, [], ◌∷◌, map, length, sym, refl, ap, ◌∙◌, ap₂, inl, inr, length-append}
use Rattle.grammar.specs.Lists.{Mem, Distinct, each, Cut, cuts, below}
use Rattle.grammar.specs.Binarised.{Right, empty, unit, binary, terminal, Binarised, OwnRule, rules_of, Bounded, Tree, null, over, fork, leaf, root, width, Derives, by_empty, by_unit, by_binary, by_terminal}
use Rattle.grammar.proofs.Short.{Numbered}
use Rattle.grammar.specs.Chains.{chosen_chain, within, reached}
use Rattle.grammar.specs.Plain.{core}
use Rattle.grammar.specs.Taken.{chain_over}
use Rattle.grammar.proofs.PlainTrees.{grown, cores, all_in}
use Rattle.std.proofs.lemmas.List.{map-id}
use Rattle.grammar.proofs.Lists.{map_mem, each_mem, distinct_each, distinct_map, distinct_those, count_up_distinct, cuts_distinct}
use Rattle.grammar.proofs.ChainOver.{chain_over_same}
use Rattle.grammar.proofs.Soundness.{Reads, cores_sound, chain_over_end, sound_in}

pub derives_width : (B : Binarised) {E : Type 0} (fits : E → ℕ → Bool) (x : ℕ) (s : Tree) (w : List E) → Derives B fits x s w → width s ≡ length w
derives_width B fits x s w (by_empty m) = refl
derives_width B fits x s w (by_unit {y = y} {s = s'} m d) = derives_width B fits y s' w d
derives_width B fits x s w (by_binary {y = y} {z = z} {s = s'} {t = t'} {u = u} {v = v} m d d' q) =
    ap₂ ◌+◌ (derives_width B fits y s' u d) (derives_width B fits z t' v d') ∙ sym (length-append u v) ∙ ap length q
derives_width B fits x s w (by_terminal m f) = refl

abbrev left_of : Tree → Tree
left_of (null x n) = null x n
left_of (over x n s) = s
left_of (fork x n s t) = s
left_of (leaf x n) = leaf x n

abbrev rule_of : Tree → ℕ
rule_of (null x n) = n
rule_of (over x n s) = n
rule_of (fork x n s t) = n
rule_of (leaf x n) = n

module _ (B : Binarised) (bounded : Bounded B) (numbered : Numbered B) {E : Type 0} (fits : E → ℕ → Bool) where
  module _ (trees : ℕ → List E → List Tree) where
    grown_rule : (y n : ℕ) (b : Right) (w : List E) (t : Tree) → Mem t (grown fits trees y n b w) → rule_of t ≡ n
    grown_rule y n empty w t m = elim m [ ]
    grown_rule y n (unit z) w t m = elim m [ ]
    grown_rule y n (terminal p) [] t m = elim m [ ]
    grown_rule y n (terminal p) (e ∷ f ∷ w) t m = elim m [ ]
    grown_rule y n (terminal p) (e ∷ []) t m = (elim (fits e p) as (λ b. Mem t (cond b (leaf y n ∷ []) []) → rule_of t ≡ n)
        [ true ↦ λ m'. elim m' [ inl q ↦ ap rule_of q | inr k ↦ absurd k ] | false ↦ λ m'. absurd m' ]) m
    grown_rule y n (binary a b) w t m =
        let r = each_mem (λ (c : Cut E). each (λ s. map (fork y n s) (trees b c.1)) (trees a c.0)) t (cuts w) m in
        let q = each_mem (λ s. map (fork y n s) (trees b r.0.1)) t (trees a r.0.0) r.2 in
        ap rule_of (map_mem (fork y n q.0) t (trees b r.0.1) q.2).2

    module _ (sound : (a : ℕ) (u : List E) (s : Tree) → Mem s (trees a u) → Reads B fits a s u)
        (once : (a : ℕ) (u : List E) → Distinct (trees a u)) where
      grown_once : (y n : ℕ) (b : Right) (w : List E) → Distinct (grown fits trees y n b w)
      grown_once y n empty w = tt
      grown_once y n (unit z) w = tt
      grown_once y n (terminal p) [] = tt
      grown_once y n (terminal p) (e ∷ f ∷ w) = tt
      grown_once y n (terminal p) (e ∷ []) = (elim (fits e p) as (λ b. Distinct (cond b (leaf y n ∷ []) [])) [ true ↦ (λ m. m, tt) | false ↦ tt ])
      grown_once y n (binary a b) w =
          distinct_each (λ (c : Cut E). each (λ s. map (fork y n s) (trees b c.1)) (trees a c.0))
          (λ t. width (left_of t)) (λ (c : Cut E). length c.0) (cuts w) (cuts_distinct w)
          (λ c m. distinct_each (λ s. map (fork y n s) (trees b c.1)) left_of (λ s. s) (trees a c.0) (rw (map-id (trees a c.0)) (once a c.0))
          (λ s k. distinct_map (fork y n s) (trees b c.1) (λ t t' e. cc) (once b c.1))
          (λ s t k j. ap left_of (map_mem (fork y n s) t (trees b c.1) j).2))
          (λ c t m k.
          let q = each_mem (λ s. map (fork y n s) (trees b c.1)) t (trees a c.0) k in
          ap (λ z. width (left_of z)) (map_mem (fork y n q.0) t (trees b c.1) q.2).2
          ∙ derives_width B fits a q.0 c.0 (sound a c.0 q.0 q.1).derives)

      cores_once : (y : ℕ) (w : List E) → Distinct (cores B fits trees y w)
      cores_once y w = distinct_each (λ (o : OwnRule). grown fits trees y o.0 o.1 w) rule_of (λ (o : OwnRule). o.0) (rules_of B y) (numbered y)
          (λ o m. grown_once y o.0 o.1 w) (λ o t m k. grown_rule y o.0 o.1 w t k)

  reached_once : (x : ℕ) → Distinct (reached B x)
  unfolding reached
  reached_once x = distinct_those (λ z. within B z B.symbols x) (below B.symbols) (count_up_distinct zero B.symbols)

  pub once_in : (k x : ℕ) (w : List E) → Distinct (all_in B fits k x w)
  unfolding all_in
  once_in zero x w = tt
  once_in (suc k) x w =
      distinct_each (λ y. map (chain_over B (chosen_chain B x y)) (cores B fits (all_in B fits k) y w)) (λ s. root (core s)) (λ y. y) (reached B x)
      (rw (map-id (reached B x)) (reached_once x))
      (λ y m. distinct_map (chain_over B (chosen_chain B x y)) (cores B fits (all_in B fits k) y w) (chain_over_same B bounded (chosen_chain B x y))
      (cores_once (all_in B fits k) (λ a u s. sound_in B bounded fits k a u s) (λ a u. once_in k a u) y w))
      (λ y s m k'.
      let r = map_mem (chain_over B (chosen_chain B x y)) s (cores B fits (all_in B fits k) y w) k' in
      ap (λ z. root (core z)) r.2
      ∙ chain_over_end B bounded fits x y r.0 w m (cores_sound B bounded fits (all_in B fits k) (λ a u t. sound_in B bounded fits k a u t) y w r.0 r.1))
