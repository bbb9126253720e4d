-- Without empty and unit rules every derivation is plain.
use Rattle.std.proofs.Common.{◌≡◌, ℕ, Bool, false, List, [], sym, refl, ap, ◌∙◌, true≢false}
use Rattle.grammar.specs.Binarised.{Binarised, Tree, root, bare, Derives, by_empty, by_unit, by_binary, by_terminal}
use Rattle.grammar.proofs.Short.{Proper, ChosenChain}
use Rattle.grammar.specs.Chains.{chosen_chain}
use Rattle.grammar.specs.Plain.{run, core}
use Rattle.grammar.proofs.PlainTrees.{Below, PlainByTree}
use Rattle.grammar.proofs.Chains.{chain_self}

-- a tree whose first rule has events on each side
record Upright (B : Binarised) (s : Tree) : Type 0 where
  busy : bare s ≡ false
  no_run : run s ≡ []
  is_core : core s ≡ s
  below : Below B s

upright_chosen : (B : Binarised) (s : Tree) → Upright B s → ChosenChain B s
upright_chosen B s u = u.no_run ∙ sym (chain_self B (root s)) ∙ ap (λ z. chosen_chain B (root s) (root z)) (sym u.is_core)

module _ (B : Binarised) (proper : Proper B) {E : Type 0} (fits : E → ℕ → Bool) where
  upright : (x : ℕ) (s : Tree) (w : List E) → Derives B fits x s w → Upright B s
  upright x s w (by_empty m) = absurd (true≢false (sym (proper _ _ _ m)))
  upright x s w (by_unit m d) = absurd (true≢false (sym (proper _ _ _ m)))
  upright x s w (by_terminal m f) = record { busy = refl; no_run = refl; is_core = refl; below = tt }
  upright x s w (by_binary {y = y} {z = z} {s = s'} {t = t'} {u = u} {v = v} m d d' q) =
      let i = upright y s' u d in
      let j = upright z t' v d' in
      record {
        busy = rw i.busy;
        no_run = rw (i.busy, j.busy);
        is_core = rw (i.busy, j.busy);
        below = rw (i.busy, j.busy) ((upright_chosen B s' i, i.below), (upright_chosen B t' j, j.below));
      }

  pub all_plain : (x : ℕ) (s : Tree) (w : List E) → Derives B fits x s w → PlainByTree B s
  all_plain x s w d = let u = upright x s w d in rw u.busy (upright_chosen B s u, u.below)
