-- The theorems: what the list of all plain trees holds, and what its sum is.
use Rattle.std.proofs.Common.{◌≡◌, ℕ, ◌<◌, Bool, true, false, cond, ◌↔◌, List, [], ◌∷◌, length, sym, refl, ap, ◌∙◌, inl, inr, true≢false, arith}
use Rattle.grammar.specs.Lists.{Mem, Distinct}
use Rattle.grammar.specs.Binarised.{Binarised, Bounded, Tree, Derives}
use Rattle.grammar.proofs.Short.{Numbered}
use Rattle.grammar.specs.Nullable.{nullable, nullable_tree}
use Rattle.grammar.specs.Semiring.{Ops, Semiring, sum}
use Rattle.grammar.specs.Cells.{tree_weight, cell, total}
use Rattle.grammar.specs.Taken.{yes_cell, Takes}
use Rattle.grammar.proofs.PlainTrees.{PlainByTree, all}
use Rattle.grammar.proofs.Nullable.{derives_nullable, nullable_derives}
use Rattle.grammar.proofs.Taken.{reading_first, reading_some, all_reads}
use Rattle.grammar.proofs.Sums.{sum_same}
use Rattle.grammar.proofs.Weighed.{trees_sum}
use Rattle.grammar.proofs.ChainOver.{derives_bare, derives_root}
use Rattle.grammar.proofs.Once.{once_in}
use Rattle.grammar.proofs.Soundness.{sound_in, reads_plain}
use Rattle.grammar.proofs.Completeness.{find, found_in, complete_in}

module _ (B : Binarised) (bounded : Bounded B) {E : Type 0} (fits : E → ℕ → Bool) where
  -- the list holds exactly the plain derivations
  pub all_sound : (x : ℕ) (s : Tree) (w : List E) → Mem s (all B fits x w) → Derives B fits x s w × PlainByTree B s
  unfolding all
  all_sound x s w m = let r = sound_in B bounded fits (length w) x w s m in (r.derives, reads_plain B bounded fits x s w r)

  pub all_complete : (x : ℕ) (s : Tree) (w : List E) → 0 < length w → Derives B fits x s w → PlainByTree B s → Mem s (all B fits x w)
  unfolding all
  all_complete x s [] h d p = absurd (omega arith)
  all_complete x s (e ∷ w) h d p = complete_in B bounded fits (length w) x s (e ∷ w) d h (omega arith) p

  -- where there is a derivation there is a plain one
  pub all_some : (x : ℕ) (s : Tree) (w : List E) → 0 < length w → Derives B fits x s w → (t : Tree) × Mem t (all B fits x w)
  unfolding all
  all_some x s [] h d = absurd (omega arith)
  all_some x s (e ∷ w) h d = found_in B bounded fits (length w) x (e ∷ w) (find B bounded fits x s (e ∷ w) d h (length w) (omega arith))

  -- a symbol is nullable exactly if some tree derives no events from it, and then its chosen tree does
  pub nullable_exact : (x : ℕ) → (nullable B x ≡ true) ↔ ((s : Tree) × Derives B fits x s [])
  nullable_exact x = (λ t. (nullable_tree B x, nullable_derives B bounded fits x t), λ r. derives_nullable B bounded fits x r.0 [] r.1 refl)

  -- the list holds each once
  pub all_once : Numbered B → (x : ℕ) (w : List E) → Distinct (all B fits x w)
  unfolding all
  all_once numbered x w = once_in B bounded numbered fits (length w) x w

  -- the cell is the sum of the weights of the plain derivations, in whatever list they stand once each
  pub cell_is_sum : Numbered B → {V : Type 0} (M : Ops V) (L : Semiring M) (wt : ℕ → ℕ → V) (x : ℕ) (w : List E) → 0 < length w
      → (l : List Tree) → Distinct l → ((s : Tree) → Mem s l ↔ (Derives B fits x s w × PlainByTree B s))
      → sum M (tree_weight M wt) l ≡ cell B M wt fits x w
  cell_is_sum numbered M L wt x w h l d e =
      sum_same M L (tree_weight M wt) l (all B fits x w) d (all_once numbered x w)
      (λ s m. let r = (e s).0 m in all_complete x s w h r.0 r.1)
      (λ s m. (e s).1 (all_sound x s w m))
      ∙ trees_sum B M L wt fits x w

  -- the derivation taken is plain, and the only one taken; one is taken wherever there is a derivation
  pub reading_plain : (x : ℕ) (s : Tree) (w : List E) → Takes B fits x s w → Derives B fits x s w × PlainByTree B s
  reading_plain x s w r = let f = reading_first B fits x s w r in all_sound x s w (rw f.1 (inl refl))

  pub reading_one : (x : ℕ) (s t : Tree) (w : List E) → Takes B fits x s w → Takes B fits x t w → s ≡ t
  reading_one x s t w r r' = let f = reading_first B fits x s w r in let g = reading_first B fits x t w r' in let e = f.1 in let e' = g.1 in cc

  pub reading_exact : (x : ℕ) (w : List E) → (yes_cell B fits x w ≡ true) ↔ ((s : Tree) × Takes B fits x s w)
  reading_exact x w = (reading_some B fits x w, λ r. let f = reading_first B fits x r.0 w r.1 in all_reads B fits x r.0 w (rw f.1 (inl refl)))

  -- the yes/no cell says yes exactly if there is a derivation of these events
  pub yes_cell_exact : (x : ℕ) (w : List E) → 0 < length w → (yes_cell B fits x w ≡ true) ↔ ((s : Tree) × Derives B fits x s w)
  yes_cell_exact x w h = (
    (λ t. let r = reading_some B fits x w t in (r.0, (reading_plain x r.0 w r.1).0)),
    (λ d. let r = all_some x d.0 w h d.1 in all_reads B fits x r.0 w r.1),
  )

  -- over no events the one plain derivation is the chosen tree
  nothing_plain : (x : ℕ) (s : Tree) → Derives B fits x s [] → PlainByTree B s → s ≡ nullable_tree B x
  nothing_plain x s d p = (rw (derives_bare B fits x s [] d) at p) ∙ ap (nullable_tree B) (derives_root B fits x s [] d)

  plain_nothing : (x : ℕ) → nullable B x ≡ true → PlainByTree B (nullable_tree B x)
  plain_nothing x t =
      let d = nullable_derives B bounded fits x t in
      rw (derives_bare B fits x (nullable_tree B x) [] d) (ap (nullable_tree B) (sym (derives_root B fits x (nullable_tree B x) [] d)))

  -- the total is the sum of the weights of the plain derivations, over no events too
  pub total_is_sum : Numbered B → {V : Type 0} (M : Ops V) (L : Semiring M) (wt : ℕ → ℕ → V) (x : ℕ) (w : List E)
      → (l : List Tree) → Distinct l → ((s : Tree) → Mem s l ↔ (Derives B fits x s w × PlainByTree B s))
      → sum M (tree_weight M wt) l ≡ total B M wt fits x w
  total_is_sum numbered M L wt x (e ∷ w) l d m = cell_is_sum numbered M L wt x (e ∷ w) (omega arith) l d m
  total_is_sum numbered M L wt x [] l d m =
      (elim (nullable B x) as (λ b. nullable B x ≡ b → sum M (tree_weight M wt) l ≡ cond b (tree_weight M wt (nullable_tree B x)) M.zero) [
        | true ↦ λ t.
            sum_same M L (tree_weight M wt) l (nullable_tree B x ∷ []) d ((λ k. k), tt)
            (λ s k. let r = (m s).0 k in inl (nothing_plain x s r.0 r.1))
            (λ s k. elim k [ inl q ↦ (m s).1 (rw q (nullable_derives B bounded fits x t, plain_nothing x t)) | inr j ↦ absurd j ])
            ∙ L.plus_comm (tree_weight M wt (nullable_tree B x)) M.zero ∙ L.plus_zero (tree_weight M wt (nullable_tree B x))
        | false ↦ λ t.
            sum_same M L (tree_weight M wt) l [] d tt
            (λ s k. absurd (true≢false (sym (derives_nullable B bounded fits x s [] ((m s).0 k).0 refl) ∙ t)))
            (λ s k. absurd k)
      ]) refl

  -- there is such a list
  pub plain_listed : Numbered B → (x : ℕ) (w : List E) → (l : List Tree) × Distinct l × ((s : Tree) → Mem s l ↔ (Derives B fits x s w × PlainByTree B s))
  plain_listed numbered x (e ∷ w) = (
    all B fits x (e ∷ w),
    all_once numbered x (e ∷ w),
    λ s. (all_sound x s (e ∷ w), λ r. all_complete x s (e ∷ w) (omega arith) r.0 r.1),
  )
  plain_listed numbered x [] =
      (elim (nullable B x) as (λ b. nullable B x ≡ b → (l : List Tree) × Distinct l × ((s : Tree) → Mem s l ↔ (Derives B fits x s [] × PlainByTree B s))) [
        | true ↦ λ t. (
          nullable_tree B x ∷ [],
          ((λ k. k), tt),
          λ s. (
            (λ k. elim k [ inl q ↦ rw q (nullable_derives B bounded fits x t, plain_nothing x t) | inr j ↦ absurd j ]),
            (λ r. inl (nothing_plain x s r.0 r.1)),
          ),
        )
        | false ↦ λ t. (
          [],
          tt,
          λ s. (
            (λ k. absurd k),
            (λ r. absurd (true≢false (sym (derives_nullable B bounded fits x s [] r.0 refl) ∙ t))),
          ),
        )
      ]) refl
