-- Writes that leave what is outside a range of places.
use Rattle.std.proofs.Common.{◌≡◌, ℕ, ◌<◌, ◌≤◌, ◌≢◌, List, set, refl, ◌∙◌, inl, inr, ⊎_elim, arith}
use Rattle.std.proofs.lemmas.List.{get_or-set_other}
use Rattle.chart.specs.Table.{SameOutside}

module _ {V : Type 0} (d : V) where
  -- nothing was written
  pub same_all : (a b : ℕ) (was : List V) → SameOutside d a b was was
  same_all a b was j h = refl

  -- one write after another
  pub same_then : (a b : ℕ) (was mid is : List V) → SameOutside d a b was mid → SameOutside d a b mid is → SameOutside d a b was is
  same_then a b was mid is f g j h = g j h ∙ f j h

  -- one place of the range is written
  pub same_set : (a b p : ℕ) (was : List V) (v : V) → a ≤ p → p < b → SameOutside d a b was (set was p v)
  same_set a b p was v l r j h =
      let ne : j ≢ p = ⊎_elim (λ (k : j < a). λ (q : j ≡ p). omega arith) (λ (k : b ≤ j). λ (q : j ≡ p). omega arith) h in
      get_or-set_other was p j v d ne

  -- a wider range
  pub same_wider : (a b c e : ℕ) (was is : List V) → c ≤ a → b ≤ e → SameOutside d a b was is → SameOutside d c e was is
  same_wider a b c e was is l r f j h = f j (⊎_elim (λ (k : j < c). inl (omega arith)) (λ (k : e ≤ j). inr (omega arith)) h)
