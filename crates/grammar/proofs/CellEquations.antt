-- The cell and the list of all plain trees by their equations, with no bound on the events.
use Rattle.std.proofs.Common.{◌≡◌, ℕ, zero, suc, ◌<◌, ◌≤◌, Bool, true, false, List, [], ◌∷◌, ◌++◌, map, length, sym, refl, ap, ◌∙◌, ap₂, inl, inr, true≢false, arith, length-append}
use Rattle.grammar.specs.Lists.{Mem, those, each, Cut, cuts}
use Rattle.grammar.specs.Binarised.{Right, empty, unit, binary, terminal, Binarised, rules_of, Tree, fork}
use Rattle.grammar.specs.Strict.{StrictFormRule, strict_rules_of}
use Rattle.grammar.specs.Chains.{chosen_chain, reached}
use Rattle.grammar.specs.Taken.{chain_over}
use Rattle.grammar.specs.Semiring.{Ops, Semiring, sum}
use Rattle.grammar.specs.Cells.{strict_weight, over_events, terminal_fits, is_binary, sides, cell_in, cell}
use Rattle.grammar.proofs.PlainTrees.{grown, cores, all_in, all}
use Rattle.grammar.proofs.Lists.{those_mem, cuts_mem}
use Rattle.grammar.proofs.Sums.{sum_cong, sum_those, sum_times, times_zero_right, times_one_right}

pub cut_short : {E : Type 0} (w : List E) (c : Cut E) → Mem c (cuts w) → (length c.0 < length w) × (length c.1 < length w)
cut_short w c m = let r = cuts_mem w c m in
    (omega (arith, r.1, r.2, length-append c.0 c.1, ap length r.0), omega (arith, r.1, r.2, length-append c.0 c.1, ap length r.0))

module _ {V : Type 0} (M : Ops V) (L : Semiring M) {E : Type 0} (fits : E → ℕ → Bool) where
  over_nothing : (cells : ℕ → List E → V) (b : Right) → over_events M fits cells b [] ≡ M.zero
  over_nothing cells empty = refl
  over_nothing cells (unit y) = refl
  over_nothing cells (binary y z) = refl
  over_nothing cells (terminal p) = refl

  -- what a right side comes to rests on the cells of shorter parts alone
  over_short : (f g : ℕ → List E → V) (b : Right) (w : List E) → ((x : ℕ) (u : List E) → length u < length w → f x u ≡ g x u)
      → over_events M fits f b w ≡ over_events M fits g b w
  over_short f g empty w h = refl
  over_short f g (unit y) w h = refl
  over_short f g (binary y z) w h = sum_cong M L _ _ (cuts w)
      (λ c m. ap₂ M.times (h y c.0 (cut_short w c m).0) (h z c.1 (cut_short w c m).1))
  over_short f g (terminal p) [] h = refl
  over_short f g (terminal p) (e ∷ []) h = refl
  over_short f g (terminal p) (e ∷ e' ∷ w) h = refl

  sum_nothing : {A : Type 0} (xs : List A) → sum M (λ a. M.zero) xs ≡ M.zero
  sum_nothing [] = refl
  sum_nothing (x ∷ xs) = L.plus_zero (sum M (λ a. M.zero) xs) ∙ sum_nothing xs

  module _ (B : Binarised) (wt : ℕ → ℕ → V) where
    cell_nothing : (k x : ℕ) → cell_in B M wt fits k x [] ≡ M.zero
    unfolding cell_in
    cell_nothing zero x = refl
    cell_nothing (suc k) x = sum_cong M L _ (λ r. M.zero) (strict_rules_of B x)
        (λ r m. ap (M.times _) (over_nothing (cell_in B M wt fits k) r.right) ∙ times_zero_right M L _) ∙ sum_nothing (strict_rules_of B x)

    pub cell_bound : (k j x : ℕ) (w : List E) → length w ≤ k → length w ≤ j → cell_in B M wt fits k x w ≡ cell_in B M wt fits j x w
    unfolding cell_in
    cell_bound k j x [] h g = cell_nothing k x ∙ sym (cell_nothing j x)
    cell_bound zero j x (e ∷ w) h g = absurd (omega arith)
    cell_bound (suc k) zero x (e ∷ w) h g = absurd (omega arith)
    cell_bound (suc k) (suc j) x (e ∷ w) h g = sum_cong M L _ _ (strict_rules_of B x)
        (λ r m. ap (M.times (strict_weight B M wt r)) (over_short (cell_in B M wt fits k) (cell_in B M wt fits j) r.right (e ∷ w)
        (λ y u l. cell_bound k j y u (omega arith) (omega arith))))

    -- the cell over some events, by the cells over fewer
    pub cell_eq : (x : ℕ) (w : List E) → 0 < length w
        → cell B M wt fits x w ≡ sum M (λ (r : StrictFormRule). M.times (strict_weight B M wt r) (over_events M fits (cell B M wt fits) r.right w)) (strict_rules_of B x)
    unfolding cell cell_in
    cell_eq x [] h = absurd (omega arith)
    cell_eq x (e ∷ w) h = sum_cong M L _ _ (strict_rules_of B x)
        (λ r m. ap (M.times (strict_weight B M wt r)) (over_short (cell_in B M wt fits (length w)) (cell B M wt fits) r.right (e ∷ w)
        (λ y u l. cell_bound (length w) (length u) y u (omega arith) (omega arith))))

    -- over one event: the sum of the weights of the strict terminal rules that fit
    pub cell_one : (x : ℕ) (e : E)
        → cell B M wt fits x (e ∷ []) ≡ sum M (strict_weight B M wt) (those (λ (r : StrictFormRule). terminal_fits fits e r.right) (strict_rules_of B x))
    cell_one x e = cell_eq x (e ∷ []) (omega arith)
        ∙ sym (sum_those M L (λ (r : StrictFormRule). terminal_fits fits e r.right) _ (strict_rules_of B x)
        (λ r n. ap (M.times (strict_weight B M wt r)) (misses r.right n) ∙ times_zero_right M L _))
        ∙ sum_cong M L _ _ (those (λ (r : StrictFormRule). terminal_fits fits e r.right) (strict_rules_of B x))
        (λ r m. ap (M.times (strict_weight B M wt r)) (meets r.right (those_mem (λ (r : StrictFormRule). terminal_fits fits e r.right) r (strict_rules_of B x) m).1)
        ∙ times_one_right M L _)
      where
        misses : (b : Right) → terminal_fits fits e b ≡ false → over_events M fits (cell B M wt fits) b (e ∷ []) ≡ M.zero
        misses empty n = refl
        misses (unit y) n = refl
        misses (binary y z) n = refl
        misses (terminal p) n = rw n

        meets : (b : Right) → terminal_fits fits e b ≡ true → over_events M fits (cell B M wt fits) b (e ∷ []) ≡ M.one
        meets empty n = absurd (true≢false (sym n))
        meets (unit y) n = absurd (true≢false (sym n))
        meets (binary y z) n = absurd (true≢false (sym n))
        meets (terminal p) n = rw n

    -- over more: the sum over the strict binary rules and all cuts of weight times left cell times right cell
    pub cell_more : (x : ℕ) (e f : E) (w : List E)
        → cell B M wt fits x (e ∷ f ∷ w)
        ≡ sum M (λ (r : StrictFormRule). sum M (λ (c : Cut E). M.times (strict_weight B M wt r) (M.times (cell B M wt fits (sides r.right).0 c.0) (cell B M wt fits (sides r.right).1 c.1))) (cuts (e ∷ f ∷ w)))
        (those (λ (r : StrictFormRule). is_binary r.right) (strict_rules_of B x))
    cell_more x e f w = cell_eq x (e ∷ f ∷ w) (omega arith)
        ∙ sym (sum_those M L (λ (r : StrictFormRule). is_binary r.right) _ (strict_rules_of B x)
        (λ r n. ap (M.times (strict_weight B M wt r)) (misses r.right n) ∙ times_zero_right M L _))
        ∙ sum_cong M L _ _ (those (λ (r : StrictFormRule). is_binary r.right) (strict_rules_of B x))
        (λ r m. ap (M.times (strict_weight B M wt r)) (meets r.right (those_mem (λ (r : StrictFormRule). is_binary r.right) r (strict_rules_of B x) m).1)
        ∙ sym (sum_times M L (strict_weight B M wt r) _ (cuts (e ∷ f ∷ w))))
      where
        misses : (b : Right) → is_binary b ≡ false → over_events M fits (cell B M wt fits) b (e ∷ f ∷ w) ≡ M.zero
        misses empty n = refl
        misses (unit y) n = refl
        misses (binary y z) n = absurd (true≢false n)
        misses (terminal p) n = refl

        meets : (b : Right) → is_binary b ≡ true → over_events M fits (cell B M wt fits) b (e ∷ f ∷ w)
            ≡ sum M (λ (c : Cut E). M.times (cell B M wt fits (sides b).0 c.0) (cell B M wt fits (sides b).1 c.1)) (cuts (e ∷ f ∷ w))
        meets empty n = absurd (true≢false (sym n))
        meets (unit y) n = absurd (true≢false (sym n))
        meets (binary y z) n = refl
        meets (terminal p) n = absurd (true≢false (sym n))

-- the same for the list of all plain trees

pub each_cong : {A B : Type 0} (f g : A → List B) (xs : List A) → ((a : A) → Mem a xs → f a ≡ g a) → each f xs ≡ each g xs
each_cong f g [] h = refl
each_cong f g (x ∷ xs) h = ap₂ ◌++◌ (h x (inl refl)) (each_cong f g xs (λ a m. h a (inr m)))

pub each_nothing : {A B : Type 0} (xs : List A) → each {A = B} (λ a. []) xs ≡ []
each_nothing [] = refl
each_nothing (x ∷ xs) = each_nothing xs

module _ (B : Binarised) {E : Type 0} (fits : E → ℕ → Bool) where
  grown_nothing : (trees : ℕ → List E → List Tree) (y n : ℕ) (b : Right) → grown fits trees y n b [] ≡ []
  grown_nothing trees y n empty = refl
  grown_nothing trees y n (unit z) = refl
  grown_nothing trees y n (binary a b) = refl
  grown_nothing trees y n (terminal p) = refl

  grown_short : (f g : ℕ → List E → List Tree) (y n : ℕ) (b : Right) (w : List E) → ((x : ℕ) (u : List E) → length u < length w → f x u ≡ g x u)
      → grown fits f y n b w ≡ grown fits g y n b w
  grown_short f g y n empty w h = refl
  grown_short f g y n (unit z) w h = refl
  grown_short f g y n (binary a b) w h = each_cong _ _ (cuts w)
      (λ c m. ap₂ (λ l r. each (λ s. map (fork y n s) r) l) (h a c.0 (cut_short w c m).0) (h b c.1 (cut_short w c m).1))
  grown_short f g y n (terminal p) [] h = refl
  grown_short f g y n (terminal p) (e ∷ []) h = refl
  grown_short f g y n (terminal p) (e ∷ e' ∷ w) h = refl

  all_nothing : (k x : ℕ) → all_in B fits k x [] ≡ []
  unfolding all_in
  all_nothing zero x = refl
  all_nothing (suc k) x = each_cong _ (λ y. []) (reached B x)
      (λ y m. ap (map (chain_over B (chosen_chain B x y))) (each_cong _ (λ o. []) (rules_of B y) (λ o k'. grown_nothing (all_in B fits k) y o.0 o.1) ∙ each_nothing (rules_of B y)))
      ∙ each_nothing (reached B x)

  pub all_bound : (k j x : ℕ) (w : List E) → length w ≤ k → length w ≤ j → all_in B fits k x w ≡ all_in B fits j x w
  unfolding all_in
  all_bound k j x [] h g = all_nothing k x ∙ sym (all_nothing j x)
  all_bound zero j x (e ∷ w) h g = absurd (omega arith)
  all_bound (suc k) zero x (e ∷ w) h g = absurd (omega arith)
  all_bound (suc k) (suc j) x (e ∷ w) h g = each_cong _ _ (reached B x)
      (λ y m. ap (map (chain_over B (chosen_chain B x y))) (each_cong _ _ (rules_of B y) (λ o i. grown_short (all_in B fits k) (all_in B fits j) y o.0 o.1 (e ∷ w)
      (λ z u l. all_bound k j z u (omega arith) (omega arith)))))

  -- all plain trees over some events, by those over fewer
  pub all_eq : (x : ℕ) (w : List E) → 0 < length w
      → all B fits x w ≡ each (λ y. map (chain_over B (chosen_chain B x y)) (cores B fits (all B fits) y w)) (reached B x)
  unfolding all all_in
  all_eq x [] h = absurd (omega arith)
  all_eq x (e ∷ w) h = each_cong _ _ (reached B x)
      (λ y m. ap (map (chain_over B (chosen_chain B x y))) (each_cong _ _ (rules_of B y) (λ o i. grown_short (all_in B fits (length w)) (all B fits) y o.0 o.1 (e ∷ w)
      (λ z u l. all_bound (length w) (length u) z u (omega arith) (omega arith)))))
