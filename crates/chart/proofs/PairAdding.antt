-- What pairs add to the cells of a column.
use Rattle.std.proofs.Common.{◌≡◌, ℕ, ◌+◌, ◌<◌, ◌≤◌, Bool, true, false, cond, eqb, List, length, get_or, take, sym, refl, ap, ◌∙◌, subst, ap₂, inl, inr, ⊎_elim, arith}
use Rattle.std.proofs.lemmas.List.{take_more, take_all}
use Rattle.std.proofs.lemmas.Bool.{cases_lt}
use Rattle.grammar.specs.Lists.{Mem}
use Rattle.grammar.specs.Semiring.{Ops, Semiring}
use Rattle.grammar.proofs.Lists.{those_mem}
use Rattle.grammar.proofs.Sums.{sum_cong}
use Rattle.grammar.proofs.BinarisedRules.{get_d_mem}
use Rattle.chart.specs.declared.pairs.Pair.{Pair}
use Rattle.chart.specs.Table.{column_place, cell_place, cell_at, SameOutside}
use Rattle.chart.specs.Inner.{Added, AddedStarts, pairs_sum, PairsWithin}
use Rattle.chart.proofs.PairSums.{pairs_push}
use Rattle.chart.proofs.SumLaws.{plus_none}
use Rattle.chart.proofs.Outside.{same_all, same_then, same_wider}
use Rattle.chart.proofs.Places.{cell_next, cell_mono, cell_before}

module _ {V : Type 0} (M : Ops V) (L : Semiring M) where
  pub pair_in : (S : ℕ) (ps : List (Pair V)) (i : ℕ) (p : Pair V) → PairsWithin S ps → i < length ps → p ≡ get_or ps i p → (p.symbol < S) × (p.left < S)
  pair_in S ps i p within h e = within p (subst (λ (q : Pair V). Mem q ps) (sym e) (get_d_mem ps i p h))

  -- pairs over two left cells that agree
  pub pairs_same : (S : ℕ) (f g : ℕ → V) (x : ℕ) (ps : List (Pair V)) → PairsWithin S ps → ((y : ℕ) → y < S → f y ≡ g y) → pairs_sum M f x ps ≡ pairs_sum M g x ps
  pairs_same S f g x ps within e =
      sum_cong M L _ _ _ (λ p m. ap (λ v. M.times v p.weight) (e p.left (within p (those_mem _ p ps m).0).1))

  cond_plus : (b : Bool) (u v : V) → cond b (M.plus u v) M.zero ≡ M.plus (cond b u M.zero) (cond b v M.zero)
  cond_plus true u v = refl
  cond_plus false u v = sym (L.plus_zero M.zero)

  cond_none : (b : Bool) → cond b M.zero M.zero ≡ M.zero
  cond_none true = refl
  cond_none false = refl

  module _ (S place left : ℕ) (ps : List (Pair V)) where
    -- what the first i pairs come to was added, but for the sum of a symbol
    abbrev pub SomePairs : ℕ → ℕ → V → List V → List V → Type 0
    SomePairs i symbol sum was is =
        SameOutside M.zero place (place + S) was is × (symbol < S)
        × ((x : ℕ) → x < S → M.plus (cell_at M is place x) (cond (eqb symbol x) sum M.zero) ≡ M.plus (cell_at M was place x) (pairs_sum M (cell_at M was left) x (take i ps)))

    pub no_pair : (was : List V) (sum : V) → 0 < S → sum ≡ M.zero → SomePairs 0 0 sum was was
    no_pair was sum h e = (
      same_all M.zero place (place + S) was,
      h,
      λ x q. ap (M.plus (cell_at M was place x)) (ap (λ v. cond (eqb 0 x) v M.zero) e ∙ cond_none (eqb 0 x)),
    )

    -- the sum was added too, and a sum of nothing begins
    pub sum_added : (i symbol s : ℕ) (sum v : V) (was mid is table : List V) → s < S → v ≡ M.zero → table ≡ is
        → Added M S place (λ x. cond (eqb symbol x) sum M.zero) mid is → SomePairs i symbol sum was mid → SomePairs i s v was table
    sum_added i symbol s sum v was mid is table h e t (o, a) (out, low, sofar) = subst (λ (k : List V). SomePairs i s v was k) (sym t) (
      same_then M.zero place (place + S) was mid is out o,
      h,
      λ x q. ap (M.plus (cell_at M is place x)) (ap (λ u. cond (eqb s x) u M.zero) e ∙ cond_none (eqb s x)) ∙ plus_none M L (cell_at M is place x) ∙ a x q ∙ sofar x q,
    )

    -- the same by other names
    pub sum_kept : (i symbol s : ℕ) (sum v : V) (was mid table : List V) → s ≡ symbol → v ≡ sum → table ≡ mid → SomePairs i symbol sum was mid → SomePairs i s v was table
    sum_kept i symbol s sum v was mid table a b t sofar =
        subst (λ (k : List V). SomePairs i s v was k) (sym t) (subst (λ u. SomePairs i s u was mid) (sym b) (subst (λ n. SomePairs i n sum was mid) (sym a) sofar))

    -- one pair more
    pub one_pair : (i : ℕ) (p : Pair V) (symbol from : ℕ) (sum product more : V) (was mid : List V)
        → PairsWithin S ps → i < length ps → p ≡ get_or ps i p → left + S ≤ place → symbol ≡ p.symbol → from ≡ left
        → product ≡ M.times (cell_at M mid from p.left) p.weight → more ≡ M.plus sum product
        → SomePairs i symbol sum was mid → SomePairs (i + 1) symbol more was mid
    one_pair i p symbol from sum product more was mid within h e before s f t m (out, low, sofar) =
        let b = pair_in S ps i p within h e in
        let same : cell_at M mid left p.left ≡ cell_at M was left p.left = out (left + p.left) (inl (omega arith)) in
        let whole : product ≡ M.times (cell_at M was left p.left) p.weight = t ∙ ap (λ a. M.times (cell_at M mid a p.left) p.weight) f ∙ ap (λ v. M.times v p.weight) same in (
          out,
          low,
          λ x q.
              ap (λ v. M.plus (cell_at M mid place x) (cond (eqb symbol x) v M.zero)) m
              ∙ ap (M.plus (cell_at M mid place x)) (cond_plus (eqb symbol x) sum product)
              ∙ sym (L.plus_assoc (cell_at M mid place x) (cond (eqb symbol x) sum M.zero) (cond (eqb symbol x) product M.zero))
              ∙ ap₂ (λ u v. M.plus u (cond (eqb v x) product M.zero)) (sofar x q) s
              ∙ L.plus_assoc (cell_at M was place x) (pairs_sum M (cell_at M was left) x (take i ps)) (cond (eqb p.symbol x) product M.zero)
              ∙ ap (M.plus (cell_at M was place x)) (
              ap (λ v. M.plus (pairs_sum M (cell_at M was left) x (take i ps)) (cond (eqb p.symbol x) v M.zero)) whole
              ∙ ap (λ (a : Pair V). M.plus (pairs_sum M (cell_at M was left) x (take i ps)) (cond (eqb a.symbol x) (M.times (cell_at M was left a.left) a.weight) M.zero)) e
              ∙ sym (ap (pairs_sum M (cell_at M was left) x) (take_more ps i p h) ∙ pairs_push M L (cell_at M was left) x (take i ps) (get_or ps i p))),
        )

    pub all_pairs : (i symbol : ℕ) (sum : V) (was mid is : List V) → length ps ≤ i → Added M S place (λ x. cond (eqb symbol x) sum M.zero) mid is
        → SomePairs i symbol sum was mid → Added M S place (λ x. pairs_sum M (cell_at M was left) x ps) was is
    all_pairs i symbol sum was mid is h (o, a) (out, low, sofar) = (
      same_then M.zero place (place + S) was mid is out o,
      λ x q. a x q ∙ sofar x q ∙ ap (λ l. M.plus (cell_at M was place x) (pairs_sum M (cell_at M was left) x l)) (take_all i ps h),
    )

  module _ (S e k : ℕ) (ps : List (Pair V)) (within : PairsWithin S ps) where
    -- to the cell of each start below i was added what the pairs come to
    abbrev pub SomeStarts : ℕ → List V → List V → Type 0
    SomeStarts i was is = AddedStarts M S e i (λ j x. pairs_sum M (cell_at M was (cell_place S k j)) x ps) was is

    abbrev Now : List V → List V → ℕ → ℕ → Type 0
    Now was is j x = cell_at M is (cell_place S e j) x ≡ M.plus (cell_at M was (cell_place S e j) x) (pairs_sum M (cell_at M was (cell_place S k j)) x ps)

    pub one_start : (i : ℕ) (was mid is : List V) → i < k → k < e → Added M S (cell_place S e i) (λ x. pairs_sum M (cell_at M mid (cell_place S k i)) x ps) mid is
        → SomeStarts i was mid → SomeStarts (i + 1) was is
    one_start i was mid is hi hk (o, a) (out, cells) = (
      same_then M.zero (column_place S e) (cell_place S e (i + 1)) was mid is
          (same_wider M.zero (column_place S e) (cell_place S e i) (column_place S e) (cell_place S e (i + 1)) was mid (omega arith) (omega (arith, next)) out)
          (same_wider M.zero (cell_place S e i) (cell_place S e i + S) (column_place S e) (cell_place S e (i + 1)) mid is (omega arith) (omega (arith, next)) o),
      λ j x hj hx. ⊎_elim (λ (b : j < i). older j x b hx) (λ (b : i ≤ j). subst (λ n. Now was is n x) (let q : i ≡ j = omega arith in q) (newest x hx)) (cases_lt j i),
    )
      where
        next : cell_place S e (i + 1) ≡ cell_place S e i + S
        next = cell_next S e i

        older : (j x : ℕ) → j < i → x < S → Now was is j x
        older j x b hx = o (cell_place S e j + x) (inl (omega (arith, cell_next S e j, cell_mono S e (j + 1) i (omega arith)))) ∙ cells j x b hx

        newest : (x : ℕ) → x < S → Now was is i x
        newest x hx =
            a x hx
            ∙ ap₂ M.plus (out (cell_place S e i + x) (inr (omega arith)))
            (pairs_same S (cell_at M mid (cell_place S k i)) (cell_at M was (cell_place S k i)) x ps within (λ y hy. out (cell_place S k i + y) (inl (omega (arith, cell_before S k e i hi hk)))))

    pub no_start : (was : List V) → SomeStarts 0 was was
    no_start was = (same_all M.zero (column_place S e) (cell_place S e 0) was, λ j x hj hx. absurd (omega arith))

  -- the same by another name
  pub added_starts_as : (S e k : ℕ) (f h : ℕ → ℕ → V) (was is : List V) → ((i x : ℕ) → x < S → f i x ≡ h i x) → AddedStarts M S e k f was is → AddedStarts M S e k h was is
  added_starts_as S e k f h was is q (o, a) = (o, λ i x hi hx. a i x hi hx ∙ ap (M.plus (cell_at M was (cell_place S e i) x)) (q i x hx))
