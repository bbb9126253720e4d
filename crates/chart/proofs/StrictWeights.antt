-- The weights of chosen chains and of strict rules.
use Rattle.std.proofs.Common.{◌≡◌, ℕ, ◌+◌, ◌<◌, ◌≤◌, true, Some, None, Option, List, [], ◌∷◌, ◌++◌, map, length, get_or, take, sym, refl, ap, ◌∙◌, subst, ⊎_elim, arith}
use Rattle.std.proofs.lemmas.List.{length-map, map-append, length-append, take_more, take_all}
use Rattle.std.proofs.lemmas.Bool.{both_ways, cond-true}
use Rattle.grammar.specs.Semiring.{Ops, Semiring}
use Rattle.grammar.specs.Lists.{Mem}
use Rattle.grammar.specs.Productions.{Book, Sound}
use Rattle.grammar.specs.Binarise.{binarised}
use Rattle.grammar.specs.Nullable.{nullable}
use Rattle.grammar.specs.Chains.{Dropped, nothing, the_right, the_left, Leads, UnitChain, reached, chosen_chain}
use Rattle.grammar.specs.Strict.{StrictFormRule, strict_rules}
use Rattle.grammar.specs.Cells.{drop_weight, chain_weight}
use Rattle.grammar.specs.Weights.{binarised_weight, strict_weight_of}
use Rattle.grammar.proofs.Lists.{mem_map, mem_append}
use Rattle.grammar.proofs.Sums.{times_one_right}
use Rattle.grammar.proofs.Nullable.{rounds_small}
use Rattle.grammar.proofs.Chains.{chain_self, within_small, chain_within, reached_mem, mem_reached, chain_leads}
use Rattle.grammar.proofs.BinarisedRules.{get_d_mem, binarised_bounded, binarised_size}
use Rattle.conversion.specs.declared.chain.UnitStep.{UnitStep}
use Rattle.conversion.specs.declared.chain.Chain.{Chain}
use Rattle.conversion.specs.declared.chain.Chain.TheVariants.{Empty, Steps}
use Rattle.conversion.specs.declared.strict.StrictRule.{StrictRule}
use Rattle.conversion.specs.Views.{drop_of, step_of, strict_rule_of}
use Rattle.conversion.specs.Linked.{Chosen}
use Rattle.conversion.proofs.Walking.{shortest_chain}
use Rattle.book.proofs.Held.{seen}
use Rattle.chart.specs.declared.weighed.WeighedRule.{WeighedRule}
use Rattle.chart.specs.Weights.{blank_weight, NullableWeights, Weighs}
use Rattle.chart.specs.Inner.{dropped_weight}

-- the weight of the chosen chain from x to y
abbrev chosen_weight : {V : Type 0} → Ops V → Book → ℕ → ℕ → V
chosen_weight M W x y = chain_weight (binarised W) M (binarised_weight W M) (chosen_chain (binarised W) x y)

-- on the way from x to y: at z, with the weight p of the steps so far
abbrev pub OnTheWay : {V : Type 0} → Ops V → Book → ℕ → ℕ → ℕ → V → Type 0
OnTheWay M W x y z p = Mem y (reached (binarised W) z) × (M.times p (chosen_weight M W z y) ≡ chosen_weight M W x y)

-- the chosen chain to a symbol that is reached
pub chosen_there : (W : Book) → Sound W → (x y : ℕ) → Mem y (reached (binarised W) x) → (o : Option Chain) → (x < 128 → y < 128 → Chosen (binarised W) x y o) → Chosen (binarised W) x y o
chosen_there W S x y m o told =
    let r = reached_mem (binarised W) (binarised_bounded W S) x y m in
    let l = within_small (binarised W) (binarised_bounded W S) y r.0 (binarised W).symbols x r.1 in
    told (omega (arith, binarised_size W S)) (omega (arith, r.0, binarised_size W S))

-- the chosen chain from z to y is its first step and the chosen chain from where that ends
module _ (W : Book) (S : Sound W) (y z k : ℕ) (s : UnitStep) (h : Chosen (binarised W) z y (Some (Steps k s))) (m : Mem y (reached (binarised W) z)) where
  chain_split : chosen_chain (binarised W) z y ≡ step_of s ∷ chosen_chain (binarised W) s.to y
  chain_split = shortest_chain (binarised W) (binarised_bounded W S) y (reached_mem (binarised W) (binarised_bounded W S) z y m).0 z k s h.1

  chain_goes : UnitChain (binarised W) z (step_of s ∷ chosen_chain (binarised W) s.to y) y
  chain_goes = subst (λ c. UnitChain (binarised W) z c y) chain_split (chain_leads (binarised W) (binarised_bounded W S) z y m)

  -- y is reached from there
  reached_on : Mem y (reached (binarised W) s.to)
  reached_on =
      let y< = (reached_mem (binarised W) (binarised_bounded W S) z y m).0 in
      mem_reached (binarised W) (binarised_bounded W S) s.to y y< (chain_within (binarised W) (binarised_bounded W S) y y< s.to (chosen_chain (binarised W) s.to y) chain_goes.2)

  -- in one step fewer
  pub way_less : length (chosen_chain (binarised W) s.to y) < length (chosen_chain (binarised W) z y)
  way_less = omega (arith, ap length chain_split)

module _ {V : Type 0} (M : Ops V) (L : Semiring M) (W : Book) (S : Sound W) where
  -- where the way ends, its weight is that of the chain
  pub way_end : (x y z : ℕ) (p : V) (o : Option Chain) → ((k : ℕ) (s : UnitStep) → o ≡ Some (Steps k s) → ⊥) → Chosen (binarised W) z y o → OnTheWay M W x y z p → p ≡ chosen_weight M W x y
  way_end x y z p None no_step h w = absurd (both_ways _ h (reached_mem (binarised W) (binarised_bounded W S) z y w.0).1)
  way_end x y z p (Some Empty) no_step h w =
      sym (times_one_right M L p) ∙ ap (λ c. M.times p (chain_weight (binarised W) M (binarised_weight W M) c)) (sym (chain_self (binarised W) z) ∙ ap (chosen_chain (binarised W) z) h) ∙ w.1
  way_end x y z p (Some (Steps k s)) no_step h w = absurd (no_step k s refl)

  module _ (f : ℕ → V) (F : NullableWeights M W f) where
    blank_of : (z : ℕ) → nullable (binarised W) z ≡ true → f z ≡ blank_weight M W z
    unfolding nullable
    blank_of z t =
        let small = rounds_small (binarised W) (binarised_bounded W S) (binarised W).symbols z t in
        F z (omega (arith, binarised_size W S)) ∙ cond-true _ _ _ t

    -- what a step drops weighs what its chosen tree weighs
    dropped_same : (x n : ℕ) (d : Dropped) (y : ℕ) → Leads (binarised W) x n d y → dropped_weight M f d ≡ drop_weight (binarised W) M (binarised_weight W M) d
    dropped_same x n nothing y h = refl
    dropped_same x n (the_right z) y h = blank_of z h.1
    dropped_same x n (the_left z) y h = blank_of z h.1

    -- one step more on the way
    pub way_more : (y z k : ℕ) (s : UnitStep) → Chosen (binarised W) z y (Some (Steps k s))
        → (v : V) → v ≡ M.times (binarised_weight W M s.from s.number) (dropped_weight M f (drop_of s.dropped))
        → (x : ℕ) (p q : V) → q ≡ M.times p v → OnTheWay M W x y z p → OnTheWay M W x y s.to q
    way_more y z k s h v weighs x p q so (m, w) =
        let wt = binarised_weight W M in
        let rest = chosen_weight M W s.to y in
        let d = dropped_same s.from s.number (drop_of s.dropped) s.to (chain_goes W S y z k s h m).1 in (
          reached_on W S y z k s h m,
          ap (λ u. M.times u rest) so ∙ L.times_assoc p v rest
              ∙ ap (λ u. M.times p (M.times u rest)) (weighs ∙ ap (M.times (wt s.from s.number)) d)
              ∙ ap (λ c. M.times p (chain_weight (binarised W) M wt c)) (sym (chain_split W S y z k s h m)) ∙ w,
        )

-- the list has the first n strict rules, each with its weight
pub record WeighsFirst {V : Type 0} (M : Ops V) (W : Book) (n : ℕ) (rs : List (WeighedRule V)) : Type 0 where
  pub rules : map (λ (r : WeighedRule V). strict_rule_of r.rule) rs ≡ take n (strict_rules (binarised W))
  pub weights : (r : WeighedRule V) → Mem r rs → r.weight ≡ strict_weight_of W M (strict_rule_of r.rule)
  pub few : length rs ≤ n

module _ {V : Type 0} (M : Ops V) (W : Book) where
  pub weighs_none : (rs : List (WeighedRule V)) → rs ≡ [] → WeighsFirst M W 0 rs
  weighs_none rs e = record {
    rules = ap (map (λ (r : WeighedRule V). strict_rule_of r.rule)) e;
    weights = λ r m. absurd (subst (Mem r) e m);
    few = omega (arith, ap length e);
  }

  module _ (l : List StrictRule) (are : map strict_rule_of l ≡ strict_rules (binarised W)) where
    pub strict_in : (i : ℕ) (d : StrictRule) → i < length l → Mem (strict_rule_of (get_or l i d)) (strict_rules (binarised W))
    strict_in i d h = subst (Mem (strict_rule_of (get_or l i d))) are (mem_map strict_rule_of (get_or l i d) l (get_d_mem l i d h))

    -- one rule more
    pub weighs_more : (i : ℕ) (d : StrictRule) (v : V) (was is : List (WeighedRule V)) → i < length l → v ≡ strict_weight_of W M (strict_rule_of (get_or l i d))
        → is ≡ was ++ (record { rule = get_or l i d; weight = v } ∷ []) → WeighsFirst M W i was → WeighsFirst M W (i + 1) is
    weighs_more i d v was is h weighs e first =
        let f : WeighedRule V → StrictFormRule = λ r. strict_rule_of r.rule in
        let q = get_or l i d in
        let new : WeighedRule V = record { rule = q; weight = v } in
        let rs = strict_rules (binarised W) in
        let long : i < length rs = omega (arith, h, ap length are, length-map l strict_rule_of) in
        record {
          rules = ap (map f) e ∙ map-append f was (new ∷ []) ∙ ap (λ a. a ++ (strict_rule_of q ∷ [])) first.rules
              ∙ ap (λ (a : StrictFormRule). take i rs ++ (a ∷ [])) (seen strict_rule_of l rs i d are h (strict_rule_of q))
              ∙ sym (take_more rs i (strict_rule_of q) long);
          weights = λ r m. ⊎_elim
              (λ k. first.weights r k)
              (λ k. ⊎_elim (λ (s : r ≡ new). ap (λ (a : WeighedRule V). a.weight) s ∙ weighs ∙ ap (λ (a : WeighedRule V). strict_weight_of W M (strict_rule_of a.rule)) (sym s)) (λ n. absurd n) k)
              (mem_append r was (new ∷ []) (subst (Mem r) e m));
          few = omega (arith, first.few, ap length e, length-append was (new ∷ []));
        }

    -- all of them
    pub weighs_all : (n : ℕ) (rs : List (WeighedRule V)) → length l ≤ n → WeighsFirst M W n rs → Weighs M W rs
    weighs_all n rs m first = record {
      rules = first.rules ∙ take_all n (strict_rules (binarised W)) (omega (arith, m, ap length are, length-map l strict_rule_of));
      weights = first.weights;
    }
