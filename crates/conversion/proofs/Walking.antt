-- What the tables of nullable symbols and chosen chains say of the chosen blank trees and chains, one node or step at a time.
use Rattle.std.proofs.Common.{◌≡◌, ℕ, zero, suc, ◌<◌, ◌≤◌, Bool, true, false, cond, [], ◌∷◌, length, get_or, is_some, Some, None, Option, sym, refl, ap, ◌∙◌, subst, ap₂, inl, inr, arith}
use Rattle.std.proofs.lemmas.Bool.{both_ways, cases_lt, lt-ltb, or_cases, and_parts}
use Rattle.grammar.specs.Binarise.{Within}
use Rattle.grammar.specs.Lists.{Mem}
use Rattle.grammar.specs.Binarised.{Right as RightSide, empty, unit, binary, terminal, Rule, Binarised, Bounded, Has, OwnRule, rules_of, over, fork}
use Rattle.grammar.specs.Nullable.{ready, nullable_after, nullable, first_ready, rule_tree, nullable_tree_in, nullable_tree}
use Rattle.grammar.specs.Chains.{nothing, the_right, the_left, ChainStep, unit_step, steps, steps_by, nearer, within, first_step, chosen_chain_in, chosen_chain}
use Rattle.grammar.proofs.Lists.{each_mem, first_from, mem_append}
use Rattle.grammar.proofs.Rounds.{in_the_end}
use Rattle.grammar.proofs.Nullable.{nullable_kept}
use Rattle.grammar.proofs.Chains.{chain_in_leads, chain_in_length, chain_kept, within_grows, within_length, within_next, within_self, within_small}
use Rattle.conversion.specs.Views.{right_side_of, step_of}
use Rattle.conversion.specs.Held.{Brings, BroughtIn, Nullables}
use Rattle.conversion.specs.Linked.{link, Shortest, Chosen, ChainsWithin}
use Rattle.conversion.specs.Rounds.{EndsBelow, shorter}
use Rattle.conversion.specs.declared.nullable.Brought.{Brought}
use Rattle.conversion.specs.declared.nullable.Nullable.{Nullable}
use Rattle.conversion.specs.declared.chain.UnitStep.{UnitStep}
use Rattle.conversion.specs.declared.chain.Chain.{Chain}
use Rattle.conversion.specs.declared.chain.Chain.TheVariants.{Empty, Steps}
use Rattle.conversion.specs.declared.chain.Chains.{Chains}
use Rattle.conversion.proofs.Bringing.{held_on, held_last}
use Rattle.conversion.proofs.Reaching.{within_on}

module _ (B : Binarised) (bounded : Bounded B) where
  -- fewer rounds than symbols bring a symbol in
  brings_round : (x : ℕ) (b : Brought) → Brings B x b → b.round < B.symbols
  brings_round x b h = elim (cases_lt b.round B.symbols)
      [ inl l ↦ l | inr g ↦ absurd (both_ways _ h.0 (held_on B bounded B.symbols b.round x g (held_last B bounded (suc b.round) x h.1))) ]

  -- the rule that brought a symbol in is made of symbols of earlier rounds
  pub brings_ready : (x : ℕ) (b : Brought) → Brings B x b → ready (nullable_after B b.round) (right_side_of b.right) ≡ true
  unfolding nullable_after
  brings_ready x b h = elim (or_cases (nullable_after B b.round x) _ h.1) [
    | inl t ↦ absurd (both_ways _ h.0 t)
    | inr t ↦ subst (λ (o : OwnRule). ready (nullable_after B b.round) o.1 ≡ true) (sym h.2) (first_from (λ (o : OwnRule). ready (nullable_after B b.round) o.1) (zero, empty) (rules_of B x) t).1
  ]

  plant_same : (k x n : ℕ) (b : RightSide) → k ≤ B.symbols → ready (nullable_after B k) b ≡ true → rule_tree (nullable_tree_in B k) x n b ≡ rule_tree (nullable_tree B) x n b
  unfolding nullable_tree
  plant_same k x n empty l t = refl
  plant_same k x n (unit y) l t = ap (over x n) (sym (nullable_kept B bounded k B.symbols y l t))
  plant_same k x n (binary y z) l t =
      let r = and_parts (nullable_after B k y) (nullable_after B k z) t in
      ap₂ (fork x n) (sym (nullable_kept B bounded k B.symbols y l r.0)) (sym (nullable_kept B bounded k B.symbols z l r.1))
  plant_same k x n (terminal p) l t = refl

  -- the chosen blank tree has the rule that brought its symbol in at its root, and the chosen blank trees of its items
  pub brings_tree : (x : ℕ) (b : Brought) → Brings B x b → nullable_tree B x ≡ rule_tree (nullable_tree B) x b.number (right_side_of b.right)
  unfolding nullable_tree nullable_tree_in
  brings_tree x b h =
      let k = b.round in
      let l = brings_round x b h in
      nullable_kept B bounded (suc k) B.symbols x (omega arith) h.1
      ∙ ap (λ c. cond c (nullable_tree_in B k x) (rule_tree (nullable_tree_in B k) x (first_ready B (nullable_after B k) x).0 (first_ready B (nullable_after B k) x).1)) h.0
      ∙ ap (λ (o : OwnRule). rule_tree (nullable_tree_in B k) x o.0 o.1) (sym h.2)
      ∙ plant_same k x b.number (right_side_of b.right) (omega arith) (brings_ready x b h)

  -- a symbol held after k rounds is in the table, with a round before k
  pub held_brought : (n : Nullable) → Nullables B n → (k x : ℕ) → nullable_after B k x ≡ true → (b : Brought) × (get_or n.brought x None ≡ Some b) × (b.round < k) × Brings B x b
  unfolding nullable
  held_brought n h k x t = at (get_or n.brought x None) refl (h x)
    where
      at : (o : Option Brought) → get_or n.brought x None ≡ o → BroughtIn B x o → (b : Brought) × (get_or n.brought x None ≡ Some b) × (b.round < k) × Brings B x b
      at None e p = absurd (both_ways _ p (held_last B bounded k x t))
      at (Some b) e p = (b, e, (elim (cases_lt b.round k) [ inl l ↦ l | inr g ↦ absurd (both_ways _ p.1.0 (held_on B bounded k b.round x g t)) ]), p.1)

  module _ (y : ℕ) (y< : y < B.symbols) where
    reached_last : (k x : ℕ) → within B y k x ≡ true → within B y B.symbols x ≡ true
    reached_last = in_the_end (nearer B) (within B y) B.symbols (within_next B y) (within_grows B y) (within_small B bounded y y<)

    shortest_few : (x k : ℕ) (s : UnitStep) (h : Shortest B x y k s) → h.0 < B.symbols
    shortest_few x k s h = elim (cases_lt h.0 B.symbols)
        [ inl l ↦ l | inr g ↦ absurd (both_ways _ h.2 (within_on B y B.symbols h.0 x g (reached_last (suc h.0) x h.3))) ]

    -- after the first step so many steps are enough
    pub shortest_next : (x k : ℕ) (s : UnitStep) (h : Shortest B x y k s) → within B y h.0 s.to ≡ true
    unfolding within
    shortest_next x k s h = elim (or_cases (within B y h.0 x) _ h.3) [
      | inl t ↦ absurd (both_ways _ h.2 t)
      | inr t ↦ subst (λ (q : ChainStep). within B y h.0 q.to ≡ true) (sym h.4) (first_from (λ (q : ChainStep). within B y h.0 q.to) (unit_step x zero nothing x) (steps B x) t).1
    ]

    -- the chosen chain is the first step and the chosen chain from where it ends
    pub shortest_chain : (x k : ℕ) (s : UnitStep) → Shortest B x y k s → chosen_chain B x y ≡ step_of s ∷ chosen_chain B s.to y
    unfolding chosen_chain chosen_chain_in
    shortest_chain x k s h =
        let j = h.0 in
        let l = shortest_few x k s h in
        chain_kept B bounded y y< (suc j) B.symbols x (omega arith) h.3
        ∙ ap (λ c. cond c (chosen_chain_in B y j x) (first_step B y j x ∷ chosen_chain_in B y j (first_step B y j x).to)) h.2
        ∙ ap (λ (q : ChainStep). q ∷ chosen_chain_in B y j q.to) (sym h.4)
        ∙ ap (λ c. step_of s ∷ c) (sym (chain_kept B bounded y y< j B.symbols s.to (omega arith) (shortest_next x k s h)))

    -- k is the number of steps of the chosen chain
    pub shortest_length : (x k : ℕ) (s : UnitStep) → Shortest B x y k s → length (chosen_chain B x y) ≡ k
    unfolding chosen_chain
    shortest_length x k s h =
        let j = h.0 in
        let l = shortest_few x k s h in
        let most = chain_in_length B bounded y (suc j) x in
        let c = chain_in_leads B y (suc j) x h.3 in
        let least : suc j ≤ length (chosen_chain_in B y (suc j) x) = (elim (cases_lt j (length (chosen_chain_in B y (suc j) x))) [
          | inl g ↦ g
          | inr g ↦ absurd (both_ways _ h.2 (within_on B y (length (chosen_chain_in B y (suc j) x)) j x g (within_length B bounded y x (chosen_chain_in B y (suc j) x) c)))
        ]) in
        ap length (chain_kept B bounded y y< (suc j) B.symbols x (omega arith) h.3) ∙ (omega (arith, h.1))

    -- after the first step the table has a chain of fewer steps
    pub shortest_fewer : (c : Chains) → ChainsWithin B B.symbols c → (x k : ℕ) (s : UnitStep) → s.to < 128 → y < 128 → Shortest B x y k s → shorter k (link c s.to y) ≡ true
    shortest_fewer c all x k s a b h = at (link c s.to y) (all s.to y a b)
      where
        at : (o : Option Chain) → Chosen B s.to y o → shorter k o ≡ true
        at None p = absurd (both_ways _ p (reached_last h.0 s.to (shortest_next x k s h)))
        at (Some Empty) p = lt-ltb 0 k (omega (arith, h.1))
        at (Some (Steps m t)) p = lt-ltb m k (elim (cases_lt p.1.0 h.0) [
          | inl l ↦ omega (arith, h.1, p.1.1)
          | inr g ↦ absurd (both_ways _ p.1.2 (within_on B y h.0 p.1.0 s.to g (shortest_next x k s h)))
        ])

-- the chain from a symbol to itself is empty
pub link_self : (B : Binarised) (c : Chains) → ChainsWithin B B.symbols c → (x : ℕ) → x < 128 → link c x x ≡ Some Empty
link_self B c h x a = at (link c x x) (h x x a a)
  where
    at : (o : Option Chain) → Chosen B x x o → o ≡ Some Empty
    at None p = absurd (both_ways _ p (within_self B x B.symbols))
    at (Some Empty) p = refl
    at (Some (Steps k s)) p = absurd (both_ways _ p.1.2 (within_self B x p.1.0))

-- a chain is in the table exactly if one leads
pub link_leads : (B : Binarised) (c : Chains) → ChainsWithin B B.symbols c → (x y : ℕ) → x < 128 → y < 128 → is_some (link c x y) ≡ within B y B.symbols x
link_leads B c h x y a b = at (link c x y) (h x y a b)
  where
    at : (o : Option Chain) → Chosen B x y o → is_some o ≡ within B y B.symbols x
    at None p = sym p
    at (Some Empty) p = sym (subst (λ z. within B z B.symbols x ≡ true) p (within_self B x B.symbols))
    at (Some (Steps k s)) p = sym p.0

-- where the items of each rule are below the bound, so is where each step leads
pub ends_below : (B : Binarised) (T : ℕ) → ((x n : ℕ) (b : RightSide) → Has B x n b → Within B.symbols T b) → EndsBelow B
ends_below B T h s m =
    let r = each_mem (λ (r : Rule). steps_by (nullable B) r.left r.number r.right) s B.rules m in
    by r.0.left r.0.number r.0.right (h r.0.left r.0.number r.0.right r.1) r.2
  where
    one : (c : Bool) (q : ChainStep) → q.to < B.symbols → Mem s (cond c (q ∷ []) []) → s.to < B.symbols
    one true q l (inl e) = subst (λ (z : ChainStep). z.to < B.symbols) (sym e) l
    one true q l (inr k) = absurd k
    one false q l k = absurd k

    by : (x n : ℕ) (b : RightSide) → Within B.symbols T b → Mem s (steps_by (nullable B) x n b) → s.to < B.symbols
    by x n empty w k = absurd k
    by x n (unit y) w k = one true (unit_step x n nothing y) w k
    by x n (binary y z) w k = elim (mem_append s (cond (nullable B z) (unit_step x n (the_right z) y ∷ []) []) _ k)
        [ inl p ↦ one (nullable B z) (unit_step x n (the_right z) y) w.0 p | inr p ↦ one (nullable B y) (unit_step x n (the_left y) z) w.1 p ]
    by x n (terminal p) w k = absurd k
