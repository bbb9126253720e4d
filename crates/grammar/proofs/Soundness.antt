-- Each tree in the list of all plain trees is a plain derivation.
use Rattle.std.proofs.Common.{◌≡◌, ℕ, zero, suc, ◌<◌, Bool, true, false, cond, List, [], ◌∷◌, ◌++◌, map, length, sym, refl, ap, ◌∙◌, subst, ap₂, inl, inr, arith, length-append}
use Rattle.grammar.specs.Lists.{Mem, each, Cut, cuts}
use Rattle.grammar.specs.Binarised.{Right, empty, unit, binary, terminal, Binarised, Has, OwnRule, rules_of, Bounded, Tree, fork, leaf, root, bare, Derives, by_binary, by_terminal}
use Rattle.grammar.specs.Chains.{UnitChain, chosen_chain, reached}
use Rattle.grammar.specs.Plain.{run, core}
use Rattle.grammar.proofs.Short.{ChosenChain}
use Rattle.grammar.specs.Taken.{chain_over}
use Rattle.grammar.proofs.PlainTrees.{Below, PlainByTree, grown, cores, all_in}
use Rattle.grammar.proofs.Lists.{map_mem, each_mem, cuts_mem}
use Rattle.grammar.proofs.Nullable.{rule_has}
use Rattle.grammar.proofs.Chains.{chain_leads}
use Rattle.grammar.proofs.ChainOver.{events_some, derives_bare, derives_root, chain_over_root, chain_over_run, chain_over_core, chain_over_below, chain_over_derives}

-- a plain derivation of events
pub record Reads (B : Binarised) {E : Type 0} (fits : E → ℕ → Bool) (x : ℕ) (s : Tree) (w : List E) : Type 0 where
  pub some_events : 0 < length w
  pub derives : Derives B fits x s w
  pub chosen : ChosenChain B s
  pub below : Below B s

-- a plain derivation of events that begins with a binary or terminal rule of y
pub record Core (B : Binarised) {E : Type 0} (fits : E → ℕ → Bool) (y : ℕ) (t : Tree) (w : List E) : Type 0 where
  pub some_events : 0 < length w
  pub derives : Derives B fits y t w
  pub no_run : run t ≡ []
  pub is_core : core t ≡ t
  pub below : Below B t

module _ (B : Binarised) (bounded : Bounded B) {E : Type 0} (fits : E → ℕ → Bool) where
  reads_busy : (x : ℕ) (s : Tree) (w : List E) → Reads B fits x s w → bare s ≡ false
  reads_busy x s w r = derives_bare B fits x s w r.derives ∙ events_some w r.some_events

  core_busy : (x : ℕ) (s : Tree) (w : List E) → Core B fits x s w → bare s ≡ false
  core_busy x s w r = derives_bare B fits x s w r.derives ∙ events_some w r.some_events

  -- two derivations under a binary rule
  fork_core : (y n a b : ℕ) (s t : Tree) (u v w : List E) → Has B y n (binary a b) → Reads B fits a s u → Reads B fits b t v → u ++ v ≡ w
      → Core B fits y (fork y n s t) w
  fork_core y n a b s t u v w h r r' e = record {
    some_events = let l = length-append u v in let l' = ap length e in let g = r.some_events in omega arith;
    derives = by_binary h r.derives r'.derives e;
    no_run = rw (reads_busy a s u r, reads_busy b t v r');
    is_core = rw (reads_busy a s u r, reads_busy b t v r');
    below = rw (reads_busy a s u r, reads_busy b t v r') ((r.chosen, r.below), (r'.chosen, r'.below));
  }

  module _ (trees : ℕ → List E → List Tree) (ih : (a : ℕ) (u : List E) (s : Tree) → Mem s (trees a u) → Reads B fits a s u) where
    grown_sound : (y n : ℕ) (b : Right) (w : List E) (t : Tree) → Has B y n b → Mem t (grown fits trees y n b w) → Core B fits y t w
    grown_sound y n empty w t h m = elim m [ ]
    grown_sound y n (unit z) w t h m = elim m [ ]
    grown_sound y n (terminal p) [] t h m = elim m [ ]
    grown_sound y n (terminal p) (e ∷ f ∷ w) t h m = elim m [ ]
    grown_sound y n (terminal p) (e ∷ []) t h m =
        (elim (fits e p) as (λ b. fits e p ≡ b → Mem t (cond b (leaf y n ∷ []) []) → Core B fits y t (e ∷ [])) [
          | true ↦ λ f m'. elim m' [
            | inl q ↦ rw q (record { some_events = omega arith; derives = by_terminal h f; no_run = refl; is_core = refl; below = tt })
            | inr k ↦ absurd k
          ]
          | false ↦ λ f m'. absurd m'
        ]) refl m
    grown_sound y n (binary a b) w t h m =
        let r = each_mem (λ (c : Cut E). each (λ s. map (fork y n s) (trees b c.1)) (trees a c.0)) t (cuts w) m in
        let c = r.0 in
        let q = each_mem (λ s. map (fork y n s) (trees b c.1)) t (trees a c.0) r.2 in
        let p = map_mem (fork y n q.0) t (trees b c.1) q.2 in
        let i = cuts_mem w c r.1 in
        subst (λ z. Core B fits y z w) (sym p.2)
        (fork_core y n a b q.0 p.0 c.0 c.1 w h (ih a c.0 q.0 q.1) (ih b c.1 p.0 p.1) i.0)

    pub cores_sound : (y : ℕ) (w : List E) (t : Tree) → Mem t (cores B fits trees y w) → Core B fits y t w
    cores_sound y w t m =
        let r = each_mem (λ (o : OwnRule). grown fits trees y o.0 o.1 w) t (rules_of B y) m in
        grown_sound y r.0.0 r.0.1 w t (rule_has B y r.0 r.1) r.2

  -- the chosen chain over a core
  pub chain_over_reads : (x y : ℕ) (t : Tree) (w : List E) → Mem y (reached B x) → Core B fits y t w → Reads B fits x (chain_over B (chosen_chain B x y) t) w
  chain_over_reads x y t w m c =
      let b = core_busy y t w c in
      let h = chain_leads B bounded x y m in
      let h' = subst (λ z. UnitChain B x (chosen_chain B x y) z) (sym (derives_root B fits y t w c.derives)) h in
      record {
        some_events = c.some_events;
        derives = chain_over_derives B bounded fits x (chosen_chain B x y) y t w h c.derives;
        chosen = chain_over_run B bounded t b x (chosen_chain B x y) h' c.no_run
            ∙ ap₂ (chosen_chain B) (sym (chain_over_root B bounded t b x (chosen_chain B x y) h'))
            (sym (ap root (chain_over_core B bounded t b x (chosen_chain B x y) h' ∙ c.is_core) ∙ derives_root B fits y t w c.derives));
        below = chain_over_below B bounded t b x (chosen_chain B x y) h' c.below;
      }

  pub chain_over_end : (x y : ℕ) (t : Tree) (w : List E) → Mem y (reached B x) → Core B fits y t w → root (core (chain_over B (chosen_chain B x y) t)) ≡ y
  chain_over_end x y t w m c =
      let e = derives_root B fits y t w c.derives in
      ap root (chain_over_core B bounded t (core_busy y t w c) x (chosen_chain B x y) (subst (λ z. UnitChain B x (chosen_chain B x y) z) (sym e) (chain_leads B bounded x y m)) ∙ c.is_core) ∙ e

  pub sound_in : (k x : ℕ) (w : List E) (s : Tree) → Mem s (all_in B fits k x w) → Reads B fits x s w
  unfolding all_in
  sound_in zero x w s m = absurd m
  sound_in (suc k) x w s m =
      let r = each_mem (λ y. map (chain_over B (chosen_chain B x y)) (cores B fits (all_in B fits k) y w)) s (reached B x) m in
      let q = map_mem (chain_over B (chosen_chain B x r.0)) s (cores B fits (all_in B fits k) r.0 w) r.2 in
      subst (λ z. Reads B fits x z w) (sym q.2)
      (chain_over_reads x r.0 q.0 w r.1 (cores_sound (all_in B fits k) (λ a u t. sound_in k a u t) r.0 w q.0 q.1))

  pub reads_plain : (x : ℕ) (s : Tree) (w : List E) → Reads B fits x s w → PlainByTree B s
  reads_plain x s w r = rw (reads_busy x s w r) (r.chosen, r.below)
