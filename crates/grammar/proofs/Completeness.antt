-- Each plain derivation is in the list of all plain trees; and where there is a derivation there is a plain one.
use Rattle.std.proofs.Common.{◌≡◌, ℕ, zero, suc, ◌<◌, ◌≤◌, Bool, true, false, List, [], ◌∷◌, ◌++◌, map, length, sym, refl, ap, ◌∙◌, subst, ap₂, inl, append-nil, arith, length-append}
use Rattle.grammar.specs.Lists.{Mem, each, Cut, cuts}
use Rattle.grammar.specs.Binarised.{unit, binary, terminal, Binarised, Has, OwnRule, rules_of, Bounded, Tree, over, fork, leaf, root, bare, Derives, by_empty, by_unit, by_binary, by_terminal}
use Rattle.grammar.specs.Nullable.{nullable}
use Rattle.grammar.specs.Chains.{Dropped, nothing, the_right, the_left, unit_step, Leads, UnitChain, chosen_chain, within, reached}
use Rattle.grammar.specs.Plain.{run, core}
use Rattle.grammar.proofs.Short.{ChosenEmpty, ChosenChain}
use Rattle.grammar.specs.Taken.{chain_over}
use Rattle.grammar.proofs.PlainTrees.{Below, PlainByTree, grown, cores, all_in}
use Rattle.grammar.proofs.Lists.{mem_map, mem_each, mem_cuts}
use Rattle.grammar.proofs.Nullable.{has_rule, derives_nullable}
use Rattle.grammar.proofs.Chains.{mem_reached, chain_within, lead_steps, within_step, within_self}
use Rattle.grammar.proofs.ChainOver.{events_some, derives_bare, derives_root}

module _ (B : Binarised) (bounded : Bounded B) {E : Type 0} (fits : E → ℕ → Bool) where
  -- a core, and a symbol from which a chain reaches it
  pub mem_all_in : (k x y : ℕ) (w : List E) (t : Tree) → y < B.symbols → within B y B.symbols x ≡ true → Mem t (cores B fits (all_in B fits k) y w)
      → Mem (chain_over B (chosen_chain B x y) t) (all_in B fits (suc k) x w)
  unfolding all_in
  mem_all_in k x y w t h r m = mem_each (λ y. map (chain_over B (chosen_chain B x y)) (cores B fits (all_in B fits k) y w)) y (chain_over B (chosen_chain B x y) t) (reached B x)
      (mem_reached B bounded x y h r) (mem_map (chain_over B (chosen_chain B x y)) t (cores B fits (all_in B fits k) y w) m)

  leaf_in_cores : (trees : ℕ → List E → List Tree) (x n p : ℕ) (e : E) → Has B x n (terminal p) → fits e p ≡ true
      → Mem (leaf x n) (cores B fits trees x (e ∷ []))
  leaf_in_cores trees x n p e h f = mem_each (λ (o : OwnRule). grown fits trees x o.0 o.1 (e ∷ [])) (n, terminal p) (leaf x n) (rules_of B x)
      (has_rule B x n (terminal p) h) (rw f (inl refl))

  fork_in_cores : (trees : ℕ → List E → List Tree) (x n a b : ℕ) (u v : List E) (s t : Tree) → Has B x n (binary a b)
      → 0 < length u → 0 < length v → Mem s (trees a u) → Mem t (trees b v)
      → Mem (fork x n s t) (cores B fits trees x (u ++ v))
  fork_in_cores trees x n a b u v s t h hu hv ms mt =
      mem_each (λ (o : OwnRule). grown fits trees x o.0 o.1 (u ++ v)) (n, binary a b) (fork x n s t) (rules_of B x) (has_rule B x n (binary a b) h)
      (mem_each (λ (c : Cut E). each (λ s. map (fork x n s) (trees b c.1)) (trees a c.0)) (u, v) (fork x n s t) (cuts (u ++ v)) (mem_cuts u v hu hv)
      (mem_each (λ s. map (fork x n s) (trees b v)) s (fork x n s t) (trees a u) ms (mem_map (fork x n s) t (trees b v) mt)))

  -- a core over w, with a chain to it from x
  pub record Found (k x : ℕ) (w : List E) : Type 0 where
    pub end : ℕ
    pub tree : Tree
    pub small : end < B.symbols
    pub reach : within B end B.symbols x ≡ true
    pub in_cores : Mem tree (cores B fits (all_in B fits k) end w)

  pub found_in : (k x : ℕ) (w : List E) → Found k x w → (s : Tree) × Mem s (all_in B fits (suc k) x w)
  found_in k x w f = (chain_over B (chosen_chain B x f.end) f.tree, mem_all_in k x f.end w f.tree f.small f.reach f.in_cores)

  found_step : (k x n : ℕ) (d : Dropped) (y : ℕ) (w : List E) → Leads B x n d y → Found k y w → Found k x w
  found_step k x n d y w l f = record {
    end = f.end;
    tree = f.tree;
    small = f.small;
    reach = within_step B bounded f.end f.small x (unit_step x n d y) (lead_steps B x n d y l) f.reach;
    in_cores = f.in_cores;
  }

  found_fork : (k x n a b : ℕ) (u v w : List E) → Has B x n (binary a b) → 0 < length u → 0 < length v → u ++ v ≡ w → length w ≤ suc k
      → ((j : ℕ) → length u ≤ suc j → Found j a u) → ((j : ℕ) → length v ≤ suc j → Found j b v) → Found k x w
  found_fork zero x n a b u v w h hu hv e l f g = absurd (omega (arith, length-append u v, ap length e))
  found_fork (suc k) x n a b u v w h hu hv e l f g =
      let s = found_in k a u (f k (omega (arith, length-append u v, ap length e))) in
      let t = found_in k b v (g k (omega (arith, length-append u v, ap length e))) in
      record {
        end = x;
        tree = fork x n s.0 t.0;
        small = bounded _ h;
        reach = within_self B x B.symbols;
        in_cores = subst (λ z. Mem (fork x n s.0 t.0) (cores B fits (all_in B fits (suc k)) x z)) e
            (fork_in_cores (all_in B fits (suc k)) x n a b u v s.0 t.0 h hu hv s.1 t.1);
      }

  pub find : (x : ℕ) (s : Tree) (w : List E) → Derives B fits x s w → 0 < length w → (k : ℕ) → length w ≤ suc k → Found k x w
  find x s w (by_empty m) h k l = absurd (omega arith)
  find x s w (by_unit {n = n} {y = y} {s = s'} m d) h k l = found_step k x n nothing y w m (find y s' w d h k l)
  find x s w (by_terminal {n = n} {p = p} {e = e} m f) h k l =
      record { end = x; tree = leaf x n; small = bounded _ m; reach = within_self B x B.symbols; in_cores = leaf_in_cores (all_in B fits k) x n p e m f }
  find x s w (by_binary {n = n} {y = y} {z = z} {s = s'} {t = t'} {u = []} {v = v} m d d' q) h k l =
      found_step k x n (the_left y) z w (m, derives_nullable B bounded fits y s' [] d refl)
      (subst (Found k z) q (find z t' v d' (rw q h) k (rw q l)))
  find x s w (by_binary {n = n} {y = y} {z = z} {s = s'} {t = t'} {u = e ∷ u} {v = []} m d d' q) h k l =
      let i = sym (append-nil (e ∷ u)) ∙ q in
      found_step k x n (the_right z) y w (m, derives_nullable B bounded fits z t' [] d' refl)
      (subst (Found k y) i (find y s' (e ∷ u) d (omega arith) k (omega (arith, ap length i))))
  find x s w (by_binary {n = n} {y = y} {z = z} {s = s'} {t = t'} {u = e ∷ u} {v = f ∷ v} m d d' q) h k l =
      found_fork k x n y z (e ∷ u) (f ∷ v) w m (omega arith) (omega arith) q l
      (find y s' (e ∷ u) d (omega arith)) (find z t' (f ∷ v) d' (omega arith))

  -- what a plain derivation comes to: its core is in the list, its run is a chain to the core, and it is that run over the core
  pub record Taken (k x : ℕ) (s : Tree) (w : List E) : Type 0 where
    pub small : root (core s) < B.symbols
    pub in_cores : Mem (core s) (cores B fits (all_in B fits k) (root (core s)) w)
    pub runs : UnitChain B x (run s) (root (core s))
    pub dressed : s ≡ chain_over B (run s) (core s)

  taken_in : (k x : ℕ) (s : Tree) (w : List E) → root s ≡ x → ChosenChain B s → Taken k x s w → Mem s (all_in B fits (suc k) x w)
  taken_in k x s w r c t =
      let e : s ≡ chain_over B (chosen_chain B x (root (core s))) (core s) = t.dressed ∙ ap (λ l. chain_over B l (core s)) (c ∙ ap (λ z. chosen_chain B z (root (core s))) r) in
      subst (λ z. Mem z (all_in B fits (suc k) x w)) (sym e)
      (mem_all_in k x (root (core s)) w (core s) t.small (chain_within B bounded (root (core s)) t.small x (run s) t.runs) t.in_cores)

  taken_over : (k x n y : ℕ) (s : Tree) (w : List E) → Has B x n (unit y) → root s ≡ y → Taken k y s w → Taken k x (over x n s) w
  taken_over k x n y s w m r t = record {
    small = t.small;
    in_cores = t.in_cores;
    runs = (refl, rw r m, rw r t.runs);
    dressed = ap (over x n) t.dressed;
  }

  taken_left : (k x n y z : ℕ) (s t : Tree) (w : List E) → Has B x n (binary y z) → root s ≡ y → root t ≡ z → nullable B z ≡ true
      → bare t ≡ true → ChosenEmpty B t → Taken k y s w → Taken k x (fork x n s t) w
  taken_left k x n y z s t w m r r' b e d g = record {
    small = rw e g.small;
    in_cores = rw e g.in_cores;
    runs = rw e (refl, (rw (r, r') m, rw r' b), rw r g.runs);
    dressed = rw e (ap₂ (fork x n) g.dressed d);
  }

  taken_right : (k x n y z : ℕ) (s t : Tree) (w : List E) → Has B x n (binary y z) → root s ≡ y → root t ≡ z → nullable B y ≡ true
      → bare s ≡ true → bare t ≡ false → ChosenEmpty B s → Taken k z t w → Taken k x (fork x n s t) w
  taken_right k x n y z s t w m r r' b e e' d g = record {
    small = rw (e, e') g.small;
    in_cores = rw (e, e') g.in_cores;
    runs = rw (e, e') (refl, (rw (r, r') m, rw r b), rw r' g.runs);
    dressed = rw (e, e') (ap₂ (fork x n) d g.dressed);
  }

  taken_both : (k x n y z : ℕ) (s t : Tree) (u v w : List E) → Has B x n (binary y z) → root s ≡ y → root t ≡ z
      → 0 < length u → 0 < length v → u ++ v ≡ w → length w ≤ suc k → bare s ≡ false → bare t ≡ false → ChosenChain B s → ChosenChain B t
      → ((j : ℕ) → length u ≤ suc j → Taken j y s u) → ((j : ℕ) → length v ≤ suc j → Taken j z t v) → Taken k x (fork x n s t) w
  taken_both zero x n y z s t u v w m r r' hu hv q l e e' c c' f g = absurd (omega (arith, length-append u v, ap length q))
  taken_both (suc k) x n y z s t u v w m r r' hu hv q l e e' c c' f g =
      let ms = taken_in k y s u r c (f k (omega (arith, length-append u v, ap length q))) in
      let mt = taken_in k z t v r' c' (g k (omega (arith, length-append u v, ap length q))) in
      record {
        small = rw (e, e') (bounded _ m);
        in_cores = rw (e, e') (subst (λ i. Mem (fork x n s t) (cores B fits (all_in B fits (suc k)) x i)) q
            (fork_in_cores (all_in B fits (suc k)) x n y z u v s t m hu hv ms mt));
        runs = rw (e, e') refl;
        dressed = rw (e, e') refl;
      }

  take : (x : ℕ) (s : Tree) (w : List E) → Derives B fits x s w → 0 < length w → Below B s → (k : ℕ) → length w ≤ suc k → Taken k x s w
  take x s w (by_empty m) h b k l = absurd (omega arith)
  take x s w (by_terminal {n = n} {p = p} {e = e} m f) h b k l =
      record { small = bounded _ m; in_cores = leaf_in_cores (all_in B fits k) x n p e m f; runs = refl; dressed = refl }
  take x s w (by_unit {n = n} {y = y} {s = s'} m d) h b k l =
      taken_over k x n y s' w m (derives_root B fits y s' w d) (take y s' w d h b k l)
  take x s w (by_binary {n = n} {y = y} {z = z} {s = s'} {t = t'} {u = []} {v = v} m d d' q) h b k l =
      let e = derives_bare B fits y s' [] d in
      let h' : 0 < length v = omega (arith, ap length q) in
      let e' = derives_bare B fits z t' v d' ∙ events_some v h' in
      let b' = rw (e, e') at b in
      taken_right k x n y z s' t' w m (derives_root B fits y s' [] d) (derives_root B fits z t' v d') (derives_nullable B bounded fits y s' [] d refl)
      e e' b'.0 (subst (Taken k z t') q (take z t' v d' h' b'.1 k (omega (arith, ap length q))))
  take x s w (by_binary {n = n} {y = y} {z = z} {s = s'} {t = t'} {u = f ∷ u} {v = []} m d d' q) h b k l =
      let i = sym (append-nil (f ∷ u)) ∙ q in
      let e = derives_bare B fits z t' [] d' in
      let b' = rw e at b in
      taken_left k x n y z s' t' w m (derives_root B fits y s' (f ∷ u) d) (derives_root B fits z t' [] d') (derives_nullable B bounded fits z t' [] d' refl)
      e b'.0 (subst (Taken k y s') i (take y s' (f ∷ u) d (omega arith) b'.1 k (omega (arith, ap length i))))
  take x s w (by_binary {n = n} {y = y} {z = z} {s = s'} {t = t'} {u = f ∷ u} {v = g ∷ v} m d d' q) h b k l =
      let e = derives_bare B fits y s' (f ∷ u) d in
      let e' = derives_bare B fits z t' (g ∷ v) d' in
      let b' = rw (e, e') at b in
      taken_both k x n y z s' t' (f ∷ u) (g ∷ v) w m (derives_root B fits y s' (f ∷ u) d) (derives_root B fits z t' (g ∷ v) d')
      (omega arith) (omega arith) q l e e' b'.0.0 b'.1.0
      (take y s' (f ∷ u) d (omega arith) b'.0.1) (take z t' (g ∷ v) d' (omega arith) b'.1.1)

  pub complete_in : (k x : ℕ) (s : Tree) (w : List E) → Derives B fits x s w → 0 < length w → length w ≤ suc k → PlainByTree B s → Mem s (all_in B fits (suc k) x w)
  complete_in k x s w d h l p =
      let p' = rw (derives_bare B fits x s w d ∙ events_some w h) at p in
      taken_in k x s w (derives_root B fits x s w d) p'.0 (take x s w d h p'.1 k l)
