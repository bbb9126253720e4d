-- What a run of unit steps over a tree is: its root, its events, its run and its core.
use Rattle.std.proofs.Common.{◌≡◌, ℕ, ◌<◌, Bool, true, false, ◌&&◌, List, [], ◌∷◌, ◌++◌, length, sym, refl, ap, ◌∙◌, subst, ap₂, true≢false, append-nil, arith}
use Rattle.std.proofs.lemmas.Bool.{and_right, and_left}
use Rattle.grammar.specs.Binarised.{Binarised, Bounded, Tree, root, bare, Derives, by_empty, by_unit, by_binary, by_terminal}
use Rattle.grammar.specs.Nullable.{nullable, nullable_tree}
use Rattle.grammar.specs.Chains.{Dropped, nothing, the_right, the_left, ChainStep, unit_step, Leads, UnitChain}
use Rattle.grammar.specs.Plain.{run, core}
use Rattle.grammar.specs.Taken.{step_over, chain_over}
use Rattle.grammar.proofs.PlainTrees.{Below}
use Rattle.grammar.proofs.Nullable.{nullable_root, nullable_derives}

abbrev pub is_nil : {E : Type 0} → List E → Bool
is_nil [] = true
is_nil (e ∷ w) = false

is_nil_append : {E : Type 0} (u v : List E) → is_nil (u ++ v) ≡ (is_nil u && is_nil v)
is_nil_append [] v = refl
is_nil_append (e ∷ u) v = refl

pub nil_of : {E : Type 0} (w : List E) → is_nil w ≡ true → w ≡ []
nil_of [] t = refl
nil_of (e ∷ w) t = absurd (true≢false (sym t))

pub events_some : {E : Type 0} (w : List E) → 0 < length w → is_nil w ≡ false
events_some [] h = absurd (omega arith)
events_some (e ∷ w) h = refl

-- a tree is bare exactly if it derives no events
pub derives_bare : (B : Binarised) {E : Type 0} (fits : E → ℕ → Bool) (x : ℕ) (s : Tree) (w : List E) → Derives B fits x s w → bare s ≡ is_nil w
derives_bare B fits x s w (by_empty m) = refl
derives_bare B fits x s w (by_unit {y = y} {s = s'} m d) = derives_bare B fits y s' w d
derives_bare B fits x s w (by_binary {y = y} {z = z} {s = s'} {t = t'} {u = u} {v = v} m d d' q) =
    ap₂ ◌&&◌ (derives_bare B fits y s' u d) (derives_bare B fits z t' v d') ∙ sym (is_nil_append u v) ∙ ap is_nil q
derives_bare B fits x s w (by_terminal m f) = refl

pub derives_root : (B : Binarised) {E : Type 0} (fits : E → ℕ → Bool) (x : ℕ) (s : Tree) (w : List E) → Derives B fits x s w → root s ≡ x
derives_root B fits x s w (by_empty m) = refl
derives_root B fits x s w (by_unit m d) = refl
derives_root B fits x s w (by_binary m d d' q) = refl
derives_root B fits x s w (by_terminal m f) = refl

abbrev anything : Unit {0} → ℕ → Bool
anything e p = true

module _ (B : Binarised) (bounded : Bounded B) where
  nullable_bare : (z : ℕ) → nullable B z ≡ true → bare (nullable_tree B z) ≡ true
  nullable_bare z t = derives_bare B anything z (nullable_tree B z) [] (nullable_derives B bounded anything z t)

  over_root : (x n : ℕ) (d : Dropped) (t : Tree) → root (step_over B x n d t) ≡ x
  over_root x n nothing t = refl
  over_root x n (the_right z) t = refl
  over_root x n (the_left z) t = refl

  over_bare : (x n : ℕ) (d : Dropped) (t : Tree) → bare t ≡ false → bare (step_over B x n d t) ≡ false
  over_bare x n nothing t e = e
  over_bare x n (the_right z) t e = and_left (bare t) _ e
  over_bare x n (the_left z) t e = and_right (bare (nullable_tree B z)) (bare t) e

  over_run : (x n : ℕ) (d : Dropped) (y : ℕ) (t : Tree) → Leads B x n d y → bare t ≡ false → run (step_over B x n d t) ≡ unit_step x n d (root t) ∷ run t
  over_run x n nothing y t l e = refl
  over_run x n (the_right z) y t l e = rw (nullable_bare z l.1) (ap (λ i. unit_step x n (the_right i) (root t) ∷ run t) (nullable_root B z))
  over_run x n (the_left z) y t l e = rw (nullable_bare z l.1, e) (ap (λ i. unit_step x n (the_left i) (root t) ∷ run t) (nullable_root B z))

  over_core : (x n : ℕ) (d : Dropped) (y : ℕ) (t : Tree) → Leads B x n d y → bare t ≡ false → core (step_over B x n d t) ≡ core t
  over_core x n nothing y t l e = refl
  over_core x n (the_right z) y t l e = rw (nullable_bare z l.1)
  over_core x n (the_left z) y t l e = rw (nullable_bare z l.1, e)

  over_below : (x n : ℕ) (d : Dropped) (y : ℕ) (t : Tree) → Leads B x n d y → bare t ≡ false → Below B t → Below B (step_over B x n d t)
  over_below x n nothing y t l e b = b
  over_below x n (the_right z) y t l e b = rw (nullable_bare z l.1) (ap (nullable_tree B) (sym (nullable_root B z)), b)
  over_below x n (the_left z) y t l e b = rw (nullable_bare z l.1, e) (ap (nullable_tree B) (sym (nullable_root B z)), b)

  over_derives : {E : Type 0} (fits : E → ℕ → Bool) (x n : ℕ) (d : Dropped) (y : ℕ) (t : Tree) (w : List E)
      → Leads B x n d y → Derives B fits y t w → Derives B fits x (step_over B x n d t) w
  over_derives fits x n nothing y t w l d = by_unit l d
  over_derives fits x n (the_right z) y t w l d = by_binary l.0 d (nullable_derives B bounded fits z l.1) (append-nil w)
  over_derives fits x n (the_left z) y t w l d = by_binary l.0 (nullable_derives B bounded fits z l.1) d refl

  over_same : (x n : ℕ) (d : Dropped) (s t : Tree) → step_over B x n d s ≡ step_over B x n d t → s ≡ t
  over_same x n nothing s t e = cc
  over_same x n (the_right z) s t e = cc
  over_same x n (the_left z) s t e = cc

  pub chain_over_same : (c : List ChainStep) (s t : Tree) → chain_over B c s ≡ chain_over B c t → s ≡ t
  chain_over_same [] s t e = e
  chain_over_same (p ∷ c) s t e = chain_over_same c s t (over_same p.from p.number p.dropped (chain_over B c s) (chain_over B c t) e)

  pub chain_over_bare : (c : List ChainStep) (t : Tree) → bare t ≡ false → bare (chain_over B c t) ≡ false
  chain_over_bare [] t e = e
  chain_over_bare (s ∷ c) t e = over_bare s.from s.number s.dropped (chain_over B c t) (chain_over_bare c t e)

  module _ (t : Tree) (e : bare t ≡ false) where
    pub chain_over_root : (x : ℕ) (c : List ChainStep) → UnitChain B x c (root t) → root (chain_over B c t) ≡ x
    chain_over_root x [] h = sym h
    chain_over_root x (s ∷ c) h = over_root s.from s.number s.dropped (chain_over B c t) ∙ h.0

    pub chain_over_run : (x : ℕ) (c : List ChainStep) → UnitChain B x c (root t) → run t ≡ [] → run (chain_over B c t) ≡ c
    chain_over_run x [] h n = n
    chain_over_run x (s ∷ c) h n = over_run s.from s.number s.dropped s.to (chain_over B c t) h.1 (chain_over_bare c t e)
        ∙ ap₂ (λ i l. unit_step s.from s.number s.dropped i ∷ l) (chain_over_root s.to c h.2) (chain_over_run s.to c h.2 n)

    pub chain_over_core : (x : ℕ) (c : List ChainStep) → UnitChain B x c (root t) → core (chain_over B c t) ≡ core t
    chain_over_core x [] h = refl
    chain_over_core x (s ∷ c) h = over_core s.from s.number s.dropped s.to (chain_over B c t) h.1 (chain_over_bare c t e) ∙ chain_over_core s.to c h.2

    pub chain_over_below : (x : ℕ) (c : List ChainStep) → UnitChain B x c (root t) → Below B t → Below B (chain_over B c t)
    chain_over_below x [] h b = b
    chain_over_below x (s ∷ c) h b =
        over_below s.from s.number s.dropped s.to (chain_over B c t) h.1 (chain_over_bare c t e) (chain_over_below s.to c h.2 b)

  pub chain_over_derives : {E : Type 0} (fits : E → ℕ → Bool) (x : ℕ) (c : List ChainStep) (y : ℕ) (t : Tree) (w : List E)
      → UnitChain B x c y → Derives B fits y t w → Derives B fits x (chain_over B c t) w
  chain_over_derives fits x [] y t w h d = subst (λ z. Derives B fits z t w) (sym h) d
  chain_over_derives fits x (s ∷ c) y t w h d = subst (λ z. Derives B fits z (chain_over B (s ∷ c) t) w) h.0
      (over_derives fits s.from s.number s.dropped s.to (chain_over B c t) w h.1 (chain_over_derives fits s.to c y t w h.2 d))
