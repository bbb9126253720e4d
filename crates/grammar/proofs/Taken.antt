-- The derivation taken: it is the first of all plain trees, there is one exactly if the yes/no cell says so, and below the first step of its
-- chain it is the one taken there.
use Rattle.std.proofs.Common.{◌≡◌, ℕ, zero, suc, ◌<◌, ◌≤◌, Bool, true, false, cond, ◌&&◌, ◌||◌, ◌⊎◌, List, [], ◌∷◌, ◌++◌, map, length, sym, refl, ap, ◌∙◌, subst, ap₂, inl, inr, true≢false, append_assoc, arith}
use mathlib.Core.Path.{fun_ext}
use mathlib.Core.Bool.{or_assoc, or_comm, and_assoc, and_comm, and-or_distrib_left}
use Rattle.std.proofs.lemmas.Bool.{and_parts, and_from}
use Rattle.grammar.specs.Lists.{Mem, First, some_of, those, each, Cut, cuts}
use Rattle.grammar.specs.Binarised.{Right, empty, unit, binary, terminal, Binarised, OwnRule, rules_of, Tree, null, over, fork, leaf}
use Rattle.grammar.specs.Nullable.{nullable_tree}
use Rattle.grammar.specs.Chains.{Dropped, nothing, the_right, the_left, ChainStep, chosen_chain, reached}
use Rattle.grammar.specs.Strict.{StrictFormRule, strict_rules_of, strict_rule, proper}
use Rattle.grammar.specs.Taken.{chain_over, yes_cell, rule_fits, cut_fits, Takes, takes_terminal, takes_binary}
use Rattle.grammar.proofs.Short.{each_yes}
use Rattle.grammar.specs.Semiring.{Semiring, sum}
use Rattle.grammar.specs.Cells.{tree_weight, drop_weight, chain_weight, over_events, cell_in, cell}
use Rattle.grammar.specs.Weighings.{yes_no}
use Rattle.grammar.proofs.Weighed.{trees_sum, grown_weight}
use Rattle.grammar.proofs.PlainTrees.{grown, all}
use Rattle.grammar.proofs.Lists.{map_mem, each_mem, cond_yes}
use Rattle.grammar.proofs.CellEquations.{cut_short, cell_eq, all_eq, each_cong}

-- yes and no have the laws
pub yes_no_laws : Semiring yes_no
yes_no_laws = record {
  plus_assoc = or_assoc;
  plus_comm = or_comm;
  plus_zero = λ a. refl;
  times_assoc = and_assoc;
  times_comm = and_comm;
  times_one = λ a. refl;
  times_zero = λ a. refl;
  distrib = and-or_distrib_left;
}

-- first ones

pub first_mem : {A : Type 0} (p : A → Bool) (xs : List A) (a : A) → First p xs a → Mem a xs × (p a ≡ true)
first_mem p [] a f = absurd f
first_mem p (x ∷ xs) a (inl f) = (inl f.1, ap p f.1 ∙ f.0)
first_mem p (x ∷ xs) a (inr f) = (inr (first_mem p xs a f.1).0, (first_mem p xs a f.1).1)

pub first_some : {A : Type 0} (p : A → Bool) (xs : List A) → some_of p xs ≡ true → (a : A) × First p xs a
first_some p [] t = absurd (true≢false (sym t))
first_some p (x ∷ xs) t = (elim (p x) as (λ b. p x ≡ b → (b || some_of p xs) ≡ true → (a : _) × First p (x ∷ xs) a) [
  | true ↦ λ e t'. (x, inl (e, refl))
  | false ↦ λ e t'. ((first_some p xs t').0, inr (e, (first_some p xs t').1))
]) refl t

pub first_append : {A : Type 0} (p : A → Bool) (xs ys : List A) (a : A) → First p (xs ++ ys) a → First p xs a ⊎ ((some_of p xs ≡ false) × First p ys a)
first_append p [] ys a f = inr (refl, f)
first_append p (x ∷ xs) ys a (inl f) = inl (inl f)
first_append p (x ∷ xs) ys a (inr f) = elim (first_append p xs ys a f.1)
    [ inl g ↦ inl (inr (f.0, g)) | inr g ↦ inr (rw f.0 g.0, g.1) ]

pub first_left : {A : Type 0} (p : A → Bool) (xs ys : List A) (a : A) → First p xs a → First p (xs ++ ys) a
first_left p [] ys a f = absurd f
first_left p (x ∷ xs) ys a (inl f) = inl f
first_left p (x ∷ xs) ys a (inr f) = inr (f.0, first_left p xs ys a f.1)

pub first_right : {A : Type 0} (p : A → Bool) (xs ys : List A) (a : A) → some_of p xs ≡ false → First p ys a → First p (xs ++ ys) a
first_right p [] ys a n f = f
first_right p (x ∷ xs) ys a n f = let r = Rattle.std.proofs.lemmas.Bool.or_parts (p x) (some_of p xs) n in inr (r.0, first_right p xs ys a r.1 f)

-- lists of lists

any_in : {A : Type 0} → List A → Bool
any_in [] = false
any_in (x ∷ xs) = true

begins : {A : Type 0} → List A → A → Type 0
begins {A} xs a = (rest : List A) × (xs ≡ a ∷ rest)

-- the first of a list made of lists is the first of the first that is not empty
each_begins : {A B : Type 0} (f : A → List B) (p : A → Bool) (xs : List A) (a : A) (b : B)
    → ((z : A) → p z ≡ any_in (f z)) → First p xs a → begins (f a) b → begins (each f xs) b
unfolding begins any_in
each_begins f p [] a b h r g = absurd r
each_begins f p (x ∷ xs) a b h (inl r) g =
    let e = ap f (sym r.1) ∙ g.1 in (g.0 ++ each f xs, ap (λ l. l ++ each f xs) e)
each_begins {A} {B} f p (x ∷ xs) a b h (inr r) g =
    let i = each_begins f p xs a b h r.1 g in
    let e = none (f x) (sym (h x) ∙ r.0) in
    (i.0, ap (λ l. l ++ each f xs) e ∙ i.1)
  where
    none : (l : List B) → any_in l ≡ false → l ≡ []
    none [] t = refl
    none (y ∷ ys) t = absurd (true≢false t)

map_begins : {A B : Type 0} (f : A → B) (xs : List A) (a : A) → begins xs a → begins (map f xs) (f a)
unfolding begins
map_begins f xs a g = (map f g.0, ap (map f) g.1)

each_each : {A B C : Type 0} (g : B → List C) (f : A → List B) (xs : List A) → each g (each f xs) ≡ each (λ a. each g (f a)) xs
each_each {A} {B} {C} g f [] = refl
each_each {A} {B} {C} g f (x ∷ xs) = append (f x) (each f xs) ∙ ap (λ l. each g (f x) ++ l) (each_each g f xs)
  where
    append : (l r : List B) → each g (l ++ r) ≡ each g l ++ each g r
    append [] r = refl
    append (y ∷ l) r = ap (λ k. g y ++ k) (append l r) ∙ sym (append_assoc (g y) (each g l) (each g r))

each_map : {A B C : Type 0} (g : B → List C) (f : A → B) (xs : List A) → each g (map f xs) ≡ each (λ a. g (f a)) xs
each_map g f [] = refl
each_map g f (x ∷ xs) = ap (λ l. g (f x) ++ l) (each_map g f xs)

map_each : {A B C : Type 0} (g : B → C) (f : A → List B) (xs : List A) → map g (each f xs) ≡ each (λ a. map g (f a)) xs
map_each g f [] = refl
map_each {A} {B} {C} g f (x ∷ xs) = append (f x) (each f xs) ∙ ap (λ l. map g (f x) ++ l) (map_each g f xs)
  where
    append : (l r : List B) → map g (l ++ r) ≡ map g l ++ map g r
    append [] r = refl
    append (y ∷ l) r = ap (λ k. g y ∷ k) (append l r)

each_those : {A B : Type 0} (p : A → Bool) (f : A → List B) (xs : List A) → ((a : A) → p a ≡ false → f a ≡ []) → each f (those p xs) ≡ each f xs
each_those p f [] h = refl
each_those p f (x ∷ xs) h = (elim (p x) as (λ b. p x ≡ b → each f (cond b (x ∷ those p xs) (those p xs)) ≡ f x ++ each f xs) [
  | true ↦ λ e. ap (λ l. f x ++ l) (each_those p f xs h)
  | false ↦ λ e. each_those p f xs h ∙ ap (λ l. l ++ each f xs) (sym (h x e))
]) refl

-- a sum of yes and no is a test over the list
pub sum_some : {A : Type 0} (f : A → Bool) (xs : List A) → sum yes_no f xs ≡ some_of f xs
sum_some f [] = refl
sum_some f (x ∷ xs) = ap (λ b. f x || b) (sum_some f xs)

pub weight_yes : (s : Tree) → tree_weight yes_no each_yes s ≡ true
weight_yes (null x n) = refl
weight_yes (over x n s) = weight_yes s
weight_yes (fork x n s t) = rw (weight_yes s) (weight_yes t)
weight_yes (leaf x n) = refl

sum_any : (l : List Tree) → sum yes_no (tree_weight yes_no each_yes) l ≡ any_in l
unfolding any_in
sum_any [] = refl
sum_any (s ∷ l) = rw (weight_yes s)

module _ (B : Binarised) where
  pub chain_yes : (c : List ChainStep) → chain_weight B yes_no each_yes c ≡ true
  chain_yes [] = refl
  chain_yes (s ∷ c) = and_from _ _ (drop_yes s.dropped) (chain_yes c)
    where
      drop_yes : (d : Dropped) → drop_weight B yes_no each_yes d ≡ true
      drop_yes nothing = refl
      drop_yes (the_right z) = weight_yes (nullable_tree B z)
      drop_yes (the_left z) = weight_yes (nullable_tree B z)

  module _ {E : Type 0} (fits : E → ℕ → Bool) where
    -- the trees of one strict rule
    trees_by : List E → StrictFormRule → List Tree
    trees_by w r = map (chain_over B (chosen_chain B r.symbol r.end)) (grown fits (all B fits) r.end r.number r.right w)

    not_proper : (y n : ℕ) (b : Right) (w : List E) → proper b ≡ false → grown fits (all B fits) y n b w ≡ []
    not_proper y n empty w e = refl
    not_proper y n (unit z) w e = refl
    not_proper y n (binary a b) w e = absurd (true≢false e)
    not_proper y n (terminal p) w e = absurd (true≢false e)

    -- all plain trees, by the strict rules in order
    all_strict : (x : ℕ) (w : List E) → 0 < length w → all B fits x w ≡ each (trees_by w) (strict_rules_of B x)
    unfolding trees_by strict_rules_of
    all_strict x w h = all_eq B fits x w h
        ∙ each_cong _ _ (reached B x) (λ y m.
        map_each (chain_over B (chosen_chain B x y)) (λ (o : OwnRule). grown fits (all B fits) y o.0 o.1 w) (rules_of B y)
        ∙ sym (each_those (λ (o : OwnRule). proper o.1) (λ o. trees_by w (strict_rule x y o)) (rules_of B y)
        (λ o e. ap (map (chain_over B (chosen_chain B x y))) (not_proper y o.0 o.1 w e)))
        ∙ sym (each_map (trees_by w) (strict_rule x y) (those (λ (o : OwnRule). proper o.1) (rules_of B y))))
        ∙ sym (each_each (trees_by w) (λ y. map (strict_rule x y) (those (λ (o : OwnRule). proper o.1) (rules_of B y))) (reached B x))

    any_map : {A C : Type 0} (f : A → C) (l : List A) → any_in (map f l) ≡ any_in l
    unfolding any_in
    any_map f [] = refl
    any_map f (x ∷ l) = refl

    reads_any : (x : ℕ) (w : List E) → yes_cell B fits x w ≡ any_in (all B fits x w)
    reads_any x w = sym (trees_sum B yes_no yes_no_laws each_yes fits x w) ∙ sum_any (all B fits x w)

    fits_any : (w : List E) (r : StrictFormRule) → rule_fits B fits w r ≡ any_in (trees_by w r)
    unfolding trees_by
    fits_any w r =
        sym (grown_weight B yes_no yes_no_laws each_yes fits (all B fits) (yes_cell B fits) (λ a u. trees_sum B yes_no yes_no_laws each_yes fits a u) r.end r.number r.right w)
        ∙ sum_any (grown fits (all B fits) r.end r.number r.right w)
        ∙ sym (any_map (chain_over B (chosen_chain B r.symbol r.end)) (grown fits (all B fits) r.end r.number r.right w))

    pub strict_head : (x : ℕ) (r : StrictFormRule) → Mem r (strict_rules_of B x) → (r.symbol ≡ x) × Mem r.end (reached B x)
    unfolding strict_rules_of
    strict_head x r m =
        let q = each_mem (λ y. map (strict_rule x y) (those (λ (o : OwnRule). proper o.1) (rules_of B y))) r (reached B x) m in
        let o = map_mem (strict_rule x q.0) r (those (λ (o : OwnRule). proper o.1) (rules_of B q.0)) q.2 in
        (ap (λ z. z.symbol) o.2, subst (λ z. Mem z (reached B x)) (sym (ap (λ z. z.end) o.2)) q.1)

    rule_begins : (x : ℕ) (w : List E) (r : StrictFormRule) (t : Tree) → 0 < length w → First (rule_fits B fits w) (strict_rules_of B x) r
        → begins (grown fits (all B fits) r.end r.number r.right w) t → begins (all B fits x w) (chain_over B (chosen_chain B x r.end) t)
    unfolding begins trees_by
    rule_begins x w r t h f g =
        let m = first_mem (rule_fits B fits w) (strict_rules_of B x) r f in
        let e = (strict_head x r m.0).0 in
        let i = each_begins (trees_by w) (rule_fits B fits w) (strict_rules_of B x) r (chain_over B (chosen_chain B x r.end) t) (fits_any w) f
        (subst (λ z. begins (map (chain_over B (chosen_chain B z r.end)) (grown fits (all B fits) r.end r.number r.right w)) (chain_over B (chosen_chain B x r.end) t)) (sym e)
        (map_begins (chain_over B (chosen_chain B x r.end)) (grown fits (all B fits) r.end r.number r.right w) t g)) in
        (i.0, all_strict x w h ∙ i.1)

    any_product : (y n : ℕ) (l r : List Tree) → any_in (each (λ s. map (fork y n s) r) l) ≡ (any_in l && any_in r)
    unfolding any_in
    any_product y n [] r = refl
    any_product y n (s ∷ l) [] = any_product y n l [] ∙ Rattle.std.proofs.lemmas.Bool.and_right (any_in l) false refl
    any_product y n (s ∷ l) (t ∷ r) = refl

    product_begins : (y n : ℕ) (l r : List Tree) (s t : Tree) → begins l s → begins r t → begins (each (λ s. map (fork y n s) r) l) (fork y n s t)
    unfolding begins
    product_begins y n l r s t g h = (
      map (fork y n s) h.0 ++ each (λ s. map (fork y n s) r) g.0,
      ap (each (λ s. map (fork y n s) r)) g.1 ∙ ap (λ l. map (fork y n s) l ++ each (λ s. map (fork y n s) r) g.0) h.1,
    )

    -- the derivation taken is the first of all plain trees
    pub reading_first : (x : ℕ) (s : Tree) (w : List E) → Takes B fits x s w → (rest : List Tree) × (all B fits x w ≡ s ∷ rest)
    unfolding begins
    reading_first x s w (takes_terminal {p = p} {e = e} r f q) =
        let t = (first_mem (rule_fits B fits (e ∷ [])) (strict_rules_of B x) r f).1 in
        let t' = cond_yes (fits e p) (subst (λ b. over_events yes_no fits (yes_cell B fits) b (e ∷ []) ≡ true) q t) in
        rule_begins x (e ∷ []) r (leaf r.end r.number) (omega arith) f
        (subst (λ b. begins (grown fits (all B fits) r.end r.number b (e ∷ [])) (leaf r.end r.number)) (sym q) (rw t' ([], refl)))
    reading_first x s w (takes_binary {a = a} {b = b} {s = s'} {t = t'} r c f q g d d') =
        let m = first_mem (cut_fits B fits a b) (cuts w) c g in
        let k = cut_short w c m.0 in
        rule_begins x w r (fork r.end r.number s' t') (omega arith) f
        (subst (λ z. begins (grown fits (all B fits) r.end r.number z w) (fork r.end r.number s' t')) (sym q)
        (each_begins (λ (c : Cut E). each (λ s. map (fork r.end r.number s) (all B fits b c.1)) (all B fits a c.0)) (cut_fits B fits a b) (cuts w) c _
        (λ z. ap₂ ◌&&◌ (reads_any a z.0) (reads_any b z.1) ∙ sym (any_product r.end r.number (all B fits a z.0) (all B fits b z.1)))
        g (product_begins r.end r.number (all B fits a c.0) (all B fits b c.1) s' t' (reading_first a s' c.0 d) (reading_first b t' c.1 d'))))

    reads_first : (x : ℕ) (w : List E) → 0 < length w → yes_cell B fits x w ≡ true → (r : StrictFormRule) × First (rule_fits B fits w) (strict_rules_of B x) r
    reads_first x w h t = first_some (rule_fits B fits w) (strict_rules_of B x)
        (ap (λ p. some_of p (strict_rules_of B x)) (fun_ext (λ r. ap (λ b. b && rule_fits B fits w r) (sym (and_from _ _ (chain_yes (chosen_chain B r.symbol r.end)) refl))))
        ∙ sym (sum_some _ (strict_rules_of B x)) ∙ sym (cell_eq yes_no yes_no_laws fits B each_yes x w h) ∙ t)

    not_empty : (x : ℕ) (w : List E) → yes_cell B fits x w ≡ true → 0 < length w
    unfolding cell cell_in
    not_empty x [] t = absurd (true≢false (sym t))
    not_empty x (e ∷ w) t = omega arith

    reading_by : (x : ℕ) (w : List E) (r : StrictFormRule) (b : Right) → r.right ≡ b → First (rule_fits B fits w) (strict_rules_of B x) r
        → over_events yes_no fits (yes_cell B fits) b w ≡ true
        → ((a : ℕ) (u : List E) → length u < length w → yes_cell B fits a u ≡ true → (s : Tree) × Takes B fits a s u)
        → (s : Tree) × Takes B fits x s w
    reading_by x w r empty q f t ih = absurd (true≢false (sym t))
    reading_by x w r (unit y) q f t ih = absurd (true≢false (sym t))
    reading_by x [] r (terminal p) q f t ih = absurd (true≢false (sym t))
    reading_by x (e ∷ []) r (terminal p) q f t ih = (_, takes_terminal r f q)
    reading_by x (e ∷ e' ∷ w) r (terminal p) q f t ih = absurd (true≢false (sym t))
    reading_by x w r (binary a b) q f t ih =
        let c = first_some (cut_fits B fits a b) (cuts w) (sym (sum_some _ (cuts w)) ∙ t) in
        let m = first_mem (cut_fits B fits a b) (cuts w) c.0 c.1 in
        let k = cut_short w c.0 m.0 in
        let p = and_parts (yes_cell B fits a c.0.0) (yes_cell B fits b c.0.1) m.1 in
        let i = ih a c.0.0 k.0 p.0 in
        let j = ih b c.0.1 k.1 p.1 in
        (_, takes_binary r c.0 f q c.1 i.1 j.1)

    reading_in : (n x : ℕ) (w : List E) → length w ≤ n → yes_cell B fits x w ≡ true → (s : Tree) × Takes B fits x s w
    reading_in zero x w l t = absurd (let h = not_empty x w t in omega arith)
    reading_in (suc n) x w l t =
        let r = reads_first x w (not_empty x w t) t in
        reading_by x w r.0 r.0.right refl r.1 (first_mem (rule_fits B fits w) (strict_rules_of B x) r.0 r.1).1
        (λ a u k. reading_in n a u (omega arith))

    -- where the yes/no cell says yes a derivation is taken
    pub reading_some : (x : ℕ) (w : List E) → yes_cell B fits x w ≡ true → (s : Tree) × Takes B fits x s w
    reading_some x w t = reading_in (length w) x w (omega arith) t

    any_mem : (l : List Tree) (s : Tree) → Mem s l → any_in l ≡ true
    unfolding any_in
    any_mem [] s m = absurd m
    any_mem (t ∷ l) s m = refl

    -- the yes/no cell says yes where there is a plain tree
    pub all_reads : (x : ℕ) (s : Tree) (w : List E) → Mem s (all B fits x w) → yes_cell B fits x w ≡ true
    all_reads x s w m = reads_any x w ∙ any_mem (all B fits x w) s m
