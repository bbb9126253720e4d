-- Laws of the lists of specs/Lists.
use Rattle.std.proofs.Common.{◌≡◌, ℕ, zero, suc, ◌+◌, ◌<◌, ◌≤◌, Bool, true, false, cond, ◌||◌, ◌⊎◌, List, [], ◌∷◌, ◌++◌, map, length, sym, refl, ap, ◌∙◌, subst, ap₂, inl, inr, true≢false, arith}
use Rattle.std.proofs.lemmas.Bool.{or_left, or_right, or_cases, cases_eq}
use Rattle.grammar.specs.Lists.{Sorted, Mem, Distinct, some_of, first_of, those, each, count_up, below, Cut, cuts}

-- membership

pub mem_left : {A : Type 0} (a : A) (xs ys : List A) → Mem a xs → Mem a (xs ++ ys)
mem_left a [] ys m = elim m [ ]
mem_left a (x ∷ xs) ys (inl e) = inl e
mem_left a (x ∷ xs) ys (inr m) = inr (mem_left a xs ys m)

pub mem_right : {A : Type 0} (a : A) (xs ys : List A) → Mem a ys → Mem a (xs ++ ys)
mem_right a [] ys m = m
mem_right a (x ∷ xs) ys m = inr (mem_right a xs ys m)

pub mem_append : {A : Type 0} (a : A) (xs ys : List A) → Mem a (xs ++ ys) → Mem a xs ⊎ Mem a ys
mem_append a [] ys m = inr m
mem_append a (x ∷ xs) ys (inl e) = inl (inl e)
mem_append a (x ∷ xs) ys (inr m) = elim (mem_append a xs ys m) [ inl p ↦ inl (inr p) | inr p ↦ inr p ]

pub mem_map : {A B : Type 0} (f : A → B) (a : A) (xs : List A) → Mem a xs → Mem (f a) (map f xs)
mem_map f a [] m = elim m [ ]
mem_map f a (x ∷ xs) (inl e) = inl (ap f e)
mem_map f a (x ∷ xs) (inr m) = inr (mem_map f a xs m)

pub map_mem : {A B : Type 0} (f : A → B) (b : B) (xs : List A) → Mem b (map f xs) → (a : A) × Mem a xs × (b ≡ f a)
map_mem f b [] m = elim m [ ]
map_mem f b (x ∷ xs) (inl e) = (x, inl refl, e)
map_mem f b (x ∷ xs) (inr m) = let r = map_mem f b xs m in (r.0, inr r.1, r.2)

pub mem_each : {A B : Type 0} (f : A → List B) (a : A) (b : B) (xs : List A) → Mem a xs → Mem b (f a) → Mem b (each f xs)
mem_each f a b [] m p = elim m [ ]
mem_each f a b (x ∷ xs) (inl e) p = mem_left b (f x) (each f xs) (subst (λ z. Mem b (f z)) e p)
mem_each f a b (x ∷ xs) (inr m) p = mem_right b (f x) (each f xs) (mem_each f a b xs m p)

pub each_mem : {A B : Type 0} (f : A → List B) (b : B) (xs : List A) → Mem b (each f xs) → (a : A) × Mem a xs × Mem b (f a)
each_mem f b [] m = elim m [ ]
each_mem f b (x ∷ xs) m = elim (mem_append b (f x) (each f xs) m) [
  | inl p ↦ (x, inl refl, p)
  | inr p ↦ let r = each_mem f b xs p in (r.0, inr r.1, r.2)
]

pub mem_those : {A : Type 0} (p : A → Bool) (a : A) (xs : List A) → Mem a xs → p a ≡ true → Mem a (those p xs)
mem_those p a [] m t = elim m [ ]
mem_those p a (x ∷ xs) (inl q) t = rw (ap p (sym q) ∙ t) (inl q)
mem_those p a (x ∷ xs) (inr q) t = (elim (p x) as (λ b. Mem a (cond b (x ∷ those p xs) (those p xs)))
    [ true ↦ inr (mem_those p a xs q t) | false ↦ mem_those p a xs q t ])

pub those_mem : {A : Type 0} (p : A → Bool) (a : A) (xs : List A) → Mem a (those p xs) → Mem a xs × (p a ≡ true)
those_mem p a [] m = elim m [ ]
those_mem p a (x ∷ xs) m =
    (elim (p x) as (λ b. p x ≡ b → Mem a (cond b (x ∷ those p xs) (those p xs)) → Mem a (x ∷ xs) × (p a ≡ true)) [
      | true ↦ λ e m'. elim m' [ inl q ↦ (inl q, ap p q ∙ e) | inr q ↦ (inr (those_mem p a xs q).0, (those_mem p a xs q).1) ]
      | false ↦ λ e q. (inr (those_mem p a xs q).0, (those_mem p a xs q).1)
    ]) refl m

-- tests over a list

pub some_from : {A : Type 0} (p : A → Bool) (a : A) (xs : List A) → Mem a xs → p a ≡ true → some_of p xs ≡ true
some_from p a [] m t = elim m [ ]
some_from p a (x ∷ xs) (inl e) t = or_left (p x) (some_of p xs) (ap p (sym e) ∙ t)
some_from p a (x ∷ xs) (inr m) t = or_right (p x) (some_of p xs) (some_from p a xs m t)

-- the first that passes is one that passes
pub first_from : {A : Type 0} (p : A → Bool) (d : A) (xs : List A) → some_of p xs ≡ true
    → Mem (first_of p d xs) xs × (p (first_of p d xs) ≡ true)
first_from p d [] t = absurd (true≢false (sym t))
first_from p d (x ∷ xs) t =
    (elim (p x) as (λ b. p x ≡ b → (b || some_of p xs) ≡ true
    → Mem (cond b x (first_of p d xs)) (x ∷ xs) × (p (cond b x (first_of p d xs)) ≡ true)) [
      | true ↦ λ e t'. (inl refl, e)
      | false ↦ λ e t'. (inr (first_from p d xs t').0, (first_from p d xs t').1)
    ]) refl t

pub some_gives : {A : Type 0} (p : A → Bool) (xs : List A) → some_of p xs ≡ true → (a : A) × Mem a xs × (p a ≡ true)
some_gives p [] t = absurd (true≢false (sym t))
some_gives p (x ∷ xs) t = elim (or_cases (p x) (some_of p xs) t) [
  | inl e ↦ (x, inl refl, e)
  | inr e ↦ ((some_gives p xs e).0, inr (some_gives p xs e).1, (some_gives p xs e).2)
]

-- numbers in order

pub count_up_mem : (a n i : ℕ) → Mem i (count_up a n) → (a ≤ i) × (i < a + n)
count_up_mem a zero i m = elim m [ ]
count_up_mem a (suc n) i (inl e) = (omega arith, omega arith)
count_up_mem a (suc n) i (inr m) = let r = count_up_mem (suc a) n i m in (omega arith, omega arith)

pub mem_count_up : (a n i : ℕ) → a ≤ i → i < a + n → Mem i (count_up a n)
mem_count_up a zero i h k = absurd (omega arith)
mem_count_up a (suc n) i h k = elim (cases_eq i a) [ inl e ↦ inl e | inr ne ↦ inr (mem_count_up (suc a) n i (omega arith) (omega arith)) ]

pub mem_below : (n i : ℕ) → i < n → Mem i (below n)
mem_below n i h = mem_count_up zero n i (omega arith) (omega arith)

pub count_up_distinct : (a n : ℕ) → Distinct (count_up a n)
count_up_distinct a zero = tt
count_up_distinct a (suc n) = (λ m. let r = count_up_mem (suc a) n a m in omega arith, count_up_distinct (suc a) n)

-- lists without repeats

pub distinct_those : {A : Type 0} (p : A → Bool) (xs : List A) → Distinct xs → Distinct (those p xs)
distinct_those p [] d = tt
distinct_those p (x ∷ xs) d = (elim (p x) as (λ b. Distinct (cond b (x ∷ those p xs) (those p xs)))
    [ true ↦ (λ m. d.0 (those_mem p x xs m).0, distinct_those p xs d.1) | false ↦ distinct_those p xs d.1 ])

pub distinct_map : {A B : Type 0} (f : A → B) (xs : List A) → ((a c : A) → f a ≡ f c → a ≡ c) → Distinct xs → Distinct (map f xs)
distinct_map f [] j d = tt
distinct_map f (x ∷ xs) j d =
    (λ m. let r = map_mem f (f x) xs m in d.0 (subst (λ z. Mem z xs) (sym (j x r.0 r.2)) r.1), distinct_map f xs j d.1)

pub distinct_append : {A : Type 0} (xs ys : List A) → Distinct xs → Distinct ys → ((a : A) → Mem a xs → Mem a ys → ⊥) → Distinct (xs ++ ys)
distinct_append [] ys d e h = e
distinct_append (x ∷ xs) ys d e h = (
  λ m. elim (mem_append x xs ys m) [ inl p ↦ d.0 p | inr p ↦ h x (inl refl) p ],
  distinct_append xs ys d.1 e (λ a p q. h a (inr p) q),
)

-- a list made from one without repeats has none, if what is made from an element shows a key of that element
pub distinct_each : {A B K : Type 0} (f : A → List B) (key : B → K) (of : A → K) (xs : List A)
    → Distinct (map of xs) → ((a : A) → Mem a xs → Distinct (f a)) → ((a : A) (b : B) → Mem a xs → Mem b (f a) → key b ≡ of a)
    → Distinct (each f xs)
distinct_each f key of [] d g h = tt
distinct_each f key of (x ∷ xs) d g h =
    distinct_append (f x) (each f xs) (g x (inl refl))
    (distinct_each f key of xs d.1 (λ a m. g a (inr m)) (λ a b m. h a b (inr m)))
    (λ b p q. let r = each_mem f b xs q in
    d.0 (subst (λ k. Mem k (map of xs)) (sym (h r.0 b (inr r.1) r.2) ∙ h x b (inl refl) p) (mem_map of r.0 xs r.1)))

pub map_map : {A B C : Type 0} (g : B → C) (f : A → B) (xs : List A) → map g (map f xs) ≡ map (λ a. g (f a)) xs
map_map g f [] = refl
map_map g f (x ∷ xs) = ap (λ l. g (f x) ∷ l) (map_map g f xs)

pub suc_count_up : (a n : ℕ) → map suc (count_up a n) ≡ count_up (suc a) n
suc_count_up a zero = refl
suc_count_up a (suc n) = ap (λ l. suc a ∷ l) (suc_count_up (suc a) n)

pub length_those : {A : Type 0} (p : A → Bool) (xs : List A) → length (those p xs) ≤ length xs
length_those p [] = omega arith
length_those p (x ∷ xs) = (elim (p x) as (λ b. length (cond b (x ∷ those p xs) (those p xs)) ≤ suc (length xs))
    [ true ↦ let h = length_those p xs in omega arith | false ↦ let h = length_those p xs in omega arith ])

pub those_append : {A : Type 0} (p : A → Bool) (xs ys : List A) → those p (xs ++ ys) ≡ those p xs ++ those p ys
those_append p [] ys = refl
those_append p (x ∷ xs) ys = (elim (p x) as (λ b. cond b (x ∷ those p (xs ++ ys)) (those p (xs ++ ys)) ≡ cond b (x ∷ those p xs) (those p xs) ++ those p ys)
    [ true ↦ ap (λ l. x ∷ l) (those_append p xs ys) | false ↦ those_append p xs ys ])

pub length_count_up : (a n : ℕ) → length (count_up a n) ≡ n
length_count_up a zero = refl
length_count_up a (suc n) = ap suc (length_count_up (suc a) n)

pub cond_yes : (b : Bool) → cond b true false ≡ true → b ≡ true
cond_yes true t = refl
cond_yes false t = t

-- cuts

-- the cut with e before its left part
abbrev pub longer : {E : Type 0} → E → Cut E → Cut E
longer e c = (e ∷ c.0, c.1)

pub cuts_mem : {E : Type 0} (w : List E) (c : Cut E) → Mem c (cuts w)
    → (c.0 ++ c.1 ≡ w) × (0 < length c.0) × (0 < length c.1)
cuts_mem [] c m = elim m [ ]
cuts_mem (e ∷ []) c m = elim m [ ]
cuts_mem (e ∷ f ∷ w) c (inl q) = rw q (refl, omega arith, omega arith)
cuts_mem (e ∷ f ∷ w) c (inr m) =
    let r = map_mem (longer e) c (cuts (f ∷ w)) m in
    let i = cuts_mem (f ∷ w) r.0 r.1 in
    rw r.2 (ap (λ l. e ∷ l) i.0, omega arith, i.2)

pub mem_cuts : {E : Type 0} (u v : List E) → 0 < length u → 0 < length v → Mem (u, v) (cuts (u ++ v))
mem_cuts [] v h k = absurd (omega arith)
mem_cuts (e ∷ []) [] h k = absurd (omega arith)
mem_cuts (e ∷ []) (f ∷ v) h k = inl refl
mem_cuts (e ∷ f ∷ u) v h k = inr (mem_map (longer e) (f ∷ u, v) (cuts (f ∷ (u ++ v))) (mem_cuts (f ∷ u) v (omega arith) k))

pub cut_lengths : {E : Type 0} (e : E) (w : List E) → map (λ (c : Cut E). length c.0) (cuts (e ∷ w)) ≡ count_up 1 (length w)
cut_lengths e [] = refl
cut_lengths e (f ∷ w) = ap (λ l. 1 ∷ l)
    (map_map (λ (c : Cut _). length c.0) (longer e) (cuts (f ∷ w))
    ∙ sym (map_map suc (λ (c : Cut _). length c.0) (cuts (f ∷ w))) ∙ ap (map suc) (cut_lengths f w) ∙ suc_count_up 1 (length w))

pub cuts_distinct : {E : Type 0} (w : List E) → Distinct (map (λ (c : Cut E). length c.0) (cuts w))
cuts_distinct [] = tt
cuts_distinct (e ∷ w) = rw (cut_lengths e w) (count_up_distinct 1 (length w))

-- lists in order

pub sorted_append : {A : Type 0} (R : A → A → Type 0) (xs ys : List A) → Sorted R xs → Sorted R ys → ((a b : A) → Mem a xs → Mem b ys → R a b) → Sorted R (xs ++ ys)
sorted_append R [] ys p q h = q
sorted_append {A} R (x ∷ xs) ys p q h = (first xs ys p.0 (λ b m. h x b (inl refl) m), sorted_append R xs ys p.1 q (λ a b m n. h a b (inr m) n))
  where
    first : (xs ys : List A) → ((b : A) → Mem b xs → R x b) → ((b : A) → Mem b ys → R x b) → (b : A) → Mem b (xs ++ ys) → R x b
    first [] ys f g b m = g b m
    first (z ∷ xs) ys f g b (inl e) = f b (inl e)
    first (z ∷ xs) ys f g b (inr m) = first xs ys (λ c k. f c (inr k)) g b m

pub sorted_each : {A : Type 0} (R : A → A → Type 0) (f : ℕ → List A) (zs : List ℕ) → Sorted ◌<◌ zs → ((z : ℕ) → Sorted R (f z))
    → ((z y : ℕ) (a b : A) → z < y → Mem a (f z) → Mem b (f y) → R a b) → Sorted R (each f zs)
sorted_each R f [] r s h = tt
sorted_each R f (z ∷ zs) r s h = sorted_append R (f z) (each f zs) (s z) (sorted_each R f zs r.1 s h)
    (λ a b m n. let k = each_mem f b zs n in h z k.0 a b (r.0 k.0 k.1) m k.2)

pub rising_up : (a n : ℕ) → Sorted ◌<◌ (count_up a n)
rising_up a zero = tt
rising_up a (suc n) = ((λ m k. (count_up_mem (suc a) n m k).0), rising_up (suc a) n)

pub rising_those : (p : ℕ → Bool) (zs : List ℕ) → Sorted ◌<◌ zs → Sorted ◌<◌ (those p zs)
rising_those p [] r = tt
rising_those p (z ∷ zs) r = (elim (p z) as (λ b. Sorted ◌<◌ (cond b (z ∷ those p zs) (those p zs)))
    [ true ↦ ((λ m k. r.0 m (those_mem p m zs k).0), rising_those p zs r.1) | false ↦ rising_those p zs r.1 ])

pub sorted_left : {A : Type 0} (R : A → A → Type 0) (xs ys : List A) → Sorted R (xs ++ ys) → Sorted R xs
sorted_left R [] ys s = tt
sorted_left R (x ∷ xs) ys s = ((λ b m. s.0 b (mem_left b xs ys m)), sorted_left R xs ys s.1)

-- of what it holds there is but one list in an order that never goes both ways
pub sorted_same : {A : Type 0} (R : A → A → Type 0) → ((a b : A) → R a b → R b a → ⊥) → (xs ys : List A) → Sorted R xs → Sorted R ys
    → ((a : A) → Mem a xs → Mem a ys) → ((a : A) → Mem a ys → Mem a xs) → xs ≡ ys
sorted_same R once [] [] s t f g = refl
sorted_same R once [] (y ∷ ys) s t f g = absurd (g y (inl refl))
sorted_same R once (x ∷ xs) [] s t f g = absurd (f x (inl refl))
sorted_same {A} R once (x ∷ xs) (y ∷ ys) s t f g = ap₂ (λ a l. a ∷ l) same
    (sorted_same R once xs ys s.1 t.1 (λ a m. later x y xs ys s.0 a m (f a (inr m)) same) (λ a m. later y x ys xs t.0 a m (g a (inr m)) (sym same)))
  where
    same : x ≡ y
    same = elim (f x (inl refl)) [ inl e ↦ e | inr m ↦ elim (g y (inl refl)) [ inl e ↦ sym e | inr n ↦ absurd (once x y (s.0 y n) (t.0 x m)) ] ]

    later : (u v : A) (us vs : List A) → ((b : A) → Mem b us → R u b) → (a : A) → Mem a us → Mem a (v ∷ vs) → u ≡ v → Mem a vs
    later u v us vs r a m (inl e) q = absurd (let k = subst (R u) (e ∙ sym q) (r a m) in once u u k k)
    later u v us vs r a m (inr n) q = n
