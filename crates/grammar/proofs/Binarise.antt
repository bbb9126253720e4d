-- The readings of a book and the derivation trees of its binarised rules correspond one to one.
use Rattle.std.proofs.Common.{◌≡◌, ℕ, suc, ◌+◌, ◌<◌, ◌≤◌, Bool, true, false, cond, List, [], ◌∷◌, ◌++◌, length, sym, refl, ap, ◌∙◌, subst, ap₂, inl, inr, append-nil, arith}
use Rattle.std.proofs.lemmas.Bool.{cases_lt}
use Rattle.grammar.specs.Lists.{Mem}
use Rattle.grammar.specs.Binarised.{Right, empty, unit, binary, terminal, Rule, rule, Binarised, Has, Tree, null, over, fork, leaf, Derives, by_empty, by_unit, by_binary, by_terminal}
use Rattle.grammar.specs.Productions.{Book, Numbers, head_of, right_of, first_tail, Sound}
use Rattle.grammar.specs.Readings.{Reading, Parts, node, no_part, event, part, Reads, by_rule, Along, at_end, at_event, at_part}
use Rattle.grammar.specs.Binarise.{binaries, binarise_right, binarised, forks, stand, one_event, binarise, binarise_parts}
use Rattle.grammar.proofs.Short.{binarise_production, shape}
use Rattle.grammar.specs.Promises.{Bijection}
use Rattle.grammar.proofs.BinarisedRules.{binarised_has, terminal_has, one_item_unit, one_item_terminal, item_small, binarised_same, tail_same, head_rule, symbol_rule, right_empty, right_unit, right_terminal, right_binary}

-- every rule of the list is one of these rules
abbrev pub Held : Binarised → List Rule → Type 0
Held B rs = (r : Rule) → Mem r rs → Mem r B.rules

-- one tree for each symbol, and w is their events in order
abbrev pub Line : Binarised → {E : Type 0} → (E → ℕ → Bool) → List ℕ → List Tree → List E → Type 0
Line B fits [] [] w = [] ≡ w
Line B fits [] (t ∷ ts) w = ⊥
Line B fits (y ∷ ys) [] w = ⊥
Line B {E} fits (y ∷ ys) (t ∷ ts) w = (u : List E) × ((v : List E) × Derives B fits y t u × Line B fits ys ts v × (u ++ v ≡ w))

module _ (B : Binarised) {E : Type 0} (fits : E → ℕ → Bool) where
  pub line_binaries : (x n z a b : ℕ) (ys : List ℕ) (s t : Tree) (ts : List Tree) (w : List E) → Line B fits (a ∷ b ∷ ys) (s ∷ t ∷ ts) w
      → Held B (binaries x n z a b ys) → Derives B fits x (forks x n z s t ts) w
  line_binaries x n z a b [] s t [] w l h =
      let k = l.1.2 in
      by_binary (h _ (inl refl)) l.1.1 k.1.1 (ap (λ v. l.0 ++ v) (sym (append-nil k.0) ∙ ap (λ v. k.0 ++ v) k.1.2 ∙ k.1.3) ∙ l.1.3)
  line_binaries x n z a b [] s t (r ∷ ts) w l h = elim l.1.2.1.2 [ ]
  line_binaries x n z a b (c ∷ ys) s t [] w l h = elim l.1.2.1.2 [ ]
  line_binaries x n z a b (c ∷ ys) s t (r ∷ ts) w l h =
      by_binary (h _ (inl refl)) l.1.1 (line_binaries z n (suc z) b c ys t r ts l.1.0 l.1.2 (λ q m. h q (inr m))) l.1.3

-- the binarised forms of the parts for two items and more: two trees and more
pub record Two (W : Book) (a b : ℕ) (ys : List ℕ) (ps : Parts) : Type 0 where
  pub s : Tree
  pub t : Tree
  pub ts : List Tree
  pub are : binarise_parts W (a ∷ b ∷ ys) ps ≡ s ∷ t ∷ ts
  pub more : one_event ps ≡ false
  pub long : length ts ≡ length ys

module _ (W : Book) {E : Type 0} (fits : E → ℕ → Bool) where
  pub parts_length : {ys : List ℕ} {ps : Parts} {w : List E} → Along W fits ys ps w → length (binarise_parts W ys ps) ≡ length ys
  parts_length at_end = refl
  parts_length (at_event q f a) = ap suc (parts_length a)
  parts_length (at_part l d a e) = ap suc (parts_length a)

  pub two : {a b : ℕ} {ys : List ℕ} {ps : Parts} {w : List E} → Along W fits (a ∷ b ∷ ys) ps w → Two W a b ys ps
  two (at_event q f (at_event q' f' a)) = record { s = _; t = _; ts = _; are = refl; more = refl; long = parts_length a }
  two (at_event q f (at_part l' d' a e')) = record { s = _; t = _; ts = _; are = refl; more = refl; long = parts_length a }
  two (at_part l d (at_event q' f' a) e) = record { s = _; t = _; ts = _; are = refl; more = refl; long = parts_length a }
  two (at_part l d (at_part l' d' a e') e) = record { s = _; t = _; ts = _; are = refl; more = refl; long = parts_length a }

  pub two_shape : (x n z : ℕ) {a b : ℕ} {ys : List ℕ} {ps : Parts} → (k : Two W a b ys ps)
      → shape x n z ps (binarise_parts W (a ∷ b ∷ ys) ps) ≡ forks x n z k.s k.t k.ts
  two_shape x n z k = ap₂ (λ o l. cond o (leaf x n) (stand x n z l)) k.more k.are

-- the symbols are heads and patterns of the book
abbrev pub Items : Book → List ℕ → Type 0
Items W ys = (y : ℕ) → Mem y ys → y < 32 + W.patterns

-- a reading from x over w whose binarised form is s
abbrev pub Back : Book → {E : Type 0} → (E → ℕ → Bool) → ℕ → Tree → List E → Type 0
Back W fits x s w = (r : Reading) × Reads W fits x r w × (binarise W r ≡ s)

-- parts for two items and more over w, and s is the binary rules over their binarised forms
pub record Row (W : Book) {E : Type 0} (fits : E → ℕ → Bool) (x n z a b : ℕ) (ys : List ℕ) (s : Tree) (w : List E) : Type 0 where
  pub ps : Parts
  pub first : Tree
  pub second : Tree
  pub rest : List Tree
  pub along : Along W fits (a ∷ b ∷ ys) ps w
  pub are : binarise_parts W (a ∷ b ∷ ys) ps ≡ first ∷ second ∷ rest
  pub makes : forks x n z first second rest ≡ s

-- the parts for ys, and before them one for y with the binarised form s
pub record More (W : Book) {E : Type 0} (fits : E → ℕ → Bool) (y : ℕ) (ys : List ℕ) (ps : Parts) (s : Tree) (w : List E) : Type 0 where
  pub qs : Parts
  pub along : Along W fits (y ∷ ys) qs w
  pub are : binarise_parts W (y ∷ ys) qs ≡ s ∷ binarise_parts W ys ps

-- what a tree from x over w comes from, by what the symbol x is
pub record Whole (W : Book) {E : Type 0} (fits : E → ℕ → Bool) (x : ℕ) (s : Tree) (w : List E) : Type 0 where
  pub at_head : x < 32 → Back W fits x s w
  pub at_symbol : 32 ≤ x → x < 64 → (e : E) × ((t : ℕ) × (x ≡ 32 + t) × (fits e t ≡ true) × (e ∷ [] ≡ w) × (leaf x 255 ≡ s))
  pub at_tail : 64 ≤ x → (n z a b : ℕ) (ys : List ℕ) → 64 ≤ z → Items W (a ∷ b ∷ ys) → Held (binarised W) (binaries x n z a b ys) → Row W fits x n z a b ys s w

module _ (W : Book) (S : Sound W) {E : Type 0} (fits : E → ℕ → Bool) where
  abbrev B : Binarised
  B = binarised W

  -- from readings to trees

  stood : (x n z : ℕ) (ys : List ℕ) {ps : Parts} {w : List E} → Along W fits ys ps w → Line B fits ys (binarise_parts W ys ps) w
      → Held B (binarise_right x n z ys) → Derives B fits x (shape x n z ps (binarise_parts W ys ps)) w
  stood x n z [] at_end l h = by_empty (h _ (inl refl))
  stood x n z (y ∷ []) (at_event {t = t} q f at_end) l h = by_terminal {p = t} (subst (Has B x n) (one_item_terminal y t q) (h _ (inl refl))) f
  stood x n z (y ∷ []) (at_part s d at_end e) l h =
      by_unit (subst (Has B x n) (one_item_unit y s) (h _ (inl refl))) (subst (Derives B fits y _) (sym (append-nil l.0) ∙ ap (λ v. l.0 ++ v) l.1.2 ∙ l.1.3) l.1.1)
  stood x n z (a ∷ b ∷ ys) {ps} {w} p l h =
      let k = two W fits p in
      subst (λ s. Derives B fits x s w) (sym (two_shape W fits x n z k))
      (line_binaries B fits x n z a b ys k.s k.t k.ts w (subst (λ ts. Line B fits (a ∷ b ∷ ys) ts w) k.are l) h)

  mutual
    -- the binarised form of a reading is a tree of binarised rules, from the same head and over the same events
    pub binarised_derives : {x : ℕ} {r : Reading} {w : List E} → Reads W fits x r w → Derives B fits x (binarise W r) w
    binarised_derives (by_rule {n = n} {ps = ps} {w = w} m h a) =
        subst (λ x. Derives B fits x (binarise W (node n ps)) w) h
        (stood (head_of W n) n (first_tail W n) (right_of W n) a (lined a (λ y i. item_small W S n y m i)) (λ r i. binarised_has W n r m i))

    lined : {ys : List ℕ} {ps : Parts} {w : List E} → Along W fits ys ps w → ((y : ℕ) → Mem y ys → y < 32 + W.patterns)
        → Line B fits ys (binarise_parts W ys ps) w
    lined at_end h = refl
    lined (at_event {y = y} {t = t} {e = e} {w = w} q f a) h = (
      e ∷ [],
      (
        w,
        by_terminal {p = t} (subst (λ k. Has B k 255 (terminal t)) (sym q) (terminal_has W t (let g = h y (inl refl) in omega arith))) f,
        lined a (λ k i. h k (inr i)),
        refl,
      ),
    )
    lined (at_part {u = u} {v = v} l d a e) h = (u, (v, binarised_derives d, lined a (λ k i. h k (inr i)), e))

  -- from trees to readings

  -- one more item, and the tree from it
  one_more : (y : ℕ) (s : Tree) (u v w : List E) (ys : List ℕ) (ps : Parts) → y < 32 + W.patterns → Whole W fits y s u → Along W fits ys ps v → u ++ v ≡ w
      → More W fits y ys ps s w
  one_more y s u v w ys ps h k a e = elim (cases_lt y 32) [
    | inl l ↦ let j = k.at_head l in
        record { qs = part j.0 ps; along = at_part l j.1 a e; are = ap (λ t. t ∷ binarise_parts W ys ps) j.2 }
    | inr l ↦ let j = k.at_symbol l (let g = S.few_patterns in omega arith) in record {
      qs = event ps;
      along = subst (Along W fits (y ∷ ys) (event ps)) (ap (λ p. p ++ v) j.1.3 ∙ e) (at_event j.1.1 j.1.2 a);
      are = ap (λ t. t ∷ binarise_parts W ys ps) j.1.4;
    }
  ]

  row_last : (x n z a b : ℕ) {s t : Tree} {v w : List E} (f : More W fits b [] no_part t v) → More W fits a (b ∷ []) f.qs s w
      → Row W fits x n z a b [] (fork x n s t) w
  row_last x n z a b {s} {t} f g =
      record { ps = g.qs; first = s; second = t; rest = []; along = g.along; are = g.are ∙ ap (λ ts. s ∷ ts) f.are; makes = refl }

  row_on : (x n z a b c : ℕ) (ys : List ℕ) {s t : Tree} {v w : List E} (f : Row W fits z n (suc z) b c ys t v) → More W fits a (b ∷ c ∷ ys) f.ps s w
      → Row W fits x n z a b (c ∷ ys) (fork x n s t) w
  row_on x n z a b c ys {s} f g = record {
    ps = g.qs;
    first = s;
    second = f.first;
    rest = f.second ∷ f.rest;
    along = g.along;
    are = g.are ∙ ap (λ ts. s ∷ ts) f.are;
    makes = ap (fork x n s) f.makes;
  }

  -- a binary rule's two trees make up the parts for two items and more
  row : (x n z a b : ℕ) (ys : List ℕ) {c d : ℕ} {s t : Tree} {u v w : List E} → 64 ≤ z → Items W (a ∷ b ∷ ys) → Held B (binaries x n z a b ys)
      → Has B x n (binary c d) → Whole W fits c s u → Whole W fits d t v → u ++ v ≡ w → Row W fits x n z a b ys (fork x n s t) w
  row x n z a b [] {c} {d} {s} {t} {u} {v} {w} l i h p j k e =
      let q : binary c d ≡ binary a b = binarised_same W S x n (binary c d) (binary a b) p (h _ (inl refl)) in
      let qa : c ≡ a = cc in
      let qb : d ≡ b = cc in
      let f = one_more b t v [] v [] no_part (i b (inr (inl refl))) (subst (λ y. Whole W fits y t v) qb k) at_end (append-nil v) in
      row_last x n z a b f (one_more a s u v w (b ∷ []) f.qs (i a (inl refl)) (subst (λ y. Whole W fits y s u) qa j) f.along e)
  row x n z a b (o ∷ ys) {c} {d} {s} {t} {u} {v} {w} l i h p j k e =
      let q : binary c d ≡ binary a z = binarised_same W S x n (binary c d) (binary a z) p (h _ (inl refl)) in
      let qa : c ≡ a = cc in
      let qz : d ≡ z = cc in
      let f = (subst (λ y. Whole W fits y t v) qz k).at_tail l n (suc z) b o ys (omega arith) (λ y m. i y (inr m)) (λ r m. h r (inr m)) in
      row_on x n z a b o ys f (one_more a s u v w (b ∷ o ∷ ys) f.ps (i a (inl refl)) (subst (λ y. Whole W fits y s u) qa j) f.along e)

  -- the first of the binary rules is a rule of x
  first_binary : (x n z a b : ℕ) (ys : List ℕ) → (c : ℕ) × Mem (rule x n (binary a c)) (binaries x n z a b ys)
  first_binary x n z a b [] = (b, inl refl)
  first_binary x n z a b (c ∷ ys) = (z, inl refl)

  -- a tail has no rule but the binary rule that it stands for
  tail_binary : (x m n z a b : ℕ) (ys : List ℕ) (c : Right) → 64 ≤ x → Has B x m c → Held B (binaries x n z a b ys) → (m ≡ n) × ((d : ℕ) × (c ≡ binary a d))
  tail_binary x m n z a b ys c l p h =
      let f = first_binary x n z a b ys in
      let e = tail_same W S x m n c (binary a f.0) l p (h _ f.1) in
      (e.0, (f.0, e.1))

  made : (x n : ℕ) (ys : List ℕ) (ps : Parts) (w : List E) (s : Tree) → Numbers W n → head_of W n ≡ x → right_of W n ≡ ys → Along W fits ys ps w
      → shape x n (first_tail W n) ps (binarise_parts W ys ps) ≡ s → Back W fits x s w
  made x n ys ps w s m h e a q = (
    node n ps,
    by_rule m h (subst (λ l. Along W fits l ps w) (sym e) a),
    ap₂ (λ y l. shape y n (first_tail W n) ps (binarise_parts W l ps)) h e ∙ q,
  )

  from_row : (x n a b : ℕ) (ys : List ℕ) {s : Tree} {w : List E} → Numbers W n → head_of W n ≡ x → right_of W n ≡ a ∷ b ∷ ys
      → Row W fits x n (first_tail W n) a b ys s w → Back W fits x s w
  from_row x n a b ys {s} {w} m h c f = made x n (a ∷ b ∷ ys) f.ps w s m h c f.along
      (ap₂ (λ o l. cond o (leaf x n) (stand x n (first_tail W n) l)) (two W fits f.along).more f.are ∙ f.makes)

  pub whole : {x : ℕ} {s : Tree} {w : List E} → Derives B fits x s w → Whole W fits x s w
  whole (by_empty {x = x} {n = n} h) = record {
    at_head = λ l. let k = head_rule W S x n empty l h in
        made x n [] no_part [] (null x n) k.0 k.1 (right_empty _ n _ (right_of W n) (rule x n empty) k.2 refl) at_end refl;
    at_symbol = λ l g. let k = symbol_rule W S x n empty l g h in let f : empty ≡ terminal k.1.0 = k.1.2 in let z : ◌≡◌ {A = ℕ} 0 1 = cc in absurd (omega arith);
    at_tail = λ l m z a b ys g i q. let k = tail_binary x n m z a b ys empty l h q in let f : empty ≡ binary a k.1.0 = k.1.1 in let c : ◌≡◌ {A = ℕ} 0 1 = cc in absurd (omega arith);
  }
  whole (by_unit {x = x} {n = n} {y = y} {s = s} {w = w} h d) =
      let ih = whole d in record {
        at_head = λ l. let k = head_rule W S x n (unit y) l h in
            let e = right_unit _ n _ y (right_of W n) (rule x n (unit y)) k.2 refl in
            let j = ih.at_head e.1 in
            made x n (y ∷ []) (part j.0 no_part) w (over x n s) k.0 k.1 e.0 (at_part e.1 j.1 at_end (append-nil w)) (ap (over x n) j.2);
        at_symbol = λ l g. let k = symbol_rule W S x n (unit y) l g h in let f : unit y ≡ terminal k.1.0 = k.1.2 in let z : ◌≡◌ {A = ℕ} 0 1 = cc in absurd (omega arith);
        at_tail = λ l m z a b ys g i q. let k = tail_binary x n m z a b ys (unit y) l h q in let f : unit y ≡ binary a k.1.0 = k.1.1 in let c : ◌≡◌ {A = ℕ} 0 1 = cc in absurd (omega arith);
      }
  whole (by_binary {x = x} {n = n} {y = y} {z = o} {s = s} {t = t} {w = w} h d d' e) =
      let ih = whole d in let ih' = whole d' in record {
        at_head = λ l. let k = head_rule W S x n (binary y o) l h in
            let j = right_binary _ n _ y o (right_of W n) (rule x n (binary y o)) k.2 refl in
            let a = j.0 in let b = j.1.0 in let ys = j.1.1.0 in
            let c : right_of W n ≡ a ∷ b ∷ ys = j.1.1.1 in
            let same : binarise_production W n ≡ binaries x n (first_tail W n) a b ys = ap₂ (λ v r. binarise_right v n (first_tail W n) r) k.1 c in
            from_row x n a b ys k.0 k.1 c (row x n (first_tail W n) a b ys (omega arith)
            (λ v m. item_small W S n v k.0 (subst (Mem v) (sym c) m))
            (λ r m. binarised_has W n r k.0 (subst (Mem r) (sym same) m)) h ih ih' e);
        at_symbol = λ l g. let k = symbol_rule W S x n (binary y o) l g h in let f : binary y o ≡ terminal k.1.0 = k.1.2 in let z : ◌≡◌ {A = ℕ} 0 1 = cc in absurd (omega arith);
        at_tail = λ l m z a b ys g i q. let k = tail_binary x n m z a b ys (binary y o) l h q in
            subst (λ r. Row W fits x m z a b ys (fork x r s t) w) (sym k.0)
            (row x m z a b ys g i q (subst (λ r. Has B x r (binary y o)) k.0 h) ih ih' e);
      }
  whole (by_terminal {x = x} {n = n} {p = p} {e = e} h f) = record {
    at_head = λ l. let k = head_rule W S x n (terminal p) l h in
        made x n ((32 + p) ∷ []) (event no_part) (e ∷ []) (leaf x n) k.0 k.1 (right_terminal _ n _ p (right_of W n) (rule x n (terminal p)) k.2 refl)
        (at_event refl f at_end) refl;
    at_symbol = λ l g. let k = symbol_rule W S x n (terminal p) l g h in
        let c : terminal p ≡ terminal k.1.0 = k.1.2 in let i : p ≡ k.1.0 = cc in
        (e, (k.1.0, k.1.1, subst (λ t. fits e t ≡ true) i f, refl, ap (leaf x) (sym k.0)));
    at_tail = λ l m z a b ys g i q. let k = tail_binary x n m z a b ys (terminal p) l h q in let j : terminal p ≡ binary a k.1.0 = k.1.1 in let c : ◌≡◌ {A = ℕ} 0 1 = cc in absurd (omega arith);
  }

  -- every tree of binarised rules from a head is the binarised form of a reading from it over the same events
  pub binarised_back : {x : ℕ} {s : Tree} {w : List E} → x < 32 → Derives B fits x s w → (r : Reading) × Reads W fits x r w × (binarise W r ≡ s)
  binarised_back l d = (whole d).at_head l

-- no two readings have one binarised form

abbrev pub number_of : Tree → ℕ
number_of (null x n) = n
number_of (over x n s) = n
number_of (fork x n s t) = n
number_of (leaf x n) = n

forks_number : (x n z : ℕ) (s t : Tree) (ts : List Tree) → number_of (forks x n z s t ts) ≡ n
forks_number x n z s t [] = refl
forks_number x n z s t (u ∷ us) = refl

stand_number : (x n z : ℕ) (ts : List Tree) → number_of (stand x n z ts) ≡ n
stand_number x n z [] = refl
stand_number x n z (s ∷ []) = refl
stand_number x n z (s ∷ t ∷ ts) = forks_number x n z s t ts

pub shape_number : (x n z : ℕ) (ps : Parts) (ts : List Tree) → number_of (shape x n z ps ts) ≡ n
shape_number x n z ps ts = elim (one_event ps) as (λ o. number_of (cond o (leaf x n) (stand x n z ts)) ≡ n) [ true ↦ refl | false ↦ stand_number x n z ts ]

forks_same : (x n z : ℕ) (s t s' t' : Tree) (ts ts' : List Tree) → length ts ≡ length ts' → forks x n z s t ts ≡ forks x n z s' t' ts'
    → ◌≡◌ {A = List Tree} (s ∷ t ∷ ts) (s' ∷ t' ∷ ts')
forks_same x n z s t s' t' [] [] l e = let p : s ≡ s' = cc in let q : t ≡ t' = cc in ap₂ (λ u v. u ∷ v ∷ []) p q
forks_same x n z s t s' t' [] (u' ∷ us') l e = absurd (omega arith)
forks_same x n z s t s' t' (u ∷ us) [] l e = absurd (omega arith)
forks_same x n z s t s' t' (u ∷ us) (u' ∷ us') l e =
    let p : s ≡ s' = cc in
    let q : forks z n (suc z) t u us ≡ forks z n (suc z) t' u' us' = cc in
    ap₂ (λ v vs. v ∷ vs) p (forks_same z n (suc z) t u t' u' us us' (omega arith) q)

module _ (W : Book) {E : Type 0} (fits : E → ℕ → Bool) where
  shape_same : (x n z : ℕ) (ys : List ℕ) {ps ps' : Parts} {w w' : List E} → Along W fits ys ps w → Along W fits ys ps' w'
      → shape x n z ps (binarise_parts W ys ps) ≡ shape x n z ps' (binarise_parts W ys ps') → binarise_parts W ys ps ≡ binarise_parts W ys ps'
  shape_same x n z [] at_end at_end e = refl
  shape_same x n z (y ∷ []) (at_event q f at_end) (at_event q' f' at_end) e = refl
  shape_same x n z (y ∷ []) (at_event q f at_end) (at_part l d at_end c) e = absurd (omega arith)
  shape_same x n z (y ∷ []) (at_part l d at_end c) (at_event q f at_end) e = absurd (omega arith)
  shape_same x n z (y ∷ []) (at_part {r = r} l d at_end c) (at_part {r = r'} l' d' at_end c') e =
      let p : binarise W r ≡ binarise W r' = cc in ap (λ s. s ∷ []) p
  shape_same x n z (a ∷ b ∷ ys) p p' e =
      let k = two W fits p in let k' = two W fits p' in
      let l : length k.ts ≡ length k'.ts = k.long ∙ sym k'.long in
      k.are ∙ forks_same x n z k.s k.t k'.s k'.t k.ts k'.ts l (sym (two_shape W fits x n z k) ∙ e ∙ two_shape W fits x n z k') ∙ sym k'.are

  mutual
    pub binarised_injective : {x x' : ℕ} {r r' : Reading} {w w' : List E} → Reads W fits x r w → Reads W fits x' r' w' → binarise W r ≡ binarise W r' → r ≡ r'
    binarised_injective (by_rule {n = n} {ps = ps} m h a) (by_rule {n = n'} {ps = ps'} {w = w'} m' h' a') e =
        let z = first_tail W n in
        let i : n ≡ n' = sym (shape_number (head_of W n) n z ps (binarise_parts W (right_of W n) ps)) ∙ ap number_of e
        ∙ shape_number (head_of W n') n' (first_tail W n') ps' (binarise_parts W (right_of W n') ps') in
        let a'' : Along W fits (right_of W n) ps' w' = subst (λ k. Along W fits (right_of W k) ps' w') (sym i) a' in
        let f : binarise W (node n ps) ≡ binarise W (node n ps') = e ∙ ap (λ k. binarise W (node k ps')) (sym i) in
        ap₂ node i (parts_injective a a'' (shape_same (head_of W n) n z (right_of W n) a a'' f))

    pub parts_injective : {ys : List ℕ} {ps ps' : Parts} {w w' : List E} → Along W fits ys ps w → Along W fits ys ps' w'
        → binarise_parts W ys ps ≡ binarise_parts W ys ps' → ps ≡ ps'
    parts_injective at_end at_end e = refl
    parts_injective {ys = y ∷ ys} (at_event {ps = ps} q f a) (at_event {ps = ps'} q' f' a') e =
        ap event (parts_injective a a' (let p : binarise_parts W ys ps ≡ binarise_parts W ys ps' = cc in p))
    parts_injective (at_event q f a) (at_part s d a' c) e = absurd (omega arith)
    parts_injective (at_part s d a c) (at_event q f a') e = absurd (omega arith)
    parts_injective {ys = y ∷ ys} (at_part {r = r} {ps = ps} s d a c) (at_part {r = r'} {ps = ps'} s' d' a' c') e =
        ap₂ part (binarised_injective d d' (let p : binarise W r ≡ binarise W r' = cc in p))
        (parts_injective a a' (let p : binarise_parts W ys ps ≡ binarise_parts W ys ps' = cc in p))

-- readings and derivation trees of binarised rules are one to one
pub one_to_one : (E : Type 0) (W : Book) → Sound W → (fits : E → ℕ → Bool) (x : ℕ) (w : List E) → x < 32 → Bijection W fits x w
one_to_one E W S fits x w l = record {
  derives = λ r d. binarised_derives W S fits d;
  onto = λ s d. binarised_back W S fits l d;
  into = λ r q d e i. binarised_injective W fits d e i;
}
