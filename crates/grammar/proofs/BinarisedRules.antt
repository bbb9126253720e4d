-- The binarised rules of a book: which they are, their symbols, and their order.
use Rattle.std.proofs.Common.{◌≡◌, ℕ, zero, suc, ◌+◌, ◌-◌, ◌<◌, ◌≤◌, true, false, cond, eqb, ◌⊎◌, List, [], ◌∷◌, ◌++◌, map, length, get_or, sym, refl, ap, ◌∙◌, subst, inl, inr, arith}
use Rattle.std.proofs.lemmas.Bool.{cases_lt, cases_order, lt-ltb, le-ltb, eqb-true}
use Rattle.grammar.specs.Lists.{Mem, Distinct, each, below, count_up}
use Rattle.grammar.specs.Binarised.{Right, empty, unit, binary, terminal, Rule, rule, Has, OwnRule, rules_in, rules_of, Bounded}
use Rattle.grammar.proofs.Short.{Numbered, Proper, binarise_production, terminal_rule, Rising}
use Rattle.grammar.specs.Productions.{Production, cost_of, all_tails, Book, Numbers, production, head_of, right_of, tails, first_tail, Sound, ProperBook}
use Rattle.grammar.specs.Binarise.{one_item, binaries, binarise_right, binarised, Within}
use Rattle.grammar.proofs.Nullable.{rules_in_mem}
use Rattle.grammar.proofs.Tails.{tails_within, tails_upto}
use Rattle.grammar.proofs.Lists.{mem_left, mem_right, mem_append, mem_map, map_mem, mem_each, each_mem, mem_below, count_up_mem}

pub get_d_mem : {A : Type 0} (xs : List A) (n : ℕ) (d : A) → n < length xs → Mem (get_or xs n d) xs
get_d_mem [] n d h = absurd (omega arith)
get_d_mem (x ∷ xs) zero d h = inl refl
get_d_mem (x ∷ xs) (suc n) d h = inr (get_d_mem xs n d (omega arith))

-- production n is one of the book's
pub production_mem : (W : Book) (n : ℕ) → Numbers W n → Mem (production W n) W.productions
unfolding production
production_mem W n h = get_d_mem W.productions n _ h

get_d_all : {A : Type 0} (P : A → Type 0) (xs : List A) (n : ℕ) (d : A) → P d → ((a : A) → Mem a xs → P a) → P (get_or xs n d)
get_d_all P [] n d p h = p
get_d_all P (x ∷ xs) zero d p h = h x (inl refl)
get_d_all P (x ∷ xs) (suc n) d p h = get_d_all P xs n d p (λ a m. h a (inr m))

-- no production costs more than 65,535
pub cost_small : (W : Book) → Sound W → (n : ℕ) → cost_of W n ≤ 65535
unfolding production
cost_small W S n = get_d_all (λ (p : Production). p.cost ≤ 65535) W.productions n _ (omega arith) S.cheap

-- which the binarised rules are

pub binarised_has : (W : Book) (n : ℕ) (r : Rule) → Numbers W n → Mem r (binarise_production W n) → Mem r (binarised W).rules
unfolding binarised
binarised_has W n r h m = mem_left r _ _ (mem_each (binarise_production W) n r _ (mem_below _ n h) m)

pub terminal_has : (W : Book) (t : ℕ) → t < W.patterns → Has (binarised W) (32 + t) 255 (terminal t)
unfolding binarised
terminal_has W t h = mem_right (terminal_rule t) (each (binarise_production W) _) _ (mem_map terminal_rule t _ (mem_below _ t h))

abbrev pub FromRule : Book → Rule → Type 0
FromRule W r = (n : ℕ) × Numbers W n × Mem r (binarise_production W n)

abbrev pub FromTerminal : Book → Rule → Type 0
FromTerminal W r = (t : ℕ) × (t < W.patterns) × (r ≡ terminal_rule t)

pub binarised_mem : (W : Book) (r : Rule) → Mem r (binarised W).rules → FromRule W r ⊎ FromTerminal W r
unfolding binarised
binarised_mem W r m = elim (mem_append r (each (binarise_production W) (below (length W.productions))) (map terminal_rule (below W.patterns)) m) [
  | inl p ↦ let k = each_mem (binarise_production W) r (below (length W.productions)) p in
      inl (k.0, omega (arith, count_up_mem zero (length W.productions) k.0 k.1), k.2)
  | inr p ↦ let k = map_mem terminal_rule r (below W.patterns) p in
      inr (k.0, omega (arith, count_up_mem zero W.patterns k.0 k.1), k.2)
]

-- the binarised rules of one production

pub binaries_number : (x n z a b : ℕ) (ys : List ℕ) (r : Rule) → Mem r (binaries x n z a b ys) → r.number ≡ n
binaries_number x n z a b [] r (inl e) = ap (λ q. q.number) e
binaries_number x n z a b [] r (inr m) = elim m [ ]
binaries_number x n z a b (c ∷ ys) r (inl e) = ap (λ q. q.number) e
binaries_number x n z a b (c ∷ ys) r (inr m) = binaries_number z n (suc z) b c ys r m

pub right_number : (x n z : ℕ) (ys : List ℕ) (r : Rule) → Mem r (binarise_right x n z ys) → r.number ≡ n
right_number x n z [] r (inl e) = ap (λ q. q.number) e
right_number x n z [] r (inr m) = elim m [ ]
right_number x n z (a ∷ []) r (inl e) = ap (λ q. q.number) e
right_number x n z (a ∷ []) r (inr m) = elim m [ ]
right_number x n z (a ∷ b ∷ ys) r m = binaries_number x n z a b ys r m

-- r is a rule of x, or of one of the k symbols from z on
abbrev pub Stands : ℕ → ℕ → ℕ → Rule → Type 0
Stands x z k r = (r.left ≡ x) ⊎ ((z ≤ r.left) × (r.left < z + k))

pub binaries_left : (x n z a b : ℕ) (ys : List ℕ) (r : Rule) → Mem r (binaries x n z a b ys) → Stands x z (length ys) r
binaries_left x n z a b [] r (inl e) = inl (ap (λ q. q.left) e)
binaries_left x n z a b [] r (inr m) = elim m [ ]
binaries_left x n z a b (c ∷ ys) r (inl e) = inl (ap (λ q. q.left) e)
binaries_left x n z a b (c ∷ ys) r (inr m) = inr (elim (binaries_left z n (suc z) b c ys r m)
    [ inl e ↦ (omega arith, omega arith) | inr p ↦ (omega arith, omega arith) ])

pub right_left : (x n z : ℕ) (ys : List ℕ) (r : Rule) → Mem r (binarise_right x n z ys) → Stands x z (tails ys) r
right_left x n z [] r (inl e) = inl (ap (λ q. q.left) e)
right_left x n z [] r (inr m) = elim m [ ]
right_left x n z (a ∷ []) r (inl e) = inl (ap (λ q. q.left) e)
right_left x n z (a ∷ []) r (inr m) = elim m [ ]
right_left x n z (a ∷ b ∷ ys) r m = binaries_left x n z a b ys r m

pub binaries_rising : (x n z a b : ℕ) (ys : List ℕ) → x < z → Rising (binaries x n z a b ys)
binaries_rising x n z a b [] h = (λ q m e. elim m [ ], tt)
binaries_rising x n z a b (c ∷ ys) h = (
  λ q m e. absurd (elim (binaries_left z n (suc z) b c ys q m) [ inl i ↦ omega arith | inr p ↦ omega arith ]),
  binaries_rising z n (suc z) b c ys (omega arith),
)

pub right_rising : (x n z : ℕ) (ys : List ℕ) → x < z → Rising (binarise_right x n z ys)
right_rising x n z [] h = (λ q m e. elim m [ ], tt)
right_rising x n z (a ∷ []) h = (λ q m e. elim m [ ], tt)
right_rising x n z (a ∷ b ∷ ys) h = binaries_rising x n z a b ys h

-- rising lists

pub rising_append : (rs qs : List Rule) → Rising rs → Rising qs
    → ((r q : Rule) → Mem r rs → Mem q qs → q.left ≡ r.left → r.number < q.number) → Rising (rs ++ qs)
rising_append [] qs p k h = k
rising_append (r ∷ rs) qs p k h = (
  λ q m e. elim (mem_append q rs qs m) [ inl i ↦ p.0 q i e | inr i ↦ h r q (inl refl) i e ],
  rising_append rs qs p.1 k (λ s q m i e. h s q (inr m) i e),
)

-- in a rising list the symbol and the number determine the rule
pub rising_same : (rs : List Rule) → Rising rs → (r q : Rule) → Mem r rs → Mem q rs → r.left ≡ q.left → r.number ≡ q.number → r ≡ q
rising_same [] p r q m i e f = elim m [ ]
rising_same (s ∷ rs) p r q (inl m) (inl i) e f = m ∙ sym i
rising_same (s ∷ rs) p r q (inl m) (inr i) e f =
    absurd (let l = p.0 q i (sym e ∙ ap (λ k. k.left) m) in let g = ap (λ (k : Rule). k.number) m in omega arith)
rising_same (s ∷ rs) p r q (inr m) (inl i) e f =
    absurd (let l = p.0 r m (e ∙ ap (λ k. k.left) i) in let g = ap (λ (k : Rule). k.number) i in omega arith)
rising_same (s ∷ rs) p r q (inr m) (inr i) e f = rising_same rs p.1 r q m i e f

pub rising_each : (f : ℕ → List Rule) (a k : ℕ) → ((n : ℕ) → n < a + k → Rising (f n)) → ((n : ℕ) (r : Rule) → Mem r (f n) → r.number ≡ n)
    → Rising (each f (count_up a k))
rising_each f a zero h g = tt
rising_each f a (suc k) h g = rising_append (f a) (each f (count_up (suc a) k)) (h a (omega arith))
    (rising_each f (suc a) k (λ n l. h n (omega arith)) g)
    (λ r q m i e. let j = each_mem f q (count_up (suc a) k) i in
    omega (arith, g a r m, g j.0 q j.2, count_up_mem (suc a) k j.0 j.1))

pub rising_terminals : (a k : ℕ) → Rising (map terminal_rule (count_up a k))
rising_terminals a zero = tt
rising_terminals a (suc k) = (
  λ q m e. absurd (let j = map_mem terminal_rule q (count_up (suc a) k) m in
      omega (arith, ap (λ (s : Rule). s.left) j.2, count_up_mem (suc a) k j.0 j.1)),
  rising_terminals (suc a) k,
)

module _ (W : Book) (S : Sound W) where
  pub head_small : (n : ℕ) → Numbers W n → head_of W n < 32
  head_small n h = S.heads (production W n) (production_mem W n h)

  pub item_small : (n y : ℕ) → Numbers W n → Mem y (right_of W n) → y < 32 + W.patterns
  item_small n y h m = S.items (production W n) y (production_mem W n h) m

  -- a rule of a tail is one of the production that takes the tail
  pub stands : (n : ℕ) (r : Rule) → Mem r (binarise_production W n) → Stands (head_of W n) (first_tail W n) (tails (right_of W n)) r
  stands n r m = right_left (head_of W n) n (first_tail W n) (right_of W n) r m

  -- the rules of one symbol are in order of number
  pub binarised_rising : Rising (binarised W).rules
  unfolding binarised
  binarised_rising = rising_append (each (binarise_production W) (below (length W.productions))) (map terminal_rule (below W.patterns))
      (rising_each' (length W.productions) (λ n l. l)) (rising_terminals zero W.patterns) apart
    where
      rising_each' : (k : ℕ) → ((n : ℕ) → n < k → Numbers W n) → Rising (each (binarise_production W) (below k))
      rising_each' k h = rising_each (binarise_production W) zero k
          (λ n l. right_rising (head_of W n) n (first_tail W n) (right_of W n) (let b = head_small n (h n (omega arith)) in omega arith))
          (λ n r m. right_number (head_of W n) n (first_tail W n) (right_of W n) r m)

      apart : (r q : Rule) → Mem r (each (binarise_production W) (below (length W.productions))) → Mem q (map terminal_rule (below W.patterns))
          → q.left ≡ r.left → r.number < q.number
      apart r q m i e =
          let j = each_mem (binarise_production W) r (below (length W.productions)) m in
          let k = map_mem terminal_rule q (below W.patterns) i in
          let u = count_up_mem zero (length W.productions) j.0 j.1 in
          let v = right_number (head_of W j.0) j.0 (first_tail W j.0) (right_of W j.0) r j.2 in
          let f = S.few_rules in
          let g : q.number ≡ 255 = ap (λ (s : Rule). s.number) k.2 in
          omega arith

  -- the symbol and the number determine the binarised rule
  pub binarised_same : (x n : ℕ) (b c : Right) → Has (binarised W) x n b → Has (binarised W) x n c → b ≡ c
  binarised_same x n b c h k = ap (λ r. r.right) (rising_same (binarised W).rules binarised_rising (rule x n b) (rule x n c) h k refl refl)

  -- every left side is one of the symbols
  pub binarised_bounded : Bounded (binarised W)
  unfolding binarised
  binarised_bounded r m = elim (binarised_mem W r m) [
    | inl k ↦ elim (stands k.0 r k.2)
        [ inl e ↦ omega (arith, head_small k.0 k.1) | inr e ↦ omega (arith, tails_within W k.0 k.1) ]
    | inr k ↦ omega (arith, ap (λ (s : Rule). s.left) k.2, k.1, S.few_patterns)
  ]

  -- all rules of a tail have the same number
  pub tail_number : (r q : Rule) → Mem r (binarised W).rules → Mem q (binarised W).rules → r.left ≡ q.left → 64 ≤ r.left → r.number ≡ q.number
  tail_number r q m i e h = elim (binarised_mem W r m) [
    | inl k ↦ elim (binarised_mem W q i) [
      | inl j ↦ right_number _ k.0 _ (right_of W k.0) r k.2
          ∙ same k.0 j.0 k.1 j.1 (stands k.0 r k.2) (stands j.0 q j.2)
          ∙ sym (right_number _ j.0 _ (right_of W j.0) q j.2)
      | inr j ↦ absurd (omega (arith, ap (λ (s : Rule). s.left) j.2, j.1, S.few_patterns))
    ]
    | inr k ↦ absurd (omega (arith, ap (λ (s : Rule). s.left) k.2, k.1, S.few_patterns))
  ]
    where
      same : (a b : ℕ) → Numbers W a → Numbers W b → Stands (head_of W a) (first_tail W a) (tails (right_of W a)) r
          → Stands (head_of W b) (first_tail W b) (tails (right_of W b)) q → a ≡ b
      same a b l k (inl u) v = absurd (omega (arith, head_small a l))
      same a b l k (inr u) (inl v) = absurd (omega (arith, head_small b k))
      same a b l k (inr u) (inr v) = elim (cases_order a b) [
        | inl c ↦ c
        | inr d ↦ elim d [ inl g ↦ absurd (omega (arith, tails_upto W a b g)) | inr g ↦ absurd (omega (arith, tails_upto W b a g)) ]
      ]

  -- a tail has one rule
  pub tail_same : (x n m : ℕ) (b c : Right) → 64 ≤ x → Has (binarised W) x n b → Has (binarised W) x m c → (n ≡ m) × (b ≡ c)
  tail_same x n m b c h p q =
      let e : n ≡ m = tail_number (rule x n b) (rule x m c) p q refl h in
      (e, binarised_same x m b c (subst (λ k. Has (binarised W) x k b) e p) q)

  -- a rule of a head is one of the production of its number
  pub head_rule : (x n : ℕ) (b : Right) → x < 32 → Has (binarised W) x n b
      → Numbers W n × (head_of W n ≡ x) × Mem (rule x n b) (binarise_production W n)
  head_rule x n b h m = elim (binarised_mem W (rule x n b) m) [
    | inl k ↦ at k.0 k.1 k.2 (right_number _ k.0 _ (right_of W k.0) (rule x n b) k.2) (stands k.0 (rule x n b) k.2)
    | inr k ↦ absurd (omega (arith, ap (λ (s : Rule). s.left) k.2))
  ]
    where
      at : (a : ℕ) → Numbers W a → Mem (rule x n b) (binarise_production W a) → n ≡ a → Stands (head_of W a) (first_tail W a) (tails (right_of W a)) (rule x n b)
          → Numbers W n × (head_of W n ≡ x) × Mem (rule x n b) (binarise_production W n)
      at a l i e (inl u) = (omega arith, ap (head_of W) e ∙ sym u, subst (λ k. Mem (rule x n b) (binarise_production W k)) (sym e) i)
      at a l i e (inr u) = absurd (omega arith)

  -- a symbol 32 + t has its one further rule
  pub symbol_rule : (x n : ℕ) (b : Right) → 32 ≤ x → x < 64 → Has (binarised W) x n b → (n ≡ 255) × ((t : ℕ) × (x ≡ 32 + t) × (b ≡ terminal t))
  symbol_rule x n b h l m = elim (binarised_mem W (rule x n b) m) [
    | inl k ↦ absurd (elim (stands k.0 (rule x n b) k.2) [ inl e ↦ omega (arith, head_small k.0 k.1) | inr e ↦ omega arith ])
    | inr k ↦ (ap (λ r. r.number) k.2, (k.0, ap (λ r. r.left) k.2, ap (λ r. r.right) k.2))
  ]

-- which right side a binarised rule comes from

pub one_item_unit : (y : ℕ) → y < 32 → one_item y ≡ unit y
one_item_unit y h = rw (lt-ltb y 32 h)

pub one_item_terminal : (y t : ℕ) → y ≡ 32 + t → one_item y ≡ terminal t
one_item_terminal y t e = rw (le-ltb y 32 (omega arith)) (ap terminal (omega arith))

-- an item is a head or a pattern
pub one_item_cases : (y : ℕ) → ((y < 32) × (one_item y ≡ unit y)) ⊎ ((t : ℕ) × (y ≡ 32 + t) × (one_item y ≡ terminal t))
one_item_cases y = elim (cases_lt y 32) [
  | inl h ↦ inl (h, one_item_unit y h)
  | inr h ↦ let e : y ≡ 32 + (y - 32) = omega arith in inr (y - 32, e, one_item_terminal y (y - 32) e)
]

pub binaries_right : (x n z a b : ℕ) (ys : List ℕ) (r : Rule) → Mem r (binaries x n z a b ys) → (c : ℕ) × ((d : ℕ) × (r.right ≡ binary c d))
binaries_right x n z a b [] r (inl e) = (a, (b, ap (λ q. q.right) e))
binaries_right x n z a b [] r (inr m) = elim m [ ]
binaries_right x n z a b (c ∷ ys) r (inl e) = (a, (z, ap (λ q. q.right) e))
binaries_right x n z a b (c ∷ ys) r (inr m) = binaries_right z n (suc z) b c ys r m

pub right_empty : (x n z : ℕ) (ys : List ℕ) (r : Rule) → Mem r (binarise_right x n z ys) → r.right ≡ empty → ys ≡ []
right_empty x n z [] r m e = refl
right_empty x n z (a ∷ []) r (inl i) e = elim (one_item_cases a) [
  | inl k ↦ let f : r.right ≡ unit a = ap (λ q. q.right) i ∙ k.1 in cc
  | inr k ↦ let f : r.right ≡ terminal k.0 = ap (λ q. q.right) i ∙ k.2 in cc
]
right_empty x n z (a ∷ []) r (inr m) e = elim m [ ]
right_empty x n z (a ∷ b ∷ ys) r m e = let k = binaries_right x n z a b ys r m in let f : r.right ≡ binary k.0 k.1.0 = k.1.1 in cc

pub right_unit : (x n z y : ℕ) (ys : List ℕ) (r : Rule) → Mem r (binarise_right x n z ys) → r.right ≡ unit y → (ys ≡ y ∷ []) × (y < 32)
right_unit x n z y [] r (inl i) e = let f : r.right ≡ empty = ap (λ q. q.right) i in let g : ◌≡◌ {A = ℕ} 0 1 = cc in absurd (omega arith)
right_unit x n z y [] r (inr m) e = elim m [ ]
right_unit x n z y (a ∷ []) r (inl i) e = elim (one_item_cases a) [
  | inl k ↦ let f : r.right ≡ unit a = ap (λ q. q.right) i ∙ k.1 in let g : a ≡ y = cc in (ap (λ b. b ∷ []) g, omega (arith, k.0))
  | inr k ↦ let f : r.right ≡ terminal k.0 = ap (λ q. q.right) i ∙ k.2 in let g : ◌≡◌ {A = ℕ} 0 1 = cc in absurd (omega arith)
]
right_unit x n z y (a ∷ []) r (inr m) e = elim m [ ]
right_unit x n z y (a ∷ b ∷ ys) r m e =
    let k = binaries_right x n z a b ys r m in let f : r.right ≡ binary k.0 k.1.0 = k.1.1 in let g : ◌≡◌ {A = ℕ} 0 1 = cc in absurd (omega arith)

pub right_terminal : (x n z t : ℕ) (ys : List ℕ) (r : Rule) → Mem r (binarise_right x n z ys) → r.right ≡ terminal t → ys ≡ (32 + t) ∷ []
right_terminal x n z t [] r (inl i) e = let f : r.right ≡ empty = ap (λ q. q.right) i in cc
right_terminal x n z t [] r (inr m) e = elim m [ ]
right_terminal x n z t (a ∷ []) r (inl i) e = elim (one_item_cases a) [
  | inl k ↦ let f : r.right ≡ unit a = ap (λ q. q.right) i ∙ k.1 in cc
  | inr k ↦ let f : r.right ≡ terminal k.0 = ap (λ q. q.right) i ∙ k.2 in let g : k.0 ≡ t = cc in ap (λ b. b ∷ []) (omega (arith, k.1))
]
right_terminal x n z t (a ∷ []) r (inr m) e = elim m [ ]
right_terminal x n z t (a ∷ b ∷ ys) r m e = let k = binaries_right x n z a b ys r m in let f : r.right ≡ binary k.0 k.1.0 = k.1.1 in cc

pub right_binary : (x n z c d : ℕ) (ys : List ℕ) (r : Rule) → Mem r (binarise_right x n z ys) → r.right ≡ binary c d
    → (a : ℕ) × ((b : ℕ) × ((zs : List ℕ) × (ys ≡ a ∷ b ∷ zs)))
right_binary x n z c d [] r (inl i) e = let f : r.right ≡ empty = ap (λ q. q.right) i in let g : ◌≡◌ {A = ℕ} 0 1 = cc in absurd (omega arith)
right_binary x n z c d [] r (inr m) e = elim m [ ]
right_binary x n z c d (a ∷ []) r (inl i) e = let g : ◌≡◌ {A = ℕ} 0 1 = elim (one_item_cases a) [
  | inl k ↦ let f : r.right ≡ unit a = ap (λ q. q.right) i ∙ k.1 in cc
  | inr k ↦ let f : r.right ≡ terminal k.0 = ap (λ q. q.right) i ∙ k.2 in cc
] in absurd (omega arith)
right_binary x n z c d (a ∷ []) r (inr m) e = elim m [ ]
right_binary x n z c d (a ∷ b ∷ ys) r m e = (a, (b, (ys, refl)))

-- without empty right sides and single heads there are no empty and no unit rules
module _ (W : Book) (P : ProperBook W) where
  pub no_empty : (x n : ℕ) → Has (binarised W) x n empty → ⊥
  no_empty x n h = elim (binarised_mem W (rule x n empty) h) [
    | inl k ↦ (P (production W k.0) (production_mem W k.0 k.1)).0 (right_empty _ k.0 _ (right_of W k.0) (rule x n empty) k.2 refl)
    | inr k ↦ let f : empty ≡ terminal k.0 = ap (λ r. r.right) k.2 in let g : ◌≡◌ {A = ℕ} 0 1 = cc in omega arith
  ]

  pub no_unit : (x n y : ℕ) → Has (binarised W) x n (unit y) → ⊥
  no_unit x n y h = elim (binarised_mem W (rule x n (unit y)) h) [
    | inl k ↦ let j = right_unit _ k.0 _ y (right_of W k.0) (rule x n (unit y)) k.2 refl in
        (P (production W k.0) (production_mem W k.0 k.1)).1 y j.1 j.0
    | inr k ↦ let f : unit y ≡ terminal k.0 = ap (λ r. r.right) k.2 in let g : ◌≡◌ {A = ℕ} 0 1 = cc in omega arith
  ]

  pub binarised_proper : Proper (binarised W)
  binarised_proper x n empty h = absurd (no_empty x n h)
  binarised_proper x n (unit y) h = absurd (no_unit x n y h)
  binarised_proper x n (binary y z) h = refl
  binarised_proper x n (terminal p) h = refl

-- the rules of one symbol, taken out of a rising list, rise

abbrev pub Ascending : List OwnRule → Type 0
Ascending [] = Unit {0}
Ascending (o ∷ os) = ((q : OwnRule) → Mem q os → o.0 < q.0) × Ascending os

pub rules_ascending : (x : ℕ) (rs : List Rule) → Rising rs → Ascending (rules_in x rs)
rules_ascending x [] p = tt
rules_ascending x (r ∷ rs) p =
    (elim (eqb r.left x) as (λ b. eqb r.left x ≡ b → Ascending (cond b ((r.number, r.right) ∷ rules_in x rs) (rules_in x rs))) [
      | true ↦ λ e. (λ q m. p.0 (rule x q.0 q.1) (rules_in_mem x q rs m) (sym (eqb-true r.left x e)), rules_ascending x rs p.1)
      | false ↦ λ e. rules_ascending x rs p.1
    ]) refl

ascending_distinct : (os : List OwnRule) → Ascending os → Distinct (map (λ (o : OwnRule). o.0) os)
ascending_distinct [] p = tt
ascending_distinct (o ∷ os) p = (
  λ m. let k = map_mem (λ (q : OwnRule). q.0) o.0 os m in let l = p.0 k.0 k.1 in let e : o.0 ≡ k.0.0 = k.2 in omega arith,
  ascending_distinct os p.1,
)

-- the rules of one symbol are in order of number
pub binarised_ascending : (W : Book) → Sound W → (x : ℕ) → Ascending (rules_of (binarised W) x)
unfolding rules_of
binarised_ascending W S x = rules_ascending x (binarised W).rules (binarised_rising W S)

pub binarised_numbered : (W : Book) → Sound W → Numbered (binarised W)
binarised_numbered W S x = ascending_distinct (rules_of (binarised W) x) (binarised_ascending W S x)

-- a book has at most 128 symbols
pub binarised_size : (W : Book) → Sound W → (binarised W).symbols ≤ 128
unfolding binarised
binarised_size W S = let h = S.few_tails in omega arith

-- what right sides are made of

binaries_within : (K T x n z a b : ℕ) (ys : List ℕ) (r : Rule) → ((y : ℕ) → Mem y (a ∷ b ∷ ys) → y < K) → z + length ys ≤ K
    → Mem r (binaries x n z a b ys) → Within K T r.right
binaries_within K T x n z a b [] r h l (inl e) = subst (λ (q : Rule). Within K T q.right) (sym e) (h a (inl refl), h b (inr (inl refl)))
binaries_within K T x n z a b [] r h l (inr m) = elim m [ ]
binaries_within K T x n z a b (c ∷ ys) r h l (inl e) = subst (λ (q : Rule). Within K T q.right) (sym e) (h a (inl refl), omega arith)
binaries_within K T x n z a b (c ∷ ys) r h l (inr m) = binaries_within K T z n (suc z) b c ys r (λ y i. h y (inr i)) (omega arith) m

one_item_within : (K T y : ℕ) → 32 ≤ K → y < 32 + T → Within K T (one_item y)
one_item_within K T y h l = elim (one_item_cases y) [
  | inl k ↦ subst (Within K T) (sym k.1) (let g = k.0 in omega arith)
  | inr k ↦ subst (Within K T) (sym k.2) (let g = k.1 in omega arith)
]

right_within : (K T x n z : ℕ) (ys : List ℕ) (r : Rule) → ((y : ℕ) → Mem y ys → y < 32 + T) → 32 + T ≤ K → z + tails ys ≤ K
    → Mem r (binarise_right x n z ys) → Within K T r.right
right_within K T x n z [] r h g l (inl e) = subst (λ (q : Rule). Within K T q.right) (sym e) tt
right_within K T x n z [] r h g l (inr m) = elim m [ ]
right_within K T x n z (a ∷ []) r h g l (inl e) = subst (λ (q : Rule). Within K T q.right) (sym e) (one_item_within K T a (omega arith) (h a (inl refl)))
right_within K T x n z (a ∷ []) r h g l (inr m) = elim m [ ]
right_within K T x n z (a ∷ b ∷ ys) r h g l m = binaries_within K T x n z a b ys r (λ y i. let k = h y i in omega arith) l m

pub binarised_within : (W : Book) → Sound W → (x n : ℕ) (b : Right) → Has (binarised W) x n b → Within (binarised W).symbols W.patterns b
unfolding binarised
binarised_within W S x n b m = elim (binarised_mem W (rule x n b) m) [
  | inl k ↦ right_within (64 + all_tails W.productions) W.patterns (head_of W k.0) k.0 (first_tail W k.0) (right_of W k.0) (rule x n b)
      (λ y i. item_small W S k.0 y k.1 i) (let f = S.few_patterns in omega arith)
      (omega (arith, tails_within W k.0 k.1)) k.2
  | inr k ↦ subst (Within (64 + all_tails W.productions) W.patterns) (sym (ap (λ (r : Rule). r.right) k.2)) k.1
]
