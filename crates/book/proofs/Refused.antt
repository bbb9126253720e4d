-- Which refusal an offer meets, once the tests before it failed.
use Rattle.std.proofs.Common.{◌≡◌, ℕ, ◌+◌, ◌<◌, ◌≤◌, Bool, true, false, cond, ◌&&◌, ltb, leb, List, [], ◌∷◌, ◌++◌, length, sym, refl, ap, ◌∙◌, ⊎_elim, arith}
use Rattle.std.proofs.lemmas.Bool.Decides.{nat_tests}
use Rattle.std.proofs.lemmas.Bool.{cases_lt, le-leb, eq-eqb}
use Rattle.grammar.specs.Lists.{Mem, some_of, same_numbers}
use Rattle.grammar.specs.Productions.{Production, Book, all_tails, SameRule, Sound}
use Rattle.grammar.specs.Binarise.{binarised, Admitted}
use Rattle.grammar.specs.Strict.{strict_rules}
use Rattle.grammar.proofs.Lists.{some_from}
use Rattle.grammar.proofs.Offers.{offered_sound}
use Rattle.book.specs.Offers.{book, refusal, same_rule, size_refusal}
use Rattle.book.specs.Faults.{offer_number}
use Rattle.book.specs.declared.fault.OfferFault.{OfferFault}
use Rattle.book.specs.declared.fault.OfferFault.TheVariants.{HeadTooLarge, TooManyItems, UnknownItem, Repeated, BookFull, TooManyTails, TooManyStrictRules}

-- none of the first four is met
pub record PastFour (T : ℕ) (rules : List Production) (p : Production) : Type 0 where
  pub head : p.head ≤ 31
  pub short : length p.right ≤ 8
  pub known : some_of (leb (32 + T)) p.right ≡ false
  pub new : some_of (same_rule p) rules ≡ false

five_on : (h n : ℕ) (u s : Bool) (rest : ℕ) → h ≤ 31 → n ≤ 8 → u ≡ false → s ≡ false → cond (ltb 31 h) 1 (cond (ltb 8 n) 2 (cond u 3 (cond s 4 rest))) ≡ rest
five_on h n u s rest a b c d = grind (arith, nat_tests)

full : (n rest : ℕ) → 64 ≤ n → cond (leb 64 n) 5 rest ≡ 5
full n rest h = grind (arith, nat_tests)

room : (n rest : ℕ) → n < 64 → cond (leb 64 n) 5 rest ≡ rest
room n rest h = grind (arith, nat_tests)

module _ (T : ℕ) (rules : List Production) (p : Production) where
  -- the refusal for its size of the book with the new rule in
  abbrev then : ℕ
  then = size_refusal (book T (rules ++ (p ∷ [])))

  past : PastFour T rules p → refusal T rules p ≡ cond (leb 64 (length rules)) 5 then
  past h = five_on p.head (length p.right) (some_of (leb (32 + T)) p.right) (some_of (same_rule p) rules) (cond (leb 64 (length rules)) 5 then) h.head h.short h.known h.new

  -- 64 rules are held
  pub meets_five : PastFour T rules p → 64 ≤ length rules → refusal T rules p ≡ 5
  meets_five h f = past h ∙ full (length rules) then f

  -- there is room for one more
  pub meets_size : PastFour T rules p → length rules < 64 → refusal T rules p ≡ size_refusal (book T (rules ++ (p ∷ [])))
  meets_size h f = past h ∙ room (length rules) then f

-- where no element passes, one of the list does not
not_passed : {A : Type 0} (q : A → Bool) (a : A) (xs : List A) → some_of q xs ≡ false → Mem a xs → q a ≡ true → ⊥
not_passed q a xs e m h =
    let z : true ≡ false = sym (some_from q a xs m h) ∙ e in
    let w : ◌≡◌ {A = ℕ} 0 1 = cc in
    omega arith

same_itself : (xs : List ℕ) → same_numbers xs xs ≡ true
same_itself [] = refl
same_itself (x ∷ xs) = ap (λ b. b && same_numbers xs xs) (eq-eqb x x refl) ∙ same_itself xs

-- the same head and right side pass the test
same_passes : (p q : Production) → SameRule q p → same_rule p q ≡ true
same_passes p q e =
    ap (λ b. b && same_numbers p.right q.right) (eq-eqb p.head q.head (sym e.same_head))
    ∙ ap (λ ys. same_numbers p.right ys) e.same_right ∙ same_itself p.right

-- a rule that meets none of the first six keeps the book within its bounds
pub past_sound : (T : ℕ) (rules : List Production) (p : Production) → PastFour T rules p → Sound (book T rules) → p.cost ≤ 65535 → length rules < 64
    → all_tails (rules ++ (p ∷ [])) ≤ 64 → Sound (book T (rules ++ (p ∷ [])))
past_sound T rules p h S c f t = offered_sound (book T rules) p S (let k = h.head in omega arith) h.short
    (λ y m. ⊎_elim (λ (l : y < 32 + T). l) (λ (l : 32 + T ≤ y). absurd (not_passed (leb (32 + T)) y p.right h.known m (le-leb (32 + T) y l))) (cases_lt y (32 + T)))
    c
    (λ q m e. not_passed (same_rule p) q rules h.new m (same_passes p q e))
    f t

few : (t s : ℕ) → ◌≡◌ {A = ℕ} (cond (ltb 64 t) 6 (cond (ltb 1024 s) 7 0)) 0 → (t ≤ 64) × (s ≤ 1024)
few t s h = (grind (arith, nat_tests), grind (arith, nat_tests))

-- a book that keeps to the bounds unless it takes too many tails, and that is not refused for its size, is admitted
pub sized_admitted : (W : Book) → (all_tails W.productions ≤ 64 → Sound W) → size_refusal W ≡ 0 → Admitted W
sized_admitted W sound e =
    let f = few (all_tails W.productions) (length (strict_rules (binarised W))) e in
    record { sound = sound f.0; few_strict = f.1 }

-- a refusal has a number
pub some_refusal : (f : OfferFault) → 1 ≤ offer_number f
some_refusal HeadTooLarge = omega arith
some_refusal TooManyItems = omega arith
some_refusal UnknownItem = omega arith
some_refusal Repeated = omega arith
some_refusal BookFull = omega arith
some_refusal TooManyTails = omega arith
some_refusal TooManyStrictRules = omega arith
