-- A book with one more production at its end: what stays, what comes, and how many binarised rules there are.
use Rattle.std.proofs.Common.{◌≡◌, ℕ, zero, suc, ◌+◌, ◌<◌, ◌≤◌, List, [], ◌∷◌, ◌++◌, map, length, get_or, sym, refl, ap, ◌∙◌, subst, ap₂, inl, inr, append_assoc, append-nil, arith, length-append}
use lib.ListN.{length-map, get_or-append}
use lib.Seq.{take-append-le}
use Rattle.grammar.specs.Productions.{all_tails, SameRule, right_of, Production, Book, offered, Numbers, production, head_of, tails, tails_before, first_tail, Sound}
use Rattle.grammar.specs.Lists.{Mem, each, below, count_up}
use Rattle.grammar.specs.Binarise.{binarised, binaries, binarise_right}
use Rattle.grammar.proofs.Short.{binarise_production, terminal_rule, binarised_rules}
use Rattle.grammar.proofs.Tails.{tails_next, tails_whole, tails_push}
use Rattle.grammar.proofs.Lists.{sorted_append, sorted_left, mem_left, mem_append, length_count_up}

get_d_last : {A : Type 0} (xs : List A) (a d : A) → get_or (xs ++ (a ∷ [])) (length xs) d ≡ a
get_d_last [] a d = refl
get_d_last (x ∷ xs) a d = get_d_last xs a d

pub offered_length : (W : Book) (p : Production) → length (offered W p).productions ≡ suc (length W.productions)
offered_length W p = let e = length-append W.productions (p ∷ []) in omega arith

-- the productions before it stay
pub production_stays : (W : Book) (p : Production) (n : ℕ) → Numbers W n → production (offered W p) n ≡ production W n
unfolding production
production_stays W p n h = get_or-append W.productions (p ∷ []) _ n h

pub production_last : (W : Book) (p : Production) → production (offered W p) (length W.productions) ≡ p
unfolding production
production_last W p = get_d_last W.productions p _

pub tails_stay : (W : Book) (p : Production) (n : ℕ) → n ≤ length W.productions → tails_before (offered W p) n ≡ tails_before W n
unfolding tails_before
tails_stay W p n h = ap all_tails (take-append-le n W.productions (p ∷ []) h)

pub binarised_stays : (W : Book) (p : Production) (n : ℕ) → Numbers W n → binarise_production (offered W p) n ≡ binarise_production W n
binarised_stays W p n h =
    ap₂ (λ q t. binarise_right q.head n (64 + t) q.right) (production_stays W p n h) (tails_stay W p n (let k : n < length W.productions = h in omega arith))

pub binarised_last : (W : Book) (p : Production) → binarise_production (offered W p) (length W.productions) ≡ binarise_right p.head (length W.productions) (first_tail W (length W.productions)) p.right
binarised_last W p =
    ap₂ (λ q t. binarise_right q.head (length W.productions) (64 + t) q.right) (production_last W p) (tails_stay W p (length W.productions) (omega arith))

-- the binarised rules, production by production

each_last : {A : Type 0} (f : ℕ → List A) (a n : ℕ) → each f (count_up a (suc n)) ≡ each f (count_up a n) ++ f (a + n)
each_last f a zero = append-nil (f a) ∙ ap f (omega arith)
each_last f a (suc n) =
    ap (λ l. f a ++ l) (each_last f (suc a) n ∙ ap (λ m. each f (count_up (suc a) n) ++ f m) (omega arith)) ∙ sym (append_assoc (f a) (each f (count_up (suc a) n)) (f (a + suc n)))

pub binarised_next : (W : Book) (n : ℕ) → each (binarise_production W) (below (suc n)) ≡ each (binarise_production W) (below n) ++ binarise_production W n
binarised_next W n = each_last (binarise_production W) zero n ∙ ap (λ m. each (binarise_production W) (below n) ++ binarise_production W m) (omega arith)

each_same : {A : Type 0} (f g : ℕ → List A) (a n : ℕ) → ((i : ℕ) → i < a + n → f i ≡ g i) → each f (count_up a n) ≡ each g (count_up a n)
each_same f g a zero h = refl
each_same f g a (suc n) h = ap₂ ◌++◌ (h a (omega arith)) (each_same f g (suc a) n (λ i l. h i (omega arith)))

-- one more production puts its binarised rules between those of the productions before it and those of the patterns
pub binarised_offered : (W : Book) (p : Production) → binarised_rules (offered W p)
    ≡ each (binarise_production W) (below (length W.productions))
    ++ (binarise_right p.head (length W.productions) (first_tail W (length W.productions)) p.right ++ map terminal_rule (below W.patterns))
binarised_offered W p =
    ap (λ n. each (binarise_production (offered W p)) (below n) ++ map terminal_rule (below W.patterns)) (offered_length W p)
    ∙ ap (λ l. l ++ map terminal_rule (below W.patterns))
    (binarised_next (offered W p) (length W.productions)
    ∙ ap₂ ◌++◌ (each_same (binarise_production (offered W p)) (binarise_production W) zero (length W.productions) (λ i l. binarised_stays W p i (omega arith))) (binarised_last W p))
    ∙ append_assoc (each (binarise_production W) (below (length W.productions)))
    (binarise_right p.head (length W.productions) (first_tail W (length W.productions)) p.right) (map terminal_rule (below W.patterns))

-- how many

binaries_length : (x n z a b : ℕ) (ys : List ℕ) → length (binaries x n z a b ys) ≡ suc (length ys)
binaries_length x n z a b [] = refl
binaries_length x n z a b (c ∷ ys) = ap suc (binaries_length z n (suc z) b c ys)

-- a production has one binarised rule, and one for each tail that it takes
pub right_length : (x n z : ℕ) (ys : List ℕ) → length (binarise_right x n z ys) ≡ suc (tails ys)
right_length x n z [] = refl
right_length x n z (a ∷ []) = refl
right_length x n z (a ∷ b ∷ ys) = binaries_length x n z a b ys

first_none : (W : Book) → 0 ≡ 0 + tails_before W 0
unfolding tails_before
first_none W = refl

pub upto_length : (W : Book) (n : ℕ) → length (each (binarise_production W) (below n)) ≡ n + tails_before W n
upto_length W zero = first_none W
upto_length W (suc n) =
    ap length (binarised_next W n) ∙ length-append (each (binarise_production W) (below n)) (binarise_production W n)
    ∙ (let i = upto_length W n in let k = tails_next W n in let j = right_length (head_of W n) n (first_tail W n) (right_of W n) in omega arith)

pub binarised_length : (W : Book) → length (binarised_rules W) ≡ length W.productions + all_tails W.productions + W.patterns
binarised_length W =
    length-append (each (binarise_production W) (below (length W.productions))) (map terminal_rule (below W.patterns))
    ∙ ap₂ ◌+◌ (upto_length W (length W.productions) ∙ ap (λ n. length W.productions + n) (tails_whole W)) (length-map (below W.patterns) terminal_rule ∙ length_count_up zero W.patterns)

-- so a book has at most 160 binarised rules
pub binarised_few : (W : Book) → Sound W → length (binarised W).rules ≤ 160
unfolding binarised
binarised_few W S = let a = S.few_rules in let b = S.few_tails in let c = S.few_patterns in omega (arith, binarised_length W)

-- an offer that no bound refuses keeps a book sound, and so does a strike

pub offered_sound : (W : Book) (p : Production) → Sound W → p.head < 32 → length p.right ≤ 8 → ((y : ℕ) → Mem y p.right → y < 32 + W.patterns)
    → p.cost ≤ 65535 → ((q : Production) → Mem q W.productions → SameRule q p → ⊥)
    → length W.productions < 64 → all_tails (W.productions ++ (p ∷ [])) ≤ 64 → Sound (offered W p)
offered_sound W p S h l i c d f t = record {
  heads = λ q m. elim (mem_append q W.productions (p ∷ []) m)
      [ inl k ↦ S.heads q k | inr k ↦ elim k [ inl e ↦ let g = ap (λ (o : Production). o.head) e in omega arith | inr n ↦ elim n [ ] ] ];
  items = λ q y m j. elim (mem_append q W.productions (p ∷ []) m)
      [ inl k ↦ S.items q y k j | inr k ↦ elim k [ inl e ↦ i y (subst (λ (o : Production). Mem y o.right) e j) | inr n ↦ elim n [ ] ] ];
  short = λ q m. elim (mem_append q W.productions (p ∷ []) m)
      [ inl k ↦ S.short q k | inr k ↦ elim k [ inl e ↦ let g = ap (λ (o : Production). length o.right) e in omega arith | inr n ↦ elim n [ ] ] ];
  few_patterns = S.few_patterns;
  few_rules = let e = offered_length W p in omega arith;
  few_tails = t;
  cheap = λ q m. elim (mem_append q W.productions (p ∷ []) m)
      [ inl k ↦ S.cheap q k | inr k ↦ elim k [ inl e ↦ let g = ap (λ (o : Production). o.cost) e in omega arith | inr n ↦ elim n [ ] ] ];
  different = sorted_append _ W.productions (p ∷ []) S.different ((λ q m. absurd m), tt)
      (λ a b m k. elim k [ inl e ↦ subst (λ q. SameRule a q → ⊥) (sym e) (d a m) | inr n ↦ absurd n ]);
}

pub struck_sound : (W : Book) (p : Production) → Sound (offered W p) → Sound W
struck_sound W p S = record {
  heads = λ q m. S.heads q (mem_left q W.productions (p ∷ []) m);
  items = λ q y m j. S.items q y (mem_left q W.productions (p ∷ []) m) j;
  short = λ q m. S.short q (mem_left q W.productions (p ∷ []) m);
  few_patterns = S.few_patterns;
  few_rules = let e = offered_length W p in let k = S.few_rules in omega arith;
  few_tails = let e = tails_push W.productions p in let k = S.few_tails in omega arith;
  cheap = λ q m. S.cheap q (mem_left q W.productions (p ∷ []) m);
  different = sorted_left _ W.productions (p ∷ []) S.different;
}
