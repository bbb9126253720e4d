-- A book with its last production struck: its strict rules are all strict rules of the book before, so there are no more of them.
use Rattle.std.proofs.Common.{◌≡◌, ℕ, zero, suc, ◌≤◌, Bool, true, List, [], ◌∷◌, ◌++◌, map, length, sym, refl, ◌∙◌, subst, inl, inr, true≢false, arith}
use Rattle.std.proofs.lemmas.Bool.{or_cases, and_parts, and_from}
use Rattle.grammar.specs.Lists.{Mem, Sorted, each, below}
use Rattle.grammar.specs.Productions.{Production, Book, offered, first_tail, Sound}
use Rattle.grammar.specs.Binarised.{Right, empty, unit, binary, terminal, Rule, Binarised, OwnRule, rules_of, Bounded}
use Rattle.grammar.specs.Binarise.{binarise_right, binarised, Admitted}
use Rattle.grammar.proofs.Short.{binarise_production, terminal_rule}
use Rattle.grammar.specs.Nullable.{ready, nullable_after, nullable}
use Rattle.grammar.specs.Chains.{Dropped, nothing, the_right, the_left, ChainStep, Leads, UnitChain}
use Rattle.grammar.specs.Strict.{StrictFormRule, strict_rules, Before}
use Rattle.grammar.specs.Promises.{IsStrict}
use Rattle.grammar.proofs.Lists.{mem_left, mem_right, mem_append, some_gives}
use Rattle.grammar.proofs.Tails.{tails_push}
use Rattle.grammar.proofs.Nullable.{rule_has, nullable_closed}
use Rattle.grammar.proofs.BinarisedRules.{binarised_bounded}
use Rattle.grammar.proofs.Offers.{binarised_offered, struck_sound}
use Rattle.grammar.proofs.StrictOrder.{before_once, strict_listed}

-- a list in an order that never goes both ways is no longer than one in that order that holds all of it
sorted_fewer : {A : Type 0} (R : A → A → Type 0) → ((a b : A) → R a b → R b a → ⊥) → (xs ys : List A) → Sorted R xs → Sorted R ys
    → ((a : A) → Mem a xs → Mem a ys) → length xs ≤ length ys
sorted_fewer R once [] ys s t f = omega arith
sorted_fewer R once (x ∷ xs) [] s t f = absurd (f x (inl refl))
sorted_fewer {A} R once (x ∷ xs) (y ∷ ys) s t f = elim (f x (inl refl)) [
  | inl e ↦ let h = sorted_fewer R once xs ys s.1 t.1 (λ a m. later a m e (f a (inr m))) in omega arith
  | inr k ↦ let h = sorted_fewer R once (x ∷ xs) ys s t.1 (λ a m. all a k m (f a m)) in omega arith
]
  where
    later : (a : A) → Mem a xs → x ≡ y → Mem a (y ∷ ys) → Mem a ys
    later a m e (inl q) = let k = subst (R x) (q ∙ sym e) (s.0 a m) in absurd (once x x k k)
    later a m e (inr n) = n

    all : (a : A) → Mem x ys → Mem a (x ∷ xs) → Mem a (y ∷ ys) → Mem a ys
    all a k (inl e) q = subst (λ z. Mem z ys) (sym e) k
    all a k (inr m) (inl q) = absurd (once x y (subst (R x) q (s.0 a m)) (t.0 x k))
    all a k (inr m) (inr n) = n

-- more symbols pass, so a right side that was made of symbols that pass is so still
ready_kept : (g h : ℕ → Bool) → ((x : ℕ) → g x ≡ true → h x ≡ true) → (b : Right) → ready g b ≡ true → ready h b ≡ true
ready_kept g h k empty t = refl
ready_kept g h k (unit y) t = k y t
ready_kept g h k (binary y z) t = let r = and_parts (g y) (g z) t in and_from (h y) (h z) (k y r.0) (k z r.1)
ready_kept g h k (terminal p) t = absurd (true≢false (sym t))

-- with more rules over more symbols
module _ (B C : Binarised) (bounded : Bounded C) (kept : (r : Rule) → Mem r B.rules → Mem r C.rules) (symbols : B.symbols ≤ C.symbols) where
  -- what was nullable is
  nullable_after_kept : (k x : ℕ) → nullable_after B k x ≡ true → nullable C x ≡ true
  unfolding nullable_after
  nullable_after_kept zero x t = absurd (true≢false (sym t))
  nullable_after_kept (suc k) x t = elim (or_cases (nullable_after B k x) _ t) [
    | inl e ↦ nullable_after_kept k x e
    | inr e ↦ let r = some_gives (λ (o : OwnRule). ready (nullable_after B k) o.1) (rules_of B x) e in
        nullable_closed C bounded x r.0.0 r.0.1 (kept _ (rule_has B x r.0 r.1))
        (ready_kept (nullable_after B k) (nullable C) (nullable_after_kept k) r.0.1 r.2)
  ]

  nullable_kept : (x : ℕ) → nullable B x ≡ true → nullable C x ≡ true
  unfolding nullable
  nullable_kept x t = nullable_after_kept B.symbols x t

  -- a unit step leads where it did, and so does a unit chain
  leads_kept : (x n : ℕ) (d : Dropped) (y : ℕ) → Leads B x n d y → Leads C x n d y
  leads_kept x n nothing y h = kept _ h
  leads_kept x n (the_right z) y h = (kept _ h.0, nullable_kept z h.1)
  leads_kept x n (the_left z) y h = (kept _ h.0, nullable_kept z h.1)

  chain_kept : (x : ℕ) (c : List ChainStep) (y : ℕ) → UnitChain B x c y → UnitChain C x c y
  chain_kept x [] y e = e
  chain_kept x (s ∷ c) y h = (h.0, leads_kept s.from s.number s.dropped s.to h.1, chain_kept s.to c y h.2)

  -- so a strict rule is one still
  strict_kept : (r : StrictFormRule) → IsStrict B r → IsStrict C r
  strict_kept r h = record {
    a_symbol = let k = h.a_symbol in omega arith;
    reaches = (h.reaches.0, chain_kept r.symbol h.reaches.0 r.end h.reaches.1);
    is_rule = kept _ h.is_rule;
    is_proper = h.is_proper;
  }

-- the binarised rules of the shorter book are among those of the longer
rules_kept : (W : Book) (p : Production) (r : Rule) → Mem r (binarised W).rules → Mem r (binarised (offered W p)).rules
unfolding binarised
rules_kept W p r m =
    let old = each (binarise_production W) (below (length W.productions)) in
    let new = binarise_right p.head (length W.productions) (first_tail W (length W.productions)) p.right in
    let patterns = map terminal_rule (below W.patterns) in
    subst (λ l. Mem r l) (sym (binarised_offered W p)) (elim (mem_append r old patterns m) [
      | inl k ↦ mem_left r old (new ++ patterns) k
      | inr k ↦ mem_right r old (new ++ patterns) (mem_right r new patterns k)
    ])

symbols_kept : (W : Book) (p : Production) → (binarised W).symbols ≤ (binarised (offered W p)).symbols
unfolding binarised
symbols_kept W p = let e = tails_push W.productions p in omega arith

-- every strict rule of the shorter book is one of the longer
pub strict_stay : (W : Book) (p : Production) → Sound (offered W p) → (r : StrictFormRule) → Mem r (strict_rules (binarised W)) → Mem r (strict_rules (binarised (offered W p)))
strict_stay W p S r m = ((strict_listed (offered W p) S).is_list.exactly r).1
    (strict_kept (binarised W) (binarised (offered W p)) (binarised_bounded (offered W p) S) (rules_kept W p) (symbols_kept W p) r
    (((strict_listed W (struck_sound W p S)).is_list.exactly r).0 m))

-- so there are no more
pub no_more_strict : (W : Book) (p : Production) → Sound (offered W p) → length (strict_rules (binarised W)) ≤ length (strict_rules (binarised (offered W p)))
no_more_strict W p S = sorted_fewer Before before_once (strict_rules (binarised W)) (strict_rules (binarised (offered W p)))
    (strict_listed W (struck_sound W p S)).is_list.ascending (strict_listed (offered W p) S).is_list.ascending (strict_stay W p S)

-- a strike keeps a book within its bounds, that on its strict rules too
pub struck_fits : (W : Book) (p : Production) → Admitted (offered W p) → Admitted W
struck_fits W p a = record {
  sound = struck_sound W p a.sound;
  few_strict = let h = no_more_strict W p a.sound in let k = a.few_strict in omega arith;
}
