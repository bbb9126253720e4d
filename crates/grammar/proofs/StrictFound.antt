-- The strict rules of a symbol are those with that symbol in the list of all strict rules.
use Rattle.std.proofs.Common.{◌≡◌, ℕ, zero, ◌<◌, Bool, true, false, eqb, List, [], ◌∷◌, ◌++◌, sym, refl, ap, ◌∙◌, subst, ap₂, inl, inr, append-nil}
use Rattle.std.proofs.lemmas.Bool.{eq-eqb, ne_eqb}
use Rattle.grammar.specs.Lists.{Mem, Distinct, those, each, below}
use Rattle.grammar.specs.Binarised.{Binarised}
use Rattle.grammar.specs.Strict.{StrictFormRule, strict_rules_of, strict_rules}
use Rattle.grammar.proofs.Lists.{mem_below, count_up_distinct, those_append}
use Rattle.grammar.proofs.Taken.{strict_head}

those_all : {A : Type 0} (p : A → Bool) (xs : List A) → ((a : A) → Mem a xs → p a ≡ true) → those p xs ≡ xs
those_all p [] h = refl
those_all p (x ∷ xs) h = rw (h x (inl refl)) (ap (λ l. x ∷ l) (those_all p xs (λ a m. h a (inr m))))

those_none : {A : Type 0} (p : A → Bool) (xs : List A) → ((a : A) → Mem a xs → p a ≡ false) → those p xs ≡ []
those_none p [] h = refl
those_none p (x ∷ xs) h = rw (h x (inl refl)) (those_none p xs (λ a m. h a (inr m)))

-- of lists by key, those of one key are the list of that key
module _ {A : Type 0} (p : A → Bool) (f : ℕ → List A) (x : ℕ) (rules_of : those p (f x) ≡ f x) (other : (y : ℕ) → (y ≡ x → ⊥) → those p (f y) ≡ []) where
  none_of : (ys : List ℕ) → (Mem x ys → ⊥) → those p (each f ys) ≡ []
  none_of [] n = refl
  none_of (y ∷ ys) n = those_append p (f y) (each f ys) ∙ ap₂ ◌++◌ (other y (λ e. n (inl (sym e)))) (none_of ys (λ m. n (inr m)))

  one_of : (ys : List ℕ) → Distinct ys → Mem x ys → those p (each f ys) ≡ f x
  one_of [] d m = absurd m
  one_of (y ∷ ys) d (inl e) = those_append p (f y) (each f ys)
      ∙ ap₂ ◌++◌ (ap (λ z. those p (f z)) (sym e) ∙ rules_of) (none_of ys (subst (λ z. Mem z ys → ⊥) (sym e) d.0)) ∙ append-nil (f x)
  one_of (y ∷ ys) d (inr m) = those_append p (f y) (each f ys)
      ∙ ap₂ ◌++◌ (other y (λ e. d.0 (subst (λ z. Mem z ys) (sym e) m))) (one_of ys d.1 m)

pub strict_found : (B : Binarised) (x : ℕ) → x < B.symbols → those (λ (r : StrictFormRule). eqb r.symbol x) (strict_rules B) ≡ strict_rules_of B x
unfolding strict_rules
strict_found B x h = one_of (λ (r : StrictFormRule). eqb r.symbol x) (strict_rules_of B) x
    (those_all (λ (r : StrictFormRule). eqb r.symbol x) (strict_rules_of B x) (λ r m. eq-eqb r.symbol x (strict_head B any x r m).0))
    (λ y n. those_none (λ (r : StrictFormRule). eqb r.symbol x) (strict_rules_of B y) (λ r m. ne_eqb r.symbol x (λ e. n (sym (strict_head B any y r m).0 ∙ e))))
    (below B.symbols) (count_up_distinct zero B.symbols) (mem_below B.symbols x h)
  where
    any : ℕ → ℕ → Bool
    any e p = true
