-- The steps by which the strict rules of a grammar are found.
use Rattle.std.proofs.Common.{◌≡◌, ℕ, zero, suc, ◌+◌, ◌<◌, ◌≤◌, Bool, true, false, cond, ◌||◌, eqb, leb, List, [], ◌∷◌, ◌++◌, map, length, get_or, take, is_some, sym, refl, ap, ◌∙◌, subst, ap₂, inl, inr, arith}
use Rattle.std.proofs.lemmas.List.{append_assoc, append-nil, map-append, length-append, length-map, length-take, map_push, take_all, take-append-le, take_more}
use Rattle.std.proofs.Math.Bool.{or-false}
use Rattle.std.proofs.lemmas.Bool.{le-leb, lt-leb, cases_lt, eq-eqb, ne_eqb}
use Rattle.grammar.specs.Lists.{Mem, some_of, those, each, below}
use Rattle.grammar.proofs.Lists.{those_append}
use Rattle.grammar.specs.Binarised.{Rule, Binarised, OwnRule, rules_in, rules_of, Bounded}
use Rattle.grammar.specs.Nullable.{nullable}
use Rattle.grammar.specs.Chains.{ChainStep, steps_by, steps, within, reached}
use Rattle.grammar.specs.Strict.{StrictFormRule, proper, strict_rule, strict_rules_of, strict_rules}
use Rattle.conversion.specs.declared.right.Right.{Right}
use Rattle.conversion.specs.declared.right.BinarisedRule.{BinarisedRule}
use Rattle.conversion.specs.declared.chain.Chains.{Chains}
use Rattle.conversion.specs.declared.strict.StrictRules.{StrictRules}
use Rattle.conversion.specs.Views.{right_side_of, rule_of, binarised_of}
use Rattle.conversion.specs.Linked.{link, ChainsWithin}
use Rattle.conversion.specs.Forms.{Holds}
use Rattle.conversion.proofs.Firsts.{own_append}
use Rattle.conversion.proofs.Each.{each_those, each_more, each_same, each_shorter}
use Rattle.conversion.proofs.Walking.{link_leads}

-- the table has a chain from x to y
abbrev pub linked : Chains → ℕ → ℕ → Bool
linked c x y = is_some (link c x y)

-- the right side of a strict rule
abbrev pub proper_right : Right → Bool
proper_right r = proper (right_side_of r)

-- whatever list it held, it holds that with these at the end
abbrev pub Appends : StrictRules → StrictRules → List StrictFormRule → Type 0
Appends was is more = (l : List StrictFormRule) → Holds l was → Holds (l ++ more) is

-- the strict rules of x by the rules of y
abbrev pub by_end : List BinarisedRule → ℕ → ℕ → List StrictFormRule
by_end rules x y = map (strict_rule x y) (those (λ (o : OwnRule). proper o.1) (rules_in y (map rule_of rules)))

-- the strict rules of x by the rules of the first n symbols, as far as the table has a chain there
unfoldable pub by_ends : List BinarisedRule → Chains → ℕ → ℕ → List StrictFormRule
by_ends rules c x n = each (by_end rules x) (those (linked c x) (below n))

-- one more, or no room for it

pub found_room : {A B : Type 0} (f : A → B) (xs : List A) (y : A) (b : Bool) (l : List B) → length xs < 1024
    → (map f xs ≡ take 1024 l) × (b ≡ leb (length l) 1024)
    → (map f (xs ++ (y ∷ [])) ≡ take 1024 (l ++ (f y ∷ []))) × (b ≡ leb (length (l ++ (f y ∷ []))) 1024)
found_room f xs y b l h e =
    let many : length l ≡ length xs = omega (arith, length-map xs f, ap length e.0, length-take 1024 l) in
    let more = length-append l (f y ∷ []) in (
      map_push f xs y ∙ ap (λ k. k ++ (f y ∷ [])) (e.0 ∙ take_all 1024 l (omega arith)) ∙ sym (take_all 1024 (l ++ (f y ∷ [])) (omega arith)),
      e.1 ∙ le-leb (length l) 1024 (omega arith) ∙ sym (le-leb (length (l ++ (f y ∷ []))) 1024 (omega arith)),
    )

pub found_full : {A B : Type 0} (f : A → B) (xs : List A) (y : A) (b : Bool) (l : List B) → length xs ≡ 1024
    → (map f xs ≡ take 1024 l) × (b ≡ leb (length l) 1024)
    → (map f xs ≡ take 1024 (l ++ (f y ∷ []))) × (false ≡ leb (length (l ++ (f y ∷ []))) 1024)
found_full f xs y b l h e =
    let many : 1024 ≤ length l = omega (arith, length-map xs f, ap length e.0, length-take 1024 l) in
    let more = length-append l (f y ∷ []) in
    (e.0 ∙ sym (take-append-le 1024 l (f y ∷ []) many), sym (lt-leb (length (l ++ (f y ∷ []))) 1024 (omega arith)))

-- one after the other

pub appends_none : (s : StrictRules) → Appends s s []
appends_none s l h = subst (λ k. Holds k s) (sym (append-nil l)) h

pub appends_more : (was mid is : StrictRules) (m n : List StrictFormRule) → Appends was mid m → Appends mid is n → Appends was is (m ++ n)
appends_more was mid is m n a b l h = subst (λ k. Holds k is) (append_assoc l m n) (b (l ++ m) (a l h))

pub appends_same : (was is : StrictRules) (m n : List StrictFormRule) → m ≡ n → Appends was is m → Appends was is n
appends_same was is m n e = subst (Appends was is) e

pub appends_nothing : (was is : StrictRules) (m : List StrictFormRule) → is ≡ was → m ≡ [] → Appends was is m
appends_nothing was is m s e = subst (λ k. Appends was k m) (sym s) (appends_same was was [] m (sym e) (appends_none was))

-- the rules of an end, rule by rule

by_end_append : (rs qs : List BinarisedRule) (x y : ℕ) → by_end (rs ++ qs) x y ≡ by_end rs x y ++ by_end qs x y
by_end_append rs qs x y =
    let p : OwnRule → Bool = λ o. proper o.1 in
    ap (λ l. map (strict_rule x y) (those p l)) (ap (rules_in y) (map-append rule_of rs qs) ∙ own_append y (map rule_of rs) (map rule_of qs))
    ∙ ap (map (strict_rule x y)) (those_append p (rules_in y (map rule_of rs)) (rules_in y (map rule_of qs)))
    ∙ map-append (strict_rule x y) (those p (rules_in y (map rule_of rs))) (those p (rules_in y (map rule_of qs)))

by_end_more : (rules : List BinarisedRule) (i : ℕ) (d : BinarisedRule) (x y : ℕ) → i < length rules
    → by_end (take (i + 1) rules) x y ≡ by_end (take i rules) x y ++ by_end (get_or rules i d ∷ []) x y
by_end_more rules i d x y h = ap (λ l. by_end l x y) (take_more rules i d h) ∙ by_end_append (take i rules) (get_or rules i d ∷ []) x y

-- one rule more
pub through_more : (was mid is : StrictRules) (rules : List BinarisedRule) (i : ℕ) (d : BinarisedRule) (x y : ℕ) → i < length rules
    → Appends was mid (by_end (take i rules) x y) → Appends mid is (by_end (get_or rules i d ∷ []) x y) → Appends was is (by_end (take (i + 1) rules) x y)
through_more was mid is rules i d x y h a b =
    appends_same was is _ _ (sym (by_end_more rules i d x y h)) (appends_more was mid is (by_end (take i rules) x y) (by_end (get_or rules i d ∷ []) x y) a b)

-- the one rule, by the two tests
by_tests : (r : BinarisedRule) (x y : ℕ) (rules_of good : Bool) → eqb r.left y ≡ rules_of → proper_right r.right ≡ good
    → by_end (r ∷ []) x y ≡ cond rules_of (cond good (strict_rule x y (r.number, right_side_of r.right) ∷ []) []) []
by_tests r x y true true a b =
    let o : OwnRule = (r.number, right_side_of r.right) in
    ap (λ t. map (strict_rule x y) (those (λ (q : OwnRule). proper q.1) (cond t (o ∷ []) []))) a ∙ ap (λ t. map (strict_rule x y) (cond t (o ∷ []) [])) b
by_tests r x y true false a b =
    let o : OwnRule = (r.number, right_side_of r.right) in
    ap (λ t. map (strict_rule x y) (those (λ (q : OwnRule). proper q.1) (cond t (o ∷ []) []))) a ∙ ap (λ t. map (strict_rule x y) (cond t (o ∷ []) [])) b
by_tests r x y false good a b =
    let o : OwnRule = (r.number, right_side_of r.right) in ap (λ t. map (strict_rule x y) (those (λ (q : OwnRule). proper q.1) (cond t (o ∷ []) []))) a

-- a pair or pattern rule of y
pub by_end_one : (r : BinarisedRule) (x y : ℕ) → r.left ≡ y → proper_right r.right ≡ true → by_end (r ∷ []) x y ≡ strict_rule x y (r.number, right_side_of r.right) ∷ []
by_end_one r x y e p = by_tests r x y true true (eq-eqb r.left y e) p

-- a blank or lone rule of y
pub by_end_improper : (r : BinarisedRule) (x y : ℕ) → r.left ≡ y → proper_right r.right ≡ false → by_end (r ∷ []) x y ≡ []
by_end_improper r x y e p = by_tests r x y true false (eq-eqb r.left y e) p

-- a rule of another symbol
pub by_end_other : (r : BinarisedRule) (x y : ℕ) → (r.left ≡ y → ⊥) → by_end (r ∷ []) x y ≡ []
by_end_other r x y e = by_tests r x y false (proper_right r.right) (ne_eqb r.left y e) refl

-- the ends of a symbol, end by end

abbrev by_link : List BinarisedRule → Chains → ℕ → ℕ → List StrictFormRule
by_link rules c x y = cond (linked c x y) (by_end rules x y) []

by_ends_are : (rules : List BinarisedRule) (c : Chains) (x n : ℕ) → by_ends rules c x n ≡ each (by_link rules c x) (below n)
unfolding by_ends
by_ends_are rules c x n = each_those (by_end rules x) (linked c x) (below n)

pub by_ends_none : (rules : List BinarisedRule) (c : Chains) (x : ℕ) → by_ends rules c x 0 ≡ []
unfolding by_ends
by_ends_none rules c x = refl

pub by_ends_more : (rules : List BinarisedRule) (c : Chains) (x n : ℕ) → by_ends rules c x (n + 1) ≡ by_ends rules c x n ++ cond (linked c x n) (by_end rules x n) []
by_ends_more rules c x n =
    by_ends_are rules c x (n + 1) ∙ each_more (by_link rules c x) n ∙ ap (λ l. l ++ by_link rules c x n) (sym (by_ends_are rules c x n))

-- symbol by symbol

pub found_none : {A B : Type 0} (f : A → B) (xs : List A) → xs ≡ [] → (map f xs ≡ []) × (true ≡ true)
found_none f xs e = (ap (map f) e, refl)

-- all symbols: those without rules give nothing

own_none : (y : ℕ) (rs : List Rule) → ((r : Rule) → Mem r rs → r.left ≡ y → ⊥) → rules_in y rs ≡ []
own_none y [] h = refl
own_none y (r ∷ rs) h =
    ap (λ b. cond b ((r.number, r.right) ∷ rules_in y rs) (rules_in y rs)) (ne_eqb r.left y (h r (inl refl))) ∙ own_none y rs (λ q m. h q (inr m))

own_past : (rules : List BinarisedRule) (S y : ℕ) → Bounded (binarised_of rules S) → S ≤ y → rules_in y (map rule_of rules) ≡ []
own_past rules S y b h = own_none y (map rule_of rules) (λ r m e. let k = b r m in omega arith)

by_end_past : (rules : List BinarisedRule) (S x y : ℕ) → Bounded (binarised_of rules S) → S ≤ y → by_end rules x y ≡ []
by_end_past rules S x y b h = ap (λ l. map (strict_rule x y) (those (λ (o : OwnRule). proper o.1) l)) (own_past rules S y b h)

nothing_either : (b : Bool) → let none : List StrictFormRule = [] in cond b none none ≡ none
nothing_either true = refl
nothing_either false = refl

by_link_past : (rules : List BinarisedRule) (c : Chains) (S x y : ℕ) → Bounded (binarised_of rules S) → S ≤ y → by_link rules c x y ≡ []
by_link_past rules c S x y b h = ap (λ l. cond (linked c x y) l []) (by_end_past rules S x y b h) ∙ nothing_either (linked c x y)

steps_none : (B : Binarised) (x : ℕ) → rules_of B x ≡ [] → steps B x ≡ []
unfolding steps
steps_none B x e = ap (each (λ (o : OwnRule). steps_by (nullable B) x o.0 o.1)) e

-- from a symbol without unit steps a chain leads to that symbol alone
pub within_none : (B : Binarised) (x y k : ℕ) → steps B x ≡ [] → within B y k x ≡ eqb x y
unfolding within
within_none B x y zero e = refl
within_none B x y (suc k) e =
    ap₂ (λ b l. b || some_of (λ (s : ChainStep). within B y k s.to) l) (within_none B x y k e) e ∙ or-false (eqb x y)

own_of : (rules : List BinarisedRule) (S y : ℕ) → rules_of (binarised_of rules S) y ≡ rules_in y (map rule_of rules)
unfolding rules_of
own_of rules S y = refl

module _ (rules : List BinarisedRule) (c : Chains) (S : ℕ) (bounded : Bounded (binarised_of rules S)) (chosen : ChainsWithin (binarised_of rules S) (binarised_of rules S).symbols c) (N : ℕ) (few : N ≤ 128) where
  abbrev B : Binarised
  B = binarised_of rules S

  table : (x y : ℕ) → x < 128 → y < 128 → linked c x y ≡ within B y S x
  table = link_leads B c chosen

  alone : (x y : ℕ) → S ≤ x → (x ≡ y → ⊥) → within B y S x ≡ false
  alone x y h ne = within_none B x y S (steps_none B x (own_of rules S x ∙ own_past rules S x bounded h)) ∙ ne_eqb x y ne

  symbol_past : (x : ℕ) → S ≤ x → x < N → by_ends rules c x N ≡ []
  symbol_past x h l = by_ends_are rules c x N ∙ each_shorter (by_link rules c x) 0 N (omega arith) (λ y a k. elim (cases_lt y S) [
    | inl j ↦ ap (λ b. cond b (by_end rules x y) [])
        (table x y (omega arith) (omega arith) ∙ alone x y h (λ e. omega arith))
    | inr j ↦ by_link_past rules c S x y bounded j
  ])

  symbol_is : (x : ℕ) → S ≤ N → x < S → by_ends rules c x N ≡ strict_rules_of B x
  unfolding strict_rules_of reached rules_of
  symbol_is x s h =
      by_ends_are rules c x N
      ∙ each_shorter (by_link rules c x) S N s (λ y a k. by_link_past rules c S x y bounded a)
      ∙ each_same (by_link rules c x) (λ y. cond (within B y S x) (by_end rules x y) []) S
      (λ y k. ap (λ b. cond b (by_end rules x y) []) (table x y (omega arith) (omega arith)))
      ∙ sym (each_those (by_end rules x) (λ y. within B y S x) (below S))

  -- a symbol past the bound has no strict rules
  strict_past : (x : ℕ) → S ≤ x → strict_rules_of B x ≡ []
  unfolding strict_rules_of reached rules_of
  strict_past x h =
      each_those (by_end rules x) (λ y. within B y S x) (below S)
      ∙ each_shorter (λ y. cond (within B y S x) (by_end rules x y) []) 0 S (omega arith) (λ y a k. ap (λ b. cond b (by_end rules x y) []) (alone x y h (λ e. omega arith)))

  -- what is found of a symbol is its strict rules
  pub symbol_found : (x : ℕ) → S ≤ N → x < N → by_ends rules c x N ≡ strict_rules_of B x
  symbol_found x s l = elim (cases_lt x S) [ inl h ↦ symbol_is x s h | inr h ↦ symbol_past x h l ∙ sym (strict_past x h) ]

  -- what is found is the grammar's strict rules
  pub strict_rules_found : S ≤ N → each (strict_rules_of B) (below N) ≡ strict_rules B
  unfolding strict_rules
  strict_rules_found s = each_shorter (strict_rules_of B) S N s (λ x a k. strict_past x a)
