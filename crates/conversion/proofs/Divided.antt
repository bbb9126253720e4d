-- The steps by which binarised rules come to be those of a book.
use Rattle.std.proofs.Common.{◌≡◌, ℕ, ◌+◌, ◌<◌, ◌≤◌, List, [], ◌∷◌, ◌++◌, map, length, get_or, drop, refl, sym, ap, ◌∙◌, subst, ap₂, add-one, arith}
use Rattle.std.proofs.lemmas.List.{drop_more, append_assoc, length-append, length-map, get_or-map, map_push}
use Rattle.arrayvec.specs.ArrayVec.{ArrayVec, array_vec_len}
use Rattle.grammar.specs.Lists.{each, below}
use Rattle.grammar.proofs.Lists.{length_count_up, mem_map}
use Rattle.grammar.specs.Binarised.{Rule, rule, binary, Binarised}
use Rattle.grammar.specs.Productions.{Book, Sound, production, right_of, tails, tails_before, first_tail}
use Rattle.grammar.specs.Binarise.{binarise_right, binarised}
use Rattle.grammar.proofs.Short.{binarise_production, terminal_rule, binarised_rules}
use Rattle.grammar.proofs.Offers.{binarised_next, upto_length}
use Rattle.grammar.proofs.Tails.{tails_next, tails_whole, tails_within}
use Rattle.conversion.specs.declared.production.Production.{Production}
use Rattle.conversion.specs.declared.right.BinarisedRule.{BinarisedRule}
use Rattle.conversion.specs.declared.binarised.BinarisedRules.{BinarisedRules}
use Rattle.conversion.specs.Rows.{production_of}
use Rattle.conversion.specs.Views.{rule_of}
use Rattle.conversion.specs.Binarised.{rows_book, grammar_of}
use Rattle.grammar.proofs.BinarisedRules.{get_d_mem}
use Rattle.conversion.proofs.Each.{below_more}

-- the rules held
abbrev pub rules_held : BinarisedRules → List Rule
rules_held b = (grammar_of b).rules

-- these rules have come at the end, and so many symbols
abbrev pub Added : BinarisedRules → BinarisedRules → List Rule → ℕ → Type 0
Added was is more k = (rules_held is ≡ rules_held was ++ more) × (is.symbols ≡ was.symbols + k)

-- the count is the number of rules

pub rules_count : (b : BinarisedRules) → length (rules_held b) ≡ array_vec_len b.rules
rules_count b = length-map b.rules.items rule_of

pub added_count : (was is : BinarisedRules) (more : List Rule) (k : ℕ) → Added was is more k → array_vec_len is.rules ≡ array_vec_len was.rules + length more
added_count was is more k a = omega (arith, rules_count was, rules_count is, ap length a.0, length-append (rules_held was) more)

-- a rule after a tail
pub tail_push : (was mid is : BinarisedRules) (r : Rule) → mid.rules ≡ was.rules → mid.symbols ≡ was.symbols + 1
    → rules_held is ≡ rules_held mid ++ (r ∷ []) → is.symbols ≡ mid.symbols → Added was is (r ∷ []) 1
tail_push was mid is r a b c d = (c ∙ ap (λ (v : ArrayVec BinarisedRule). map rule_of v.items ++ (r ∷ [])) a, omega arith)

-- the pairs of a right side, from place k on

pub split_more : (x n z k : ℕ) (ys : List ℕ) → k + 2 < length ys
    → binarise_right x n z (drop k ys) ≡ rule x n (binary (get_or ys k 0) z) ∷ binarise_right z n (z + 1) (drop (k + 1) ys)
split_more x n z k ys h =
    let a = get_or ys k 0 in
    let b = get_or ys (k + 1) 0 in
    let c = get_or ys (k + 1 + 1) 0 in
    let rest = drop (k + 1 + 1 + 1) ys in
    let last : drop (k + 1) ys ≡ b ∷ c ∷ rest =
    drop_more ys (k + 1) 0 (omega arith) ∙ ap (λ l. b ∷ l) (drop_more ys (k + 1 + 1) 0 (omega arith)) in
    ap (binarise_right x n z) (drop_more ys k 0 (omega arith) ∙ ap (λ l. a ∷ l) last)
    ∙ ap₂ (λ l s. rule x n (binary a z) ∷ binarise_right z n s l) (sym last) (sym (add-one z))

-- the rules that have come and those that are left
abbrev pub Whole : BinarisedRules → ℕ → ℕ → ℕ → List ℕ → List Rule
Whole b x n k ys = rules_held b ++ binarise_right x n b.symbols (drop k ys)

pub pairs_more : (was is : BinarisedRules) (x n z k y t : ℕ) (ys : List ℕ) → k + 2 < length ys
    → z ≡ was.symbols → Added was is (rule x n (binary y t) ∷ []) 1 → y ≡ get_or ys k 0 → t ≡ z → Whole is z n (k + 1) ys ≡ Whole was x n k ys
pairs_more was is x n z k y t ys h a p f g =
    let m = rule x n (binary (get_or ys k 0) z) in
    let s : is.symbols ≡ z + 1 = omega (arith, a, p.1) in
    let last : rules_held is ≡ rules_held was ++ (m ∷ []) = p.0 ∙ ap (λ o. rules_held was ++ (rule x n o ∷ [])) (ap₂ binary f g) in
    ap₂ (λ l j. l ++ binarise_right z n j (drop (k + 1) ys)) last s
    ∙ append_assoc (rules_held was) (m ∷ []) (binarise_right z n (z + 1) (drop (k + 1) ys))
    ∙ ap (λ l. rules_held was ++ l) (sym (split_more x n z k ys h) ∙ ap (λ j. binarise_right x n j (drop k ys)) a)

-- the tails of the productions before one

production_in : (rows : List Production) (T n : ℕ) (d : Production) → n < length rows → production (rows_book rows T) n ≡ production_of (get_or rows n d)
unfolding production
production_in rows T n d h = get_or-map production_of rows n d _ h

-- rule n as written is the row in place n
pub production_at : (rows : List Production) (T n : ℕ) (p : Production) → n < length rows → p ≡ get_or rows n p → production (rows_book rows T) n ≡ production_of p
production_at rows T n p h e = production_in rows T n p h ∙ ap production_of (sym e)

-- production by production

-- the split rules of the first n productions
abbrev pub Upto : Book → ℕ → BinarisedRules → Type 0
Upto W n b = (rules_held b ≡ each (binarise_production W) (below n)) × (b.symbols ≡ first_tail W n)

pub upto_none : (W : Book) (rules : List BinarisedRule) → rules ≡ [] → (map rule_of rules ≡ each (binarise_production W) (below 0)) × (64 ≡ first_tail W 0)
unfolding tails_before
upto_none W rules e = (ap (map rule_of) e, refl)

pub upto_room : (rows : List Production) (T n : ℕ) (b : BinarisedRules) (p : Production) → Sound (rows_book rows T)
    → n < length rows → p ≡ get_or rows n p → Upto (rows_book rows T) n b
    → (array_vec_len b.rules + tails (production_of p).right < 160) × (b.symbols + tails (production_of p).right ≤ 128)
upto_room rows T n b p sound h e u =
    let W = rows_book rows T in
    let right : tails (right_of W n) ≡ tails (production_of p).right = ap (λ q. tails q.right) (production_at rows T n p h e) in
    let count : array_vec_len b.rules ≡ n + tails_before W n = sym (rules_count b) ∙ ap length u.0 ∙ upto_length W n in
    let sum = tails_within W n (omega (arith, length-map rows production_of)) in
    (omega (arith, u.1, sound.few_rules, sound.few_tails, length-map rows production_of), omega (arith, u.1, sound.few_tails))

-- its head is small
pub head_small : (rows : List Production) (T n : ℕ) (p : Production) → Sound (rows_book rows T) → n < length rows → p ≡ get_or rows n p → (production_of p).head < 64
head_small rows T n p sound h e =
    let l = sound.heads (production_of (get_or rows n p)) (mem_map production_of (get_or rows n p) rows (get_d_mem rows n p h)) in
    omega (arith, l, ap (λ (q : Production). q.head) e)

pub upto_more : (rows : List Production) (T n : ℕ) (was is : BinarisedRules) (p : Production) → n < length rows → p ≡ get_or rows n p
    → Upto (rows_book rows T) n was → Added was is (binarise_right (production_of p).head n was.symbols (production_of p).right) (tails (production_of p).right) → Upto (rows_book rows T) (n + 1) is
upto_more rows T n was is p h e u d =
    let W = rows_book rows T in
    let at = production_at rows T n p h e in
    let next = sym (add-one n) in (
      d.0
          ∙ ap₂ (λ l z. l ++ binarise_right (production_of p).head n z (production_of p).right) u.0 u.1
          ∙ ap (λ q. each (binarise_production W) (below n) ++ binarise_right q.head n (first_tail W n) q.right) (sym at)
          ∙ sym (binarised_next W n) ∙ ap (λ m. each (binarise_production W) (below m)) next,
      d.1 ∙ ap₂ (λ s q. s + tails q.right) u.1 (sym at) ∙ omega (arith, tails_next W n) ∙ ap (first_tail W) next,
    )

-- pattern by pattern

-- all these, and the rules of the first t patterns
abbrev pub Beyond : Book → ℕ → BinarisedRules → Type 0
Beyond W t b = (rules_held b ≡ each (binarise_production W) (below (length W.productions)) ++ map terminal_rule (below t)) × (b.symbols ≡ first_tail W (length W.productions))

pub beyond_count : (rows : List Production) (T t : ℕ) (b : BinarisedRules) → Sound (rows_book rows T) → t < T
    → Beyond (rows_book rows T) t b → array_vec_len b.rules < 160
beyond_count rows T t b sound h e =
    let W = rows_book rows T in
    let n = length W.productions in
    let all = each (binarise_production W) (below n) in
    omega (arith, rules_count b, ap length e.0, length-append all (map terminal_rule (below t)), upto_length W n, tails_whole W, length-map rows production_of, length-map (below t) terminal_rule, length_count_up 0 t, sound.few_patterns, sound.few_rules, sound.few_tails)

pub beyond_more : (W : Book) (t : ℕ) (was is : BinarisedRules) → Beyond W t was → Added was is (terminal_rule t ∷ []) 0 → Beyond W (t + 1) is
beyond_more W t was is e p =
    let all = each (binarise_production W) (below (length W.productions)) in (
      p.0 ∙ ap (λ l. l ++ (terminal_rule t ∷ [])) e.0 ∙ append_assoc all (map terminal_rule (below t)) (terminal_rule t ∷ [])
          ∙ ap (λ l. all ++ l) (sym (map_push terminal_rule (below t) t) ∙ ap (map terminal_rule) (sym (below_more t))),
      omega (arith, p.1, e.1),
    )

pub beyond_all : (W : Book) (t : ℕ) (b : BinarisedRules) → t ≡ W.patterns → Beyond W t b → (rules_held b ≡ binarised_rules W) × (b.symbols ≡ (binarised W).symbols)
unfolding binarised
beyond_all W t b e h =
    (subst (λ m. rules_held b ≡ each (binarise_production W) (below (length W.productions)) ++ map terminal_rule (below m)) e h.0, h.1 ∙ ap (λ m. 64 + m) (tails_whole W))

-- the rules and their number of symbols are the split grammar
pub split_is : (W : Book) (b : BinarisedRules) → rules_held b ≡ binarised_rules W → b.symbols ≡ (binarised W).symbols → grammar_of b ≡ binarised W
unfolding binarised
split_is W b r s = ap₂ {C = Binarised} (λ rs n. record { rules = rs; symbols = n }) r s
