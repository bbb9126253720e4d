-- How the derivation taken goes on, from the first strict rule that fits and the first cut that does.
use Rattle.std.proofs.Common.{◌≡◌, ℕ, suc, ◌+◌, ◌-◌, ◌<◌, ◌≤◌, Bool, true, false, cond, eqb, ◌&&◌, Some, None, Option, is_some, List, [], ◌∷◌, map, length, get_or, take, drop, sym, refl, ap, ◌∙◌, subst, ap₂, true≢false, inl, inr, arith}
use mathlib.Core.Path.{fun_ext}
use Rattle.std.proofs.lemmas.List.{take_all, length-map}
use Rattle.std.proofs.lemmas.Bool.{and_parts, and_from, cases_Bool, eq-eqb, ne_eqb}
use Rattle.grammar.specs.Lists.{Mem, First, Cut, some_of, cuts, count_up, span}
use Rattle.grammar.specs.Binarised.{Right, unit, binary, terminal, Binarised, Bounded, Has, Tree, leaf, fork}
use Rattle.grammar.specs.Chains.{ChainStep, Leads, UnitChain, nothing, the_right, the_left, chosen_chain}
use Rattle.grammar.specs.Strict.{StrictFormRule, proper, strict_rules, strict_rules_of}
use Rattle.grammar.specs.Taken.{step_over, chain_over, yes_cell, rule_fits, cut_fits, Takes, takes_terminal, takes_binary}
use Rattle.grammar.proofs.Short.{each_yes}
use Rattle.grammar.specs.Cells.{over_events}
use Rattle.grammar.specs.Weighings.{yes_no}
use Rattle.grammar.specs.Productions.{Book, Sound}
use Rattle.grammar.specs.Binarise.{binarised, Within}
use Rattle.grammar.proofs.Lists.{some_from, some_gives, count_up_mem}
use Rattle.grammar.proofs.Taken.{yes_no_laws, first_mem, sum_some, chain_yes, reading_some}
use Rattle.grammar.proofs.Coherent.{reading_below}
use Rattle.grammar.proofs.CellEquations.{cell_eq}
use Rattle.grammar.proofs.Spans.{cuts_places, span_left, span_right, span_length}
use Rattle.grammar.proofs.Chains.{chain_leads, chain_self, reached_mem}
use Rattle.grammar.proofs.StrictFound.{strict_found}
use Rattle.grammar.proofs.StrictForm.{strict_rule_of as rule_facts, strict_mem}
use Rattle.grammar.proofs.StrictOrder.{strict_listed}
use Rattle.grammar.proofs.BinarisedRules.{terminal_has, symbol_rule, binarised_bounded, binarised_within}
use Rattle.conversion.specs.declared.chain.UnitStep.{UnitStep}
use Rattle.conversion.specs.declared.chain.Chain.{Chain}
use Rattle.conversion.specs.declared.chain.Chain.TheVariants.{Empty, Steps}
use Rattle.conversion.specs.declared.strict.StrictRule.{StrictRule}
use Rattle.conversion.specs.Views.{drop_of, step_of, strict_rule_of}
use Rattle.conversion.specs.Linked.{Chosen}
use Rattle.conversion.proofs.Walking.{shortest_chain}
use Rattle.book.proofs.Held.{seen}
use Rattle.chart.specs.Inner.{cut_after, FirstCut}
use Rattle.chart.proofs.Firsts.{first_one, first_at, none_more, some_those, first_those, some_map, first_map}
use Rattle.chart.proofs.StrictWeights.{chosen_there}

module _ (B : Binarised) {E : Type 0} (fits : E → ℕ → Bool) where
  -- the yes/no cell says whether a strict rule fits
  pub cell_some : (x : ℕ) (w : List E) → 0 < length w → yes_cell B fits x w ≡ some_of (rule_fits B fits w) (strict_rules_of B x)
  cell_some x w h = cell_eq yes_no yes_no_laws fits B each_yes x w h ∙ sum_some _ (strict_rules_of B x)
      ∙ ap (λ p. some_of p (strict_rules_of B x)) (fun_ext (λ r. ap (λ b. b && rule_fits B fits w r) (and_from _ _ (chain_yes B (chosen_chain B r.symbol r.end)) refl)))

  -- where one does, a derivation is taken
  pub taken_some : (x : ℕ) (w : List E) (r : StrictFormRule) → 0 < length w → First (rule_fits B fits w) (strict_rules_of B x) r → (s : Tree) × Takes B fits x s w
  taken_some x w r h f =
      let m = first_mem (rule_fits B fits w) (strict_rules_of B x) r f in
      reading_some B fits x w (cell_some x w h ∙ some_from (rule_fits B fits w) r (strict_rules_of B x) m.0 m.1)

  -- the rule has a chain: the derivation is its first step over the one taken from there
  pub step_taken : Bounded B → (x : ℕ) (w : List E) (r : StrictFormRule) (s : ChainStep) (c : List ChainStep) → 0 < length w
      → First (rule_fits B fits w) (strict_rules_of B x) r → chosen_chain B x r.end ≡ s ∷ c
      → (t : Tree) × Takes B fits s.to t w × Takes B fits x (step_over B s.from s.number s.dropped t) w
  step_taken bounded x w r s c h f e =
      let k = taken_some x w r h f in
      let b = reading_below B bounded fits x k.0 w k.1 in
      let q : r ≡ b.0 = first_one (rule_fits B fits w) (strict_rules_of B x) r b.0 f b.1 in
      let z = b.2 s c (ap (λ (a : StrictFormRule). chosen_chain B x a.end) (sym q) ∙ e) in
      (z.0, z.1, subst (λ t. Takes B fits x t w) z.2 k.1)

  -- it has none, and is a terminal rule: the derivation is a leaf
  pub leaf_taken : (x p : ℕ) (w : List E) (r : StrictFormRule) → First (rule_fits B fits w) (strict_rules_of B x) r → chosen_chain B x r.end ≡ [] → r.right ≡ terminal p
      → Takes B fits x (leaf r.end r.number) w
  leaf_taken x p w r f e q = one w f (subst (λ b. over_events yes_no fits (yes_cell B fits) b w ≡ true) q (first_mem (rule_fits B fits w) (strict_rules_of B x) r f).1)
    where
      one : (w : List E) → First (rule_fits B fits w) (strict_rules_of B x) r → over_events yes_no fits (yes_cell B fits) (terminal p) w ≡ true → Takes B fits x (leaf r.end r.number) w
      one [] f t = absurd (true≢false (sym t))
      one (d ∷ []) f t = subst (λ c. Takes B fits x (chain_over B c (leaf r.end r.number)) (d ∷ [])) e (takes_terminal r f q)
      one (d ∷ d' ∷ w) f t = absurd (true≢false (sym t))

  -- it has none, and is a binary rule: the derivation is a fork over those taken of the two parts of the first cut
  pub fork_taken : (x a b : ℕ) (w : List E) (r : StrictFormRule) (c : Cut E) → First (rule_fits B fits w) (strict_rules_of B x) r → chosen_chain B x r.end ≡ [] → r.right ≡ binary a b
      → First (cut_fits B fits a b) (cuts w) c
      → (s : Tree) × ((t : Tree) × Takes B fits a s c.0 × Takes B fits b t c.1 × Takes B fits x (fork r.end r.number s t) w)
  fork_taken x a b w r c f e q g =
      let p = and_parts (yes_cell B fits a c.0) (yes_cell B fits b c.1) (first_mem (cut_fits B fits a b) (cuts w) c g).1 in
      let s = reading_some B fits a c.0 p.0 in
      let t = reading_some B fits b c.1 p.1 in (
        s.0,
        (t.0, s.1, t.1, subst (λ k. Takes B fits x (chain_over B k (fork r.end r.number s.0 t.0)) w) e (takes_binary r c f q g s.1 t.1)),
      )

  -- a binary rule fits exactly if a cut does
  pub binary_fits : (a b : ℕ) (w : List E) (r : StrictFormRule) → r.right ≡ binary a b → rule_fits B fits w r ≡ some_of (cut_fits B fits a b) (cuts w)
  binary_fits a b w r q = ap (λ k. over_events yes_no fits (yes_cell B fits) k w) q ∙ sum_some (cut_fits B fits a b) (cuts w)

-- the cuts of a span
pub cuts_spans : {E : Type 0} (es : List E) (i n : ℕ) → i + n ≤ length es → cuts (span es i n) ≡ map (cut_after es i n) (count_up 1 (n - 1))
cuts_spans {E} es i n h =
    cuts_places (span es i n) ∙ ap (λ k. map at_place (count_up 1 (k - 1))) (span_length es i n h)
    ∙ same (count_up 1 (n - 1)) (λ m j. let k = count_up_mem 1 (n - 1) m j in omega arith)
  where
    at_place : ℕ → Cut E
    at_place m = (take m (span es i n), drop m (span es i n))

    same : (ms : List ℕ) → ((m : ℕ) → Mem m ms → m ≤ n) → map at_place ms ≡ map (cut_after es i n) ms
    same [] l = refl
    same (m ∷ ms) l = ap₂ ◌∷◌ (ap₂ (λ (u v : List E). (u, v)) (span_left es i n m (l m (inl refl))) (span_right es i n m (l m (inl refl)))) (same ms (λ k j. l k (inr j)))

module _ (B : Binarised) {E : Type 0} (fits : E → ℕ → Bool) (y z : ℕ) (es : List E) (i n : ℕ) (all : i + n ≤ length es) where
  -- the cut after m events fits
  abbrev pub fits_after : ℕ → Bool
  fits_after m = cut_fits B fits y z (cut_after es i n m)

  -- the first number of events whose cut fits gives the first cut
  pub cut_first : (m : ℕ) → First fits_after (count_up 1 (n - 1)) m → First (cut_fits B fits y z) (cuts (span es i n)) (cut_after es i n m)
  cut_first m f = subst (λ cs. First (cut_fits B fits y z) cs (cut_after es i n m)) (sym (cuts_spans es i n all)) (first_map (cut_after es i n) (cut_fits B fits y z) (count_up 1 (n - 1)) m f)

  pub cut_none : (k : ℕ) → k ≡ n → some_of fits_after (count_up 1 (k - 1)) ≡ false → some_of (cut_fits B fits y z) (cuts (span es i n)) ≡ false
  cut_none k e f = ap (some_of (cut_fits B fits y z)) (cuts_spans es i n all) ∙ some_map (cut_after es i n) (cut_fits B fits y z) (count_up 1 (n - 1))
      ∙ ap (λ j. some_of fits_after (count_up 1 (j - 1))) (sym e) ∙ f

  -- what is found says whether there is such a cut
  pub found_fits : (o : Option ℕ) → FirstCut B fits y z es i n o → is_some o ≡ some_of (cut_fits B fits y z) (cuts (span es i n))
  found_fits None e = sym e
  found_fits (Some m) f =
      let k = first_mem (cut_fits B fits y z) (cuts (span es i n)) (cut_after es i n m) f in
      sym (some_from (cut_fits B fits y z) (cut_after es i n m) (cuts (span es i n)) k.0 k.1)

-- there are 64 symbols and more
pub symbols_least : (W : Book) → 64 ≤ (binarised W).symbols
unfolding binarised
symbols_least W = omega arith

-- the right side of a strict rule is made of the symbols and the patterns
pub strict_right : (W : Book) → Sound W → (r : StrictFormRule) → Mem r (strict_rules (binarised W)) → Within (binarised W).symbols W.patterns r.right
strict_right W S r m = binarised_within W S r.end r.number r.right (((strict_listed W S).is_list.exactly r).0 m).is_rule

-- the symbol 32 + t has one strict rule, to pattern t
module _ (W : Book) (S : Sound W) where
  -- no unit step leads from it
  none_leads : (t : ℕ) → t < W.patterns → (s : ChainStep) → s.from ≡ 32 + t → Leads (binarised W) s.from s.number s.dropped s.to → ⊥
  none_leads t h s e l = by s.dropped l
    where
      small : s.from < 64
      small = let f = S.few_patterns in omega arith

      by : (d : _) → Leads (binarised W) s.from s.number d s.to → ⊥
      by nothing l = let k = symbol_rule W S s.from s.number (unit s.to) (omega arith) small l in let e = k.1.2 in cc
      by (the_right z) l = let k = symbol_rule W S s.from s.number (binary s.to z) (omega arith) small l.0 in let e = k.1.2 in cc
      by (the_left z) l = let k = symbol_rule W S s.from s.number (binary z s.to) (omega arith) small l.0 in let e = k.1.2 in cc

  pub symbol_right : (t : ℕ) → t < W.patterns → (r : StrictFormRule) → Mem r (strict_rules_of (binarised W) (32 + t)) → r.right ≡ terminal t
  symbol_right t h r m =
      let k = rule_facts (binarised W) (32 + t) r m in
      at (end (chosen_chain (binarised W) (32 + t) r.end) (chain_leads (binarised W) (binarised_bounded W S) (32 + t) r.end k.1)) k.2
    where
      end : (c : List ChainStep) → UnitChain (binarised W) (32 + t) c r.end → 32 + t ≡ r.end
      end [] e = e
      end (s ∷ c) l = absurd (none_leads t h s l.0 l.1)

      at : 32 + t ≡ r.end → Has (binarised W) r.end r.number r.right → r.right ≡ terminal t
      at e k =
          let f = S.few_patterns in
          let q = symbol_rule W S r.end r.number r.right (omega arith) (omega arith) k in
          let same : q.1.0 ≡ t = let i = q.1.1 in omega arith in
          q.1.2 ∙ ap terminal same

  pub symbol_strict : (t : ℕ) → t < W.patterns → Mem (record { symbol = 32 + t; end = 32 + t; number = 255; right = terminal t }) (strict_rules_of (binarised W) (32 + t))
  symbol_strict t h =
      let r : StrictFormRule = record { symbol = 32 + t; end = 32 + t; number = 255; right = terminal t } in
      let has = terminal_has W t h in
      (strict_mem (binarised W) r (((strict_listed W S).is_list.exactly r).1
      (record { a_symbol = binarised_bounded W S _ has; reaches = ([], refl); is_rule = has; is_proper = refl }))).1

  module _ {E : Type 0} (fits : E → ℕ → Bool) where
    -- so its cell over an event says whether the pattern fits
    pub symbol_cell : (t : ℕ) → t < W.patterns → (e : E) → yes_cell (binarised W) fits (32 + t) (e ∷ []) ≡ fits e t
    symbol_cell t h e = cell_some (binarised W) fits (32 + t) (e ∷ []) (omega arith) ∙ elim (cases_Bool (fits e t)) [
      | inl y ↦ some_from (rule_fits (binarised W) fits (e ∷ [])) _ (strict_rules_of (binarised W) (32 + t)) (symbol_strict t h) (ap (λ b. cond b true false) y) ∙ sym y
      | inr n ↦ elim (cases_Bool (some_of (rule_fits (binarised W) fits (e ∷ [])) (strict_rules_of (binarised W) (32 + t)))) [
        | inl y ↦
            let k = some_gives (rule_fits (binarised W) fits (e ∷ [])) (strict_rules_of (binarised W) (32 + t)) y in
            absurd (true≢false (sym k.2 ∙ ap (λ b. over_events yes_no fits (yes_cell (binarised W) fits) b (e ∷ [])) (symbol_right t h k.0 k.1) ∙ ap (λ b. cond b true false) n))
        | inr z ↦ z ∙ sym n
      ]
    ]

    -- a terminal rule fits exactly if there is one event, and its symbol has a derivation of it
    pub terminal_fits_one : (t : ℕ) → t < W.patterns → (w : List E) (r : StrictFormRule) → r.right ≡ terminal t
        → rule_fits (binarised W) fits w r ≡ (eqb (length w) 1 && yes_cell (binarised W) fits (32 + t) w)
    terminal_fits_one t h w r q = ap (λ b. over_events yes_no fits (yes_cell (binarised W) fits) b w) q ∙ by w
      where
        by : (w : List E) → over_events yes_no fits (yes_cell (binarised W) fits) (terminal t) w ≡ (eqb (length w) 1 && yes_cell (binarised W) fits (32 + t) w)
        by [] = refl
        by (e ∷ []) = one (fits e t) ∙ sym (symbol_cell t h e)
          where
            one : (b : Bool) → cond b true false ≡ b
            one true = refl
            one false = refl
        by (e ∷ f ∷ w) = sym (ap (λ b. b && yes_cell (binarised W) fits (32 + t) (e ∷ f ∷ w)) (ne_eqb (suc (suc (length w))) 1 (λ q. omega arith)))

pub rule_of_symbol : (B : Binarised) (x : ℕ) (r : StrictFormRule) → Mem r (strict_rules B) → r.symbol ≡ x → Mem r (strict_rules_of B x)
rule_of_symbol B x r m e = subst (λ y. Mem r (strict_rules_of B y)) e (strict_mem B r m).1

-- the first strict rule of x that passes a test, in the list of all
module _ (B : Binarised) (x : ℕ) (x< : x < B.symbols) (q : StrictFormRule → Bool) (l : List StrictRule) (are : map strict_rule_of l ≡ strict_rules B) where
  -- a rule of x that passes
  abbrev passes : StrictFormRule → Bool
  passes r = eqb r.symbol x && q r

  as_many : length (strict_rules B) ≡ length l
  as_many = sym (ap length are) ∙ length-map l strict_rule_of

  pub rule_first : (i : ℕ) (d : StrictRule) → i < length l → some_of passes (take i (strict_rules B)) ≡ false → (get_or l i d).symbol ≡ x → q (strict_rule_of (get_or l i d)) ≡ true
      → First q (strict_rules_of B x) (strict_rule_of (get_or l i d))
  rule_first i d h none e t =
      let r : StrictFormRule = strict_rule_of (get_or l i d) in
      let at : get_or (strict_rules B) i r ≡ r = sym (seen strict_rule_of l (strict_rules B) i d are h r) in
      let here : passes (get_or (strict_rules B) i r) ≡ true = ap passes at ∙ and_from (eqb r.symbol x) (q r) (eq-eqb r.symbol x e) t in
      subst (λ rs. First q rs r) (strict_found B x x<) (first_those (λ (r : StrictFormRule). eqb r.symbol x) q (strict_rules B) r
      (subst (First passes (strict_rules B)) at (first_at passes (strict_rules B) i r (omega (arith, as_many)) none here)))

  pub rule_next : (i : ℕ) (d : StrictRule) → i < length l → some_of passes (take i (strict_rules B)) ≡ false → passes (strict_rule_of (get_or l i d)) ≡ false
      → some_of passes (take (i + 1) (strict_rules B)) ≡ false
  rule_next i d h none n =
      let r : StrictFormRule = strict_rule_of (get_or l i d) in
      let at : get_or (strict_rules B) i r ≡ r = sym (seen strict_rule_of l (strict_rules B) i d are h r) in
      none_more passes (strict_rules B) i r (omega (arith, as_many)) none (ap passes at ∙ n)

  pub rule_none : (i : ℕ) → length l ≤ i → some_of passes (take i (strict_rules B)) ≡ false → some_of q (strict_rules_of B x) ≡ false
  rule_none i h none =
      ap (some_of q) (sym (strict_found B x x<)) ∙ some_those (λ (r : StrictFormRule). eqb r.symbol x) q (strict_rules B)
      ∙ ap (some_of passes) (sym (take_all i (strict_rules B) (omega (arith, as_many)))) ∙ none

-- the chosen chain of a strict rule of x, as the table says
module _ (W : Book) (S : Sound W) (x : ℕ) (r : StrictFormRule) (m : Mem r (strict_rules_of (binarised W) x)) where
  -- it has no step only if the rule is of x itself
  pub no_step : (o : Option Chain) → ((k : ℕ) (s : UnitStep) → o ≡ Some (Steps k s) → ⊥) → (x < 128 → r.end < 128 → Chosen (binarised W) x r.end o) → r.end ≡ x
  no_step o n told = by o n (chosen_there W S x r.end (rule_facts (binarised W) x r m).1 o told)
    where
      by : (o : Option Chain) → ((k : ℕ) (s : UnitStep) → o ≡ Some (Steps k s) → ⊥) → Chosen (binarised W) x r.end o → r.end ≡ x
      by None n h = absurd (true≢false (sym (reached_mem (binarised W) (binarised_bounded W S) x r.end (rule_facts (binarised W) x r m).1).1 ∙ h))
      by (Some Empty) n h = sym h
      by (Some (Steps k s)) n h = absurd (n k s refl)

  pub a_step : (k : ℕ) (s : UnitStep) → (x < 128 → r.end < 128 → Chosen (binarised W) x r.end (Some (Steps k s))) → chosen_chain (binarised W) x r.end ≡ step_of s ∷ chosen_chain (binarised W) s.to r.end
  a_step k s told =
      let bounded = binarised_bounded W S in
      let reach = (rule_facts (binarised W) x r m).1 in
      shortest_chain (binarised W) bounded r.end (reached_mem (binarised W) bounded x r.end reach).0 x k s (chosen_there W S x r.end reach (Some (Steps k s)) told).1

  module _ (s : UnitStep) (chain_is : chosen_chain (binarised W) x r.end ≡ step_of s ∷ chosen_chain (binarised W) s.to r.end) where
    chain_goes : UnitChain (binarised W) x (step_of s ∷ chosen_chain (binarised W) s.to r.end) r.end
    chain_goes = subst (λ c. UnitChain (binarised W) x c r.end) chain_is (chain_leads (binarised W) (binarised_bounded W S) x r.end (rule_facts (binarised W) x r m).1)

    -- its first step is a step of x
    pub step_at : (s.from ≡ x) × Leads (binarised W) x s.number (drop_of s.dropped) s.to
    step_at = (chain_goes.0, subst (λ y. Leads (binarised W) y s.number (drop_of s.dropped) s.to) chain_goes.0 chain_goes.1)

    -- by which the derivation goes on
    pub step_goes : {E : Type 0} (fits : E → ℕ → Bool) (w : List E) → 0 < length w → First (rule_fits (binarised W) fits w) (strict_rules_of (binarised W) x) r
        → (t : Tree) × Takes (binarised W) fits s.to t w × Takes (binarised W) fits x (step_over (binarised W) x s.number (drop_of s.dropped) t) w
    step_goes fits w h f =
        let z = step_taken (binarised W) fits (binarised_bounded W S) x w r (step_of s) (chosen_chain (binarised W) s.to r.end) h f chain_is in
        (z.0, z.1, subst (λ y. Takes (binarised W) fits x (step_over (binarised W) y s.number (drop_of s.dropped) z.0) w) chain_goes.0 z.2)

-- a strict rule of its end, with no chain
module _ (W : Book) (S : Sound W) (r : StrictFormRule) (m : Mem r (strict_rules_of (binarised W) r.end)) where
  pub own_has : (b : Right) → r.right ≡ b → Has (binarised W) r.end r.number b
  own_has b q = subst (λ k. Has (binarised W) r.end r.number k) q (rule_facts (binarised W) r.end r m).2

  pub own_within : (b : Right) → r.right ≡ b → Within (binarised W).symbols W.patterns b
  own_within b q = binarised_within W S r.end r.number b (own_has b q)

  pub own_proper : (b : Right) → r.right ≡ b → proper b ≡ true
  own_proper b q = ap proper (sym q) ∙ (rule_facts (binarised W) r.end r m).3

  module _ {E : Type 0} (fits : E → ℕ → Bool) (w : List E) (f : First (rule_fits (binarised W) fits w) (strict_rules_of (binarised W) r.end) r) where
    pub own_leaf : (p : ℕ) → r.right ≡ terminal p → Takes (binarised W) fits r.end (leaf r.end r.number) w
    own_leaf p q = leaf_taken (binarised W) fits r.end p w r f (chain_self (binarised W) r.end) q

    pub own_fork : (a b : ℕ) (c : Cut E) → r.right ≡ binary a b → First (cut_fits (binarised W) fits a b) (cuts w) c
        → (s : Tree) × ((t : Tree) × Takes (binarised W) fits a s c.0 × Takes (binarised W) fits b t c.1 × Takes (binarised W) fits r.end (fork r.end r.number s t) w)
    own_fork a b c q g = fork_taken (binarised W) fits r.end a b w r c f (chain_self (binarised W) r.end) q g

    -- a binary rule that fits has a cut that does
    pub own_cut : (a b : ℕ) → r.right ≡ binary a b → some_of (cut_fits (binarised W) fits a b) (cuts w) ≡ false → ⊥
    own_cut a b q n = true≢false (sym (first_mem (rule_fits (binarised W) fits w) (strict_rules_of (binarised W) r.end) r f).1 ∙ binary_fits (binarised W) fits a b w r q ∙ n)
