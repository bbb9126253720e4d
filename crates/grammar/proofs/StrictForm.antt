-- The strict rules: what they are made of, and what they derive.
use Rattle.std.proofs.Common.{◌≡◌, ℕ, zero, ◌<◌, Bool, true, false, ◌⊎◌, ◌↔◌, List, [], ◌∷◌, ◌++◌, map, length, sym, refl, ap, subst, inl, inr, true≢false, arith, length-append}
use Rattle.grammar.specs.Lists.{cuts, Mem, those, below}
use Rattle.grammar.specs.Binarised.{Right, empty, unit, binary, terminal, rule, Has, OwnRule, rules_of, Rule, Binarised, Bounded, Tree, fork, leaf, Derives, by_empty, by_unit, by_binary, by_terminal}
use Rattle.grammar.specs.Strict.{StrictFormRule, strict_rule, strict_rules_of, strict_rules, proper, strict_form}
use Rattle.grammar.proofs.Short.{as_rule, rule_production}
use Rattle.grammar.specs.Chains.{reached, chosen_chain}
use Rattle.grammar.specs.Cells.{over_events}
use Rattle.grammar.specs.Weighings.{yes_no}
use Rattle.grammar.specs.Taken.{cut_fits, yes_cell, rule_fits, Takes, takes_terminal, takes_binary}
use Rattle.grammar.specs.Productions.{Book, Sound}
use Rattle.grammar.specs.Binarise.{binarise, binarised, Within}
use Rattle.grammar.specs.Promises.{StrictLanguage}
use Rattle.grammar.specs.Grammars.{InStrictForm, TwoNonterminals, OneTerminal, right_symbols, strict_grammar}
use Rattle.grammar.proofs.Lists.{mem_map, map_mem, each_mem, mem_each, those_mem, count_up_mem, mem_below, cuts_mem, cond_yes}
use Rattle.grammar.proofs.Nullable.{rule_has}
use Rattle.grammar.proofs.Chains.{chain_leads}
use Rattle.grammar.proofs.ChainOver.{chain_over_derives}
use Rattle.grammar.proofs.Taken.{first_mem}
use Rattle.grammar.proofs.Theorems.{nullable_exact, yes_cell_exact, reading_exact}
use Rattle.grammar.proofs.BinarisedRules.{binarised_bounded, binarised_within}
use Rattle.grammar.proofs.Binarise.{binarised_derives, binarised_back}
use Rattle.grammar.proofs.Grammars.{generates_reads, generates_derives}

-- a strict rule of x: its symbol, the symbol reached, and the rule that it ends with
pub strict_rule_of : (B : Binarised) (x : ℕ) (r : StrictFormRule) → Mem r (strict_rules_of B x)
    → (r.symbol ≡ x) × Mem r.end (reached B x) × Has B r.end r.number r.right × (proper r.right ≡ true)
unfolding strict_rules_of
strict_rule_of B x r m =
    let q = each_mem (λ y. map (strict_rule x y) (those (λ (o : OwnRule). proper o.1) (rules_of B y))) r (reached B x) m in
    let o = map_mem (strict_rule x q.0) r (those (λ (o : OwnRule). proper o.1) (rules_of B q.0)) q.2 in
    let t = those_mem (λ (o : OwnRule). proper o.1) o.0 (rules_of B q.0) o.1 in
    subst (λ (z : StrictFormRule). (z.symbol ≡ x) × Mem z.end (reached B x) × Has B z.end z.number z.right × (proper z.right ≡ true)) (sym o.2)
    (refl, q.1, rule_has B q.0 o.0 t.0, t.1)

pub strict_mem : (B : Binarised) (r : StrictFormRule) → Mem r (strict_rules B) → (r.symbol < B.symbols) × Mem r (strict_rules_of B r.symbol)
unfolding strict_rules
strict_mem B r m =
    let q = each_mem (strict_rules_of B) r (below B.symbols) m in
    let h = (strict_rule_of B q.0 r q.2).0 in
    let j = count_up_mem zero B.symbols q.0 q.1 in
    (subst (λ z. z < B.symbols) (sym h) (omega arith), subst (λ z. Mem r (strict_rules_of B z)) (sym h) q.2)

pub mem_strict : (B : Binarised) (x : ℕ) (r : StrictFormRule) → x < B.symbols → Mem r (strict_rules_of B x) → Mem r (strict_rules B)
unfolding strict_rules
mem_strict B x r l m = mem_each (strict_rules_of B) x r (below B.symbols) (mem_below B.symbols x l) m

-- a rule of the strict form is a strict rule
pub strict_has : (B : Binarised) (x n : ℕ) (b : Right) → Has (strict_form B) x n b
    → (x < B.symbols) × ((y : ℕ) × Mem y (reached B x) × Has B y n b × (proper b ≡ true))
unfolding strict_form
strict_has B x n b m =
    let k = map_mem as_rule (rule x n b) (strict_rules B) m in
    let r = k.0 in
    let e : rule x n b ≡ as_rule r = k.2 in
    let ex : r.symbol ≡ x = sym (ap (λ (q : Rule). q.left) e) in
    let en : r.number ≡ n = sym (ap (λ (q : Rule). q.number) e) in
    let eb : r.right ≡ b = sym (ap (λ (q : Rule). q.right) e) in
    let s = strict_mem B r k.1 in
    let c = strict_rule_of B r.symbol r s.1 in (
      subst (λ z. z < B.symbols) ex s.0,
      (
        r.end,
        subst (λ z. Mem r.end (reached B z)) ex c.1,
        subst (λ z. Has B r.end z b) en (subst (Has B r.end r.number) eb c.2),
        subst (λ z. proper z ≡ true) eb c.3,
      ),
    )

has_strict : (B : Binarised) (x : ℕ) (r : StrictFormRule) (b : Right) → x < B.symbols → Mem r (strict_rules_of B x) → r.right ≡ b → Has (strict_form B) x r.number b
unfolding strict_form
has_strict B x r b l m q =
    let e = (strict_rule_of B x r m).0 in
    subst (λ z. Mem (rule x r.number z) (map as_rule (strict_rules B))) q
    (subst (λ z. Mem (rule z r.number r.right) (map as_rule (strict_rules B))) e (mem_map as_rule r (strict_rules B) (mem_strict B x r l m)))

pub strict_symbols : (B : Binarised) → (strict_form B).symbols ≡ B.symbols
unfolding strict_form
strict_symbols B = refl

module _ (W : Book) (S : Sound W) {E : Type 0} (fits : E → ℕ → Bool) where
  abbrev B : Binarised
  B = binarised W

  bd : Bounded B
  bd = binarised_bounded W S

  -- what strict rules derive, binarised rules derive, and it is not empty
  pub derived : {x : ℕ} {s : Tree} {w : List E} → Derives (strict_form B) fits x s w → (0 < length w) × ((s : Tree) × Derives B fits x s w)
  derived (by_empty {x = x} {n = n} h) = absurd (true≢false (sym (strict_has B x n empty h).1.3))
  derived (by_unit {x = x} {n = n} {y = y} h d) = absurd (true≢false (sym (strict_has B x n (unit y) h).1.3))
  derived (by_binary {x = x} {n = n} {y = y} {z = z} {u = u} {v = v} {w = w} h c d e) =
      let k = (strict_has B x n (binary y z) h).1 in
      let i = derived c in
      let j = derived d in (
        subst (λ z. 0 < length z) e (longer u v i.0),
        (
          _,
          chain_over_derives B bd fits x (chosen_chain B x k.0) k.0 (fork k.0 n i.1.0 j.1.0) w
              (chain_leads B bd x k.0 k.1) (by_binary k.2 i.1.1 j.1.1 e),
        ),
      )
    where
      longer : (u v : List E) → 0 < length u → 0 < length (u ++ v)
      longer u v l = let e = length-append u v in omega arith
  derived (by_terminal {x = x} {n = n} {p = p} {e = e} h f) =
      let k = (strict_has B x n (terminal p) h).1 in (
        omega arith,
        (_, chain_over_derives B bd fits x (chosen_chain B x k.0) k.0 (leaf k.0 n) (e ∷ []) (chain_leads B bd x k.0 k.1) (by_terminal k.2 f)),
      )

  -- the derivation taken is one by strict rules
  taken_strictly : {x : ℕ} {s : Tree} {w : List E} → x < B.symbols → Takes B fits x s w → (t : Tree) × Derives (strict_form B) fits x t w
  taken_strictly l (takes_terminal {x} {p} {e} r f q) =
      let m = first_mem (rule_fits B fits (e ∷ [])) (strict_rules_of B x) r f in
      (leaf x r.number, by_terminal (has_strict B x r (terminal p) l m.0 q) (fitting r.right q m.1))
    where
      fitting : (b : Right) → b ≡ terminal p → over_events yes_no fits (yes_cell B fits) b (e ∷ []) ≡ true → fits e p ≡ true
      fitting b q t = cond_yes (fits e p) (subst (λ b. over_events yes_no fits (yes_cell B fits) b (e ∷ []) ≡ true) q t)
  taken_strictly l (takes_binary {x} {a} {b} {s} {t} {w} r c f q g d d') =
      let m = first_mem (rule_fits B fits w) (strict_rules_of B x) r f in
      let k = strict_rule_of B x r m.0 in
      let h = binarised_within W S r.end r.number (binary a b) (subst (Has B r.end r.number) q k.2) in
      let n = first_mem (cut_fits B fits a b) (cuts w) c g in
      let i = taken_strictly h.0 d in
      let j = taken_strictly h.1 d' in
      (fork x r.number i.0 j.0, by_binary (has_strict B x r (binary a b) l m.0 q) i.1 j.1 (cuts_mem w c n.0).0)

  -- a symbol that derives is one of the symbols
  derives_small : {x : ℕ} {s : Tree} {w : List E} → Derives B fits x s w → x < B.symbols
  derives_small (by_empty h) = bd _ h
  derives_small (by_unit h d) = bd _ h
  derives_small (by_binary h c d e) = bd _ h
  derives_small (by_terminal h f) = bd _ h

  -- strict rules derive what binarised rules derive, but not the empty trace
  pub strictly : (x : ℕ) (w : List E) → ((t : Tree) × Derives (strict_form B) fits x t w) ↔ ((0 < length w) × ((s : Tree) × Derives B fits x s w))
  strictly x w = (
    (λ d. derived d.1),
    (λ q. taken_strictly (derives_small q.1.1)
        ((reading_exact B bd fits x w).0 ((yes_cell_exact B bd fits x w q.0).1 q.1)).1),
  )

  strict_side : (b : Right) → proper b ≡ true → Within B.symbols W.patterns b
      → TwoNonterminals (strict_grammar W) (right_symbols b) ⊎ OneTerminal (strict_grammar W) (right_symbols b)
  strict_side empty p w = absurd (true≢false (sym p))
  strict_side (unit y) p w = absurd (true≢false (sym p))
  strict_side (binary y z) p w = inl (y, (z, subst (λ n. y < n) (sym (strict_symbols B)) w.0, subst (λ n. z < n) (sym (strict_symbols B)) w.1, refl))
  strict_side (terminal t) p w = inr (t, w, refl)

  in_form : InStrictForm (strict_grammar W)
  in_form x α m =
      let k = map_mem rule_production (x, α) (strict_form B).rules m in
      let r = k.0 in
      let h = strict_has B r.left r.number r.right k.1 in
      let ex : r.left ≡ x = sym (ap (λ c. c.0) k.2) in
      let ea : right_symbols r.right ≡ α = sym (ap (λ c. c.1) k.2) in (
        subst (λ z. z < (strict_form B).symbols) ex (subst (λ n. r.left < n) (sym (strict_symbols B)) h.0),
        subst (λ γ. TwoNonterminals (strict_grammar W) γ ⊎ OneTerminal (strict_grammar W) γ) ea
            (strict_side r.right h.1.3 (binarised_within W S h.1.0 r.number r.right h.1.2)),
      )

  pub strict_language : StrictLanguage W fits
  strict_language = record {
    in_form = in_form;
    of_symbol = λ x w. (
      (λ g. let k = (strictly x w).0 ((generates_derives W.patterns (strict_form B) fits x w).0 g) in (k.0, (generates_derives W.patterns B fits x w).1 k.1)),
      (λ q. (generates_derives W.patterns (strict_form B) fits x w).1 ((strictly x w).1 (q.0, (generates_derives W.patterns B fits x w).0 q.1))),
    );
    of_head = λ x w small. (
      (λ g. let k = (strictly x w).0 ((generates_derives W.patterns (strict_form B) fits x w).0 g) in
          let q = binarised_back W S fits small k.1.1 in (k.0, (generates_reads W fits x w).1 (q.0, q.1))),
      (λ q. let r = (generates_reads W fits x w).0 q.1 in
          (generates_derives W.patterns (strict_form B) fits x w).1 ((strictly x w).1 (q.0, (binarise W r.0, binarised_derives W S fits r.1)))),
    );
    never_empty = λ x g. let k = (strictly x []).0 ((generates_derives W.patterns (strict_form B) fits x []).0 g) in let l = k.0 in omega arith;
    empty_trace = λ x small. (
      (λ t. let k = (nullable_exact B bd fits x).0 t in let q = binarised_back W S fits small k.1 in (generates_reads W fits x []).1 (q.0, q.1)),
      (λ g. let r = (generates_reads W fits x []).0 g in (nullable_exact B bd fits x).1 (binarise W r.0, binarised_derives W S fits r.1)),
    );
  }

pub strict_forms : (E : Type 0) → (W : Book) → Sound W → (fits : E → ℕ → Bool) → StrictLanguage W fits
strict_forms E W S fits = strict_language W S fits
