-- The chart's equations, and what its yes/no cells say.
use Rattle.std.proofs.Common.{◌≡◌, ℕ, ◌<◌, Bool, true, false, cond, ltb, ◌↔◌, List, [], ◌∷◌, ◌++◌, length, get_or, take, sym, refl, ap, ◌∙◌, subst, ap₂, true≢false, arith, length-append, drop-cons}
use mathlib.Core.Path.{fun_ext}
use Rattle.grammar.specs.Lists.{span, Mem, Cut, cuts}
use Rattle.grammar.specs.Binarised.{Right, empty, unit, binary, terminal, rule, Binarised, Has, Tree, fork, leaf, Derives, by_empty, by_unit, by_binary, by_terminal}
use Rattle.grammar.specs.Semiring.{Ops, Semiring}
use Rattle.grammar.specs.Productions.{Book, Sound}
use Rattle.grammar.specs.Weighings.{yes_no}
use Rattle.grammar.specs.Cells.{cell, cell_in}
use Rattle.grammar.specs.Taken.{yes_cell}
use Rattle.grammar.specs.Strict.{strict_form}
use Rattle.grammar.specs.Binarise.{binarised}
use Rattle.grammar.specs.Weights.{binarised_weight, cell_of}
use Rattle.grammar.specs.Grammars.{Symbol, nonterminal, letter, right_symbols, Generates, strict_grammar}
use Rattle.grammar.proofs.Short.{rule_production}
use Rattle.grammar.specs.Promises.{CellSets, Equations, ByPlace, YesCells}
use Rattle.grammar.proofs.Lists.{mem_map, map_mem, mem_cuts, cuts_mem}
use Rattle.grammar.proofs.Spans.{cell_span, span_kept}
use Rattle.grammar.proofs.StrictFound.{strict_found}
use Rattle.grammar.proofs.CellEquations.{cell_one, cell_more}
use Rattle.grammar.proofs.Theorems.{yes_cell_exact}
use Rattle.grammar.proofs.BinarisedRules.{binarised_bounded}
use Rattle.grammar.proofs.Grammars.{generates_derives}
use Rattle.grammar.proofs.StrictForm.{derived, strict_has, strictly}

pub cell_equations : {V : Type 0} (M : Ops V) → Semiring M → (E : Type 0) → (W : Book) (fits : E → ℕ → Bool) (x : ℕ) → Equations W M fits x
cell_equations M L E W fits x = record {
  one_event = λ e. cell_one M L fits (binarised W) (binarised_weight W M) x e;
  more_events = λ e f w. cell_more M L fits (binarised W) (binarised_weight W M) x e f w;
}

span_one : {E : Type 0} (ev : List E) (i : ℕ) (d : E) → i < length ev → span ev i 1 ≡ get_or ev i d ∷ []
span_one ev i d h = ap (take 1) (drop-cons ev i d h)

pub span_equations : {V : Type 0} (M : Ops V) → Semiring M → (E : Type 0) → (W : Book) (fits : E → ℕ → Bool) (ev : List E) (x i : ℕ) → ByPlace W M fits ev x i
span_equations M L E W fits ev x i = record {
  one_event = λ d h. ap (cell_of W M fits x) (span_one ev i d h) ∙ cell_one M L fits (binarised W) (binarised_weight W M) x (get_or ev i d);
  more_events = λ l h k. cell_span M L fits (binarised W) (binarised_weight W M) ev x i l h k;
  events_after = λ later l h. ap (cell_of W M fits x) (span_kept ev later i l h);
  of_symbol = λ h. strict_found (binarised W) x h;
}

-- over no events a cell says no
no_events : (W : Book) {E : Type 0} (fits : E → ℕ → Bool) (x : ℕ) → yes_cell (binarised W) fits x [] ≡ false
unfolding cell cell_in
no_events W fits x = refl

pub yes_chart : (E : Type 0) → (W : Book) → Sound W → (fits : E → ℕ → Bool) (x : ℕ) (w : List E) → YesCells W fits x w
yes_chart E W S fits x w = record { says_yes = by w; same = same w }
  where
    yes : (b : Bool) → cond b true true ≡ true
    yes true = refl
    yes false = refl

    same : (w : List E) → cell_of W yes_no fits x w ≡ yes_cell (binarised W) fits x w
    same w = ap (λ wt. cell (binarised W) yes_no wt fits x w) (fun_ext (λ y. fun_ext (λ n. yes (ltb y 32))))

    by : (w : List E) → (cell_of W yes_no fits x w ≡ true) ↔ Generates (strict_grammar W) fits x w
    by [] = (
      (λ t. absurd (true≢false (sym t ∙ same [] ∙ no_events W fits x))),
      (λ g. let k = (strictly W S fits x []).0 ((generates_derives W.patterns (strict_form (binarised W)) fits x []).0 g) in let l = k.0 in absurd (omega arith)),
    )
    by (e ∷ w) = (
      (λ t. (generates_derives W.patterns (strict_form (binarised W)) fits x (e ∷ w)).1 ((strictly W S fits x (e ∷ w)).1
          (omega arith, (yes_cell_exact (binarised W) (binarised_bounded W S) fits x (e ∷ w) (omega arith)).0 (sym (same (e ∷ w)) ∙ t)))),
      (λ g. same (e ∷ w) ∙ (yes_cell_exact (binarised W) (binarised_bounded W S) fits x (e ∷ w) (omega arith)).1
          ((strictly W S fits x (e ∷ w)).0 ((generates_derives W.patterns (strict_form (binarised W)) fits x (e ∷ w)).0 g)).1),
    )

-- the cells as sets of symbols

module _ (W : Book) (S : Sound W) {E : Type 0} (fits : E → ℕ → Bool) where
  abbrev F : Binarised
  F = strict_form (binarised W)

  strict_cell : (x : ℕ) (w : List E) → (cell_of W yes_no fits x w ≡ true) ↔ ((s : Tree) × Derives F fits x s w)
  strict_cell x w = (
    (λ t. (generates_derives W.patterns F fits x w).0 ((yes_chart E W S fits x w).says_yes.0 t)),
    (λ d. (yes_chart E W S fits x w).says_yes.1 ((generates_derives W.patterns F fits x w).1 d)),
  )

  busy : {x : ℕ} {s : Tree} {w : List E} → Derives F fits x s w → 0 < length w
  busy d = (derived W S fits d).0

  longer : (u v : List E) → 0 < length u → 0 < length v → 1 < length (u ++ v)
  longer u v h k = let e = length-append u v in omega arith

  one_back : {x : ℕ} {s : Tree} {w : List E} → Derives F fits x s w → (e : E) → w ≡ e ∷ []
      → (t : ℕ) × Mem (x, letter t ∷ []) (strict_grammar W).productions × (fits e t ≡ true)
  one_back (by_empty {x = x} {n = n} h) e q = absurd (true≢false (sym (strict_has (binarised W) x n empty h).1.3))
  one_back (by_unit {x = x} {n = n} {y = y} h d) e q = absurd (true≢false (sym (strict_has (binarised W) x n (unit y) h).1.3))
  one_back (by_binary {u = u} {v = v} h c d g) e q = absurd (let l = longer u v (busy c) (busy d) in let k = ap length (g ∙ q) in omega arith)
  one_back (by_terminal {x = x} {n = n} {p = p} {e = e'} h f) e q =
      (p, mem_map rule_production (rule x n (terminal p)) F.rules h, subst (λ z. fits z p ≡ true) (let i : e' ≡ e = cc in i) f)

  more_back : {x : ℕ} {s : Tree} {w : List E} → Derives F fits x s w → 1 < length w
      → (y : ℕ) × ((z : ℕ) × ((c : Cut E) × Mem (x, nonterminal y ∷ nonterminal z ∷ []) (strict_grammar W).productions × Mem c (cuts w)
      × (cell_of W yes_no fits y c.0 ≡ true) × (cell_of W yes_no fits z c.1 ≡ true)))
  more_back (by_empty {x = x} {n = n} h) l = absurd (true≢false (sym (strict_has (binarised W) x n empty h).1.3))
  more_back (by_unit {x = x} {n = n} {y = y} h d) l = absurd (true≢false (sym (strict_has (binarised W) x n (unit y) h).1.3))
  more_back (by_terminal h f) l = absurd (omega arith)
  more_back (by_binary {x = x} {n = n} {y = y} {z = z} {s = s} {t = t} {u = u} {v = v} {w = w} h c d g) l = (
    y,
    (
      z,
      (
        (u, v),
        mem_map rule_production (rule x n (binary y z)) F.rules h,
        subst (λ a. Mem (u, v) (cuts a)) g (mem_cuts u v (busy c) (busy d)),
        (strict_cell y u).1 (s, c),
        (strict_cell z v).1 (t, d),
      ),
    ),
  )

  -- a production of the strict grammar is a rule
  rule_from : (x : ℕ) (α : List Symbol) → Mem (x, α) (strict_grammar W).productions → (n : ℕ) × ((b : Right) × Has F x n b × (right_symbols b ≡ α))
  rule_from x α m =
      let k = map_mem rule_production (x, α) F.rules m in
      (k.0.number, (k.0.right, subst (λ z. Has F z k.0.number k.0.right) (sym (ap (λ c. c.0) k.2)) k.1, sym (ap (λ c. c.1) k.2)))

  to_terminal : (b : Right) (t : ℕ) → right_symbols b ≡ letter t ∷ [] → b ≡ terminal t
  to_terminal empty t e = let z : ◌≡◌ {A = ℕ} 0 1 = cc in absurd (omega arith)
  to_terminal (unit y) t e = let z : ◌≡◌ {A = ℕ} 0 1 = cc in absurd (omega arith)
  to_terminal (binary y z) t e = let z : ◌≡◌ {A = ℕ} 0 1 = cc in absurd (omega arith)
  to_terminal (terminal p) t e = let i : p ≡ t = cc in ap terminal i

  to_binary : (b : Right) (y z : ℕ) → right_symbols b ≡ nonterminal y ∷ nonterminal z ∷ [] → b ≡ binary y z
  to_binary empty y z e = let q : ◌≡◌ {A = ℕ} 0 1 = cc in absurd (omega arith)
  to_binary (unit a) y z e = let q : ◌≡◌ {A = ℕ} 0 1 = cc in absurd (omega arith)
  to_binary (binary a b) y z e = let i : a ≡ y = cc in let j : b ≡ z = cc in ap₂ binary i j
  to_binary (terminal p) y z e = let q : ◌≡◌ {A = ℕ} 0 1 = cc in absurd (omega arith)

  pub cell_sets : (x : ℕ) → CellSets W fits x
  cell_sets x = record {
    one_event = λ e. (
      (λ t. one_back ((strict_cell x (e ∷ [])).0 t).1 e refl),
      (λ q. let r = rule_from x (letter q.0 ∷ []) q.1 in
          (strict_cell x (e ∷ [])).1 (leaf x r.0, by_terminal (subst (Has F x r.0) (to_terminal r.1.0 q.0 r.1.2) r.1.1) q.2)),
    );
    more_events = λ w l. (
      (λ t. more_back ((strict_cell x w).0 t).1 l),
      (λ q.
          let y = q.0 in let z = q.1.0 in let k = q.1.1 in
          let r = rule_from x (nonterminal y ∷ nonterminal z ∷ []) k.1 in
          let c = (strict_cell y k.0.0).0 k.3 in
          let d = (strict_cell z k.0.1).0 k.4 in
          (strict_cell x w).1 (fork x r.0 c.0 d.0, by_binary (subst (Has F x r.0) (to_binary r.1.0 y z r.1.2) r.1.1) c.1 d.1 (cuts_mem w k.0 k.2).0)),
    );
  }

pub symbol_sets : (E : Type 0) → (W : Book) → Sound W → (fits : E → ℕ → Bool) (x : ℕ) → CellSets W fits x
symbol_sets E W S fits x = cell_sets W S fits x
