-- The examples, shown.
use Rattle.std.proofs.Common.{◌≡◌, ℕ, zero, suc, ◌<◌, ◌≤◌, Bool, true, false, cond, ◌&&◌, eqb, ltb, List, [], ◌∷◌, length, sym, refl, ap, ◌∙◌, subst, inl, inr, arith, lit<, lit≤}
use mathlib.Core.Path.{fun_ext}
use Rattle.grammar.specs.Lists.{First, Cut, cuts}
use Rattle.grammar.specs.Productions.{Book, production, tails_before, Sound}
use Rattle.grammar.specs.Binarised.{Right, binary, terminal, Binarised, rules_of, Bounded, Tree, null, over, fork, leaf}
use Rattle.grammar.specs.Nullable.{nullable_after, nullable, nullable_tree_in}
use Rattle.grammar.specs.Strict.{StrictFormRule, strict_rules}
use Rattle.grammar.specs.Weighings.{yes_no, counts}
use Rattle.grammar.specs.Cells.{over_events, cell, feed_refusal}
use Rattle.grammar.specs.Taken.{Takes}
use Rattle.grammar.specs.Nodes.{Node, tree_nodes}
use Rattle.grammar.specs.Binarise.{binarised}
use Rattle.grammar.specs.Weights.{total_of}
use Rattle.grammar.specs.PlainReadings.{Unread}
use Rattle.grammar.specs.Answers.{of_nothing, of_events}
use Rattle.grammar.specs.Examples.{book_a, book_b, book_c, book_d, book_e, at, HasNodes, HoldsEvents, Shown}
use Rattle.grammar.proofs.Nullable.{nullable_derives}
use Rattle.grammar.proofs.Theorems.{reading_plain}
use Rattle.grammar.proofs.BinarisedRules.{binarised_bounded}
use Rattle.grammar.proofs.Binarise.{binarised_back}
use Rattle.grammar.proofs.Marks.{binarised_nodes}
use Rattle.grammar.proofs.Chart.{yes_chart}
use Rattle.grammar.proofs.Totals.{none_exact}
use Rattle.grammar.proofs.SoundBy.{within_bounds, sound_by}
use Rattle.grammar.proofs.Worked.{within_at, takes_event, takes_events, chain_over_at, chain_at, nullables_rest, nullable_at, chains_rest, strict_at, strict_same, strict_of_at, strict_of_same, tree_same, cells_at, cells_same, yes_same}

-- what is needed of a book: sound, its rounds rest at j, its chains at k
record Rests (W : Book) (j k : ℕ) : Type 0 where
  sound : Sound W
  j_small : j ≤ (binarised W).symbols
  k_small : k ≤ (binarised W).symbols
  found : nullable (binarised W) ≡ nullable_after (binarised W) j
  linked : chains_rest (binarised W) (nullable_after (binarised W) j) k ≡ true

rests : (W : Book) (j k : ℕ) → within_bounds W ≡ true → j ≤ (binarised W).symbols → k ≤ (binarised W).symbols → nullables_rest (binarised W) j ≡ true
    → chains_rest (binarised W) (nullable_after (binarised W) j) k ≡ true → Rests W j k
rests W j k b lj lk n c = let S = sound_by W b in
    record { sound = S; j_small = lj; k_small = lk; found = nullable_at (binarised W) (binarised_bounded W S) j lj n; linked = c }

module _ (W : Book) (j k : ℕ) (R : Rests W j k) where
  abbrev B : Binarised
  B = binarised W

  bd : Bounded B
  bd = binarised_bounded W R.sound

  counted_strict : length (strict_rules (binarised W)) ≡ length (strict_at B (nullable_after B j) k)
  counted_strict = ap length (strict_same B bd (nullable_after B j) R.found k R.k_small R.linked)

  has_nodes : (w : List ℕ) (s : Tree) (ks : List Node) → Takes B eqb 0 s w → tree_nodes 0 s ≡ ks → HasNodes W w ks
  has_nodes w s ks d h =
      let r = binarised_back W R.sound eqb (omega arith) (reading_plain B bd eqb 0 s w d).0 in
      (r.0, of_events r.1 (subst (λ t. Takes B eqb 0 t w) (sym r.2) d), sym (binarised_nodes W eqb R.sound 0 r.1) ∙ ap (tree_nodes 0) r.2 ∙ h)

  has_none : (ks : List Node) → nullable_after B j 0 ≡ true → tree_nodes 0 (nullable_tree_in B j 0) ≡ ks → HasNodes W [] ks
  has_none ks t h =
      let r = binarised_back W R.sound eqb (omega arith) (nullable_derives B bd eqb 0 (ap (λ g. g 0) R.found ∙ t)) in (
        r.0,
        of_nothing r.1 r.2,
        sym (binarised_nodes W eqb R.sound 0 r.1) ∙ ap (tree_nodes 0) r.2 ∙ ap (tree_nodes 0) (tree_same B bd j 0 R.j_small t) ∙ h,
      )

  unread : (e : ℕ) (w : List ℕ) → cells_at yes_no refl (strict_of_at B (nullable_after B j) k) eqb (length (e ∷ w)) 0 (e ∷ w) ≡ false → Unread W eqb (e ∷ w)
  unread e w h = (none_exact ℕ 1 (omega arith) W R.sound eqb (e ∷ w)).says_no.0
      ((yes_chart ℕ W R.sound eqb 0 (e ∷ w)).same ∙ ap (λ c. c 0 (e ∷ w)) (yes_same B bd j k R.j_small R.k_small R.found R.linked eqb) ∙ h)

  count_is : (C : ℕ) (h : ◌≡◌ {A = ℕ} ((counts C).times 1 1) 1) (e : ℕ) (w : List ℕ) (n : ℕ)
      → cells_at (counts C) h (strict_of_at B (nullable_after B j) k) eqb (length (e ∷ w)) 0 (e ∷ w) ≡ n → total_of W (counts C) eqb (e ∷ w) ≡ n
  count_is C h e w n q = ap (λ wt. cell B (counts C) wt eqb 0 (e ∷ w)) (fun_ext (λ x. fun_ext (λ m. one (ltb x 32))))
      ∙ cells_same (counts C) h B (strict_of_at B (nullable_after B j) k) (strict_of_same B bd (nullable_after B j) R.found k R.k_small R.linked) eqb 0 (e ∷ w) ∙ q
    where
      one : (b : Bool) → ◌≡◌ {A = ℕ} (cond b 1 1) 1
      one true = refl
      one false = refl

rests_a : Rests book_a 1 1
unfolding nullable_after rules_of binarised production tails_before
rests_a = rests book_a 1 1 refl (lit≤ tt) (lit≤ tt) refl refl

rests_b : Rests book_b 1 1
unfolding nullable_after rules_of binarised production tails_before
rests_b = rests book_b 1 1 refl (lit≤ tt) (lit≤ tt) refl refl

rests_c : Rests book_c 2 1
unfolding nullable_after rules_of binarised production tails_before
rests_c = rests book_c 2 1 refl (lit≤ tt) (lit≤ tt) refl refl

rests_d : Rests book_d 1 1
unfolding nullable_after rules_of binarised production tails_before
rests_d = rests book_d 1 1 refl (lit≤ tt) (lit≤ tt) refl refl

rests_e : Rests book_e 2 2
unfolding nullable_after rules_of binarised production tails_before
rests_e = rests book_e 2 2 refl (lit≤ tt) (lit≤ tt) refl refl

-- a strict rule, by its parts
abbrev strict : ℕ → ℕ → ℕ → Right → StrictFormRule
strict x y n b = record { symbol = x; end = y; number = n; right = b }

module _ (W : Book) (j k : ℕ) (R : Rests W j k) where
  event_taken : (x p v : ℕ) (r : StrictFormRule)
      → First (λ (r : StrictFormRule). over_events yes_no eqb (λ y u. cells_at yes_no refl (strict_of_at (binarised W) (nullable_after (binarised W) j) k) eqb (length u) y u) r.right (v ∷ []))
      (strict_of_at (binarised W) (nullable_after (binarised W) j) k x) r
      → r.right ≡ terminal p → r.end < (binarised W).symbols → within_at (binarised W) (nullable_after (binarised W) j) r.end k x ≡ true
      → Takes (binarised W) eqb x (chain_over_at (binarised W) j (chain_at (binarised W) (nullable_after (binarised W) j) r.end k x) (leaf r.end r.number)) (v ∷ [])
  event_taken = takes_event (binarised W) (bd W j k R) j k R.j_small R.k_small R.found R.linked eqb

  events_taken : (x a b : ℕ) (s u : Tree) (w : List ℕ) (r : StrictFormRule) (c : Cut ℕ)
      → First (λ (r : StrictFormRule). over_events yes_no eqb (λ y u. cells_at yes_no refl (strict_of_at (binarised W) (nullable_after (binarised W) j) k) eqb (length u) y u) r.right w)
      (strict_of_at (binarised W) (nullable_after (binarised W) j) k x) r
      → r.right ≡ binary a b → r.end < (binarised W).symbols → within_at (binarised W) (nullable_after (binarised W) j) r.end k x ≡ true
      → First (λ (c : Cut ℕ). cells_at yes_no refl (strict_of_at (binarised W) (nullable_after (binarised W) j) k) eqb (length c.0) a c.0
      && cells_at yes_no refl (strict_of_at (binarised W) (nullable_after (binarised W) j) k) eqb (length c.1) b c.1) (cuts w) c
      → Takes (binarised W) eqb a s c.0 → Takes (binarised W) eqb b u c.1
      → Takes (binarised W) eqb x (chain_over_at (binarised W) j (chain_at (binarised W) (nullable_after (binarised W) j) r.end k x) (fork r.end r.number s u)) w
  events_taken = takes_events (binarised W) (bd W j k R) j k R.j_small R.k_small R.found R.linked eqb

a_takes : Takes (binarised book_a) eqb 32 (leaf 32 255) (0 ∷ [])
unfolding nullable_after rules_of binarised production tails_before
a_takes = event_taken book_a 1 1 rests_a 32 0 0 (strict 32 32 255 (terminal 0)) (inl (refl, refl)) refl (lit< tt) refl

b_takes : Takes (binarised book_a) eqb 33 (leaf 33 255) (1 ∷ [])
unfolding nullable_after rules_of binarised production tails_before
b_takes = event_taken book_a 1 1 rests_a 33 1 1 (strict 33 33 255 (terminal 1)) (inl (refl, refl)) refl (lit< tt) refl

ab_takes : Takes (binarised book_a) eqb 0 (fork 0 1 (leaf 32 255) (leaf 33 255)) (0 ∷ 1 ∷ [])
unfolding nullable_after rules_of binarised production tails_before
ab_takes = events_taken book_a 1 1 rests_a 0 32 33 (leaf 32 255) (leaf 33 255) (0 ∷ 1 ∷ []) (strict 0 0 1 (binary 32 33)) (0 ∷ [], 1 ∷ [])
    (inr (refl, inl (refl, refl))) refl (lit< tt) refl (inl (refl, refl)) a_takes b_takes

abbrev abb : Tree
abb = fork 64 0 (fork 0 1 (leaf 32 255) (leaf 33 255)) (leaf 33 255)

abb_takes : Takes (binarised book_a) eqb 64 abb (0 ∷ 1 ∷ 1 ∷ [])
unfolding nullable_after rules_of binarised production tails_before
abb_takes = events_taken book_a 1 1 rests_a 64 0 33 (fork 0 1 (leaf 32 255) (leaf 33 255)) (leaf 33 255) (0 ∷ 1 ∷ 1 ∷ []) (strict 64 64 0 (binary 0 33)) (0 ∷ 1 ∷ [], 1 ∷ [])
    (inl (refl, refl)) refl (lit< tt) refl (inr (refl, inl (refl, refl))) ab_takes b_takes

aabb_takes : Takes (binarised book_a) eqb 0 (fork 0 0 (leaf 32 255) abb) (0 ∷ 0 ∷ 1 ∷ 1 ∷ [])
unfolding nullable_after rules_of binarised production tails_before
aabb_takes = events_taken book_a 1 1 rests_a 0 32 64 (leaf 32 255) abb (0 ∷ 0 ∷ 1 ∷ 1 ∷ []) (strict 0 0 0 (binary 32 64)) (0 ∷ [], 0 ∷ 1 ∷ 1 ∷ [])
    (inl (refl, refl)) refl (lit< tt) refl (inl (refl, refl)) a_takes abb_takes

b_a_takes : Takes (binarised book_b) eqb 0 (over 0 0 (leaf 1 1)) (0 ∷ [])
unfolding nullable_after rules_of binarised production tails_before
b_a_takes = event_taken book_b 1 1 rests_b 0 0 0 (strict 0 1 1 (terminal 0)) (inl (refl, refl)) refl (lit< tt) refl

c_a_takes : Takes (binarised book_c) eqb 0 (fork 0 0 (over 1 1 (null 2 2)) (leaf 32 255)) (0 ∷ [])
unfolding nullable_after rules_of binarised production tails_before nullable_tree_in
c_a_takes = event_taken book_c 2 1 rests_c 0 0 0 (strict 0 32 255 (terminal 0)) (inr (refl, inl (refl, refl))) refl (lit< tt) refl

e_a_takes : Takes (binarised book_e) eqb 0 (fork 0 0 (over 1 2 (null 2 6)) (fork 64 0 (leaf 32 255) (over 1 2 (null 2 6)))) (0 ∷ [])
unfolding nullable_after rules_of binarised production tails_before nullable_tree_in
e_a_takes = event_taken book_e 2 2 rests_e 0 0 0 (strict 0 32 255 (terminal 0)) (inr (refl, inr (refl, inl (refl, refl)))) refl (lit< tt) refl

a_strict : length (strict_rules (binarised book_a)) ≡ 5
unfolding nullable_after rules_of binarised production tails_before
a_strict = counted_strict book_a 1 1 rests_a

e_strict : length (strict_rules (binarised book_e)) ≡ 15
unfolding nullable_after rules_of binarised production tails_before
e_strict = counted_strict book_e 2 2 rests_e

a_aab : Unread book_a eqb (0 ∷ 0 ∷ 1 ∷ [])
unfolding nullable_after rules_of binarised production tails_before
a_aab = unread book_a 1 1 rests_a 0 (0 ∷ 1 ∷ []) refl

c_aa : Unread book_c eqb (0 ∷ 0 ∷ [])
unfolding nullable_after rules_of binarised production tails_before
c_aa = unread book_c 2 1 rests_c 0 (0 ∷ []) refl

d_empty : HasNodes book_d [] (at 2 0 0 ∷ [])
unfolding nullable_after rules_of binarised production tails_before nullable_tree_in
d_empty = has_none book_d 1 1 rests_d (at 2 0 0 ∷ []) refl refl

d_a : total_of book_d (counts 4294967295) eqb (0 ∷ []) ≡ 1
unfolding nullable_after rules_of binarised production tails_before
d_a = count_is book_d 1 1 rests_d 4294967295 refl 0 [] 1 refl

d_aaa : total_of book_d (counts 4294967295) eqb (0 ∷ 0 ∷ 0 ∷ []) ≡ 2
unfolding nullable_after rules_of binarised production tails_before
d_aaa = count_is book_d 1 1 rests_d 4294967295 refl 0 (0 ∷ 0 ∷ []) 2 refl

a_195 : HoldsEvents book_a 195 2
unfolding binarised
a_195 = (below, refl)
  where
    below : (k : ℕ) → k < 2 → feed_refusal (binarised book_a).symbols 195 k ≡ 0
    below zero h = refl
    below (suc zero) h = refl
    below (suc (suc k)) h = absurd (omega arith)

a_194 : HoldsEvents book_a 194 1
unfolding binarised
a_194 = (below, refl)
  where
    below : (k : ℕ) → k < 1 → feed_refusal (binarised book_a).symbols 194 k ≡ 0
    below zero h = refl
    below (suc k) h = absurd (omega arith)

pub shown : Shown
shown = record {
  a_strict = a_strict;
  a_aabb = has_nodes book_a 1 1 rests_a (0 ∷ 0 ∷ 1 ∷ 1 ∷ []) (fork 0 0 (leaf 32 255) abb) (at 0 0 4 ∷ at 1 1 2 ∷ []) aabb_takes refl;
  a_aab = a_aab;
  a_195 = a_195;
  a_194 = a_194;
  b_a = has_nodes book_b 1 1 rests_b (0 ∷ []) (over 0 0 (leaf 1 1)) (at 0 0 1 ∷ at 1 0 1 ∷ []) b_a_takes refl;
  c_a = has_nodes book_c 2 1 rests_c (0 ∷ []) (fork 0 0 (over 1 1 (null 2 2)) (leaf 32 255)) (at 0 0 1 ∷ at 1 0 0 ∷ at 2 0 0 ∷ []) c_a_takes refl;
  c_aa = c_aa;
  d_empty = d_empty;
  d_a = d_a;
  d_aaa = d_aaa;
  e_strict = e_strict;
  e_a = has_nodes book_e 2 2 rests_e (0 ∷ []) (fork 0 0 (over 1 2 (null 2 6)) (fork 64 0 (leaf 32 255) (over 1 2 (null 2 6))))
      (at 0 0 1 ∷ at 2 0 0 ∷ at 6 0 0 ∷ at 2 1 0 ∷ at 6 1 0 ∷ []) e_a_takes refl;
}
