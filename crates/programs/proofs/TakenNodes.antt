-- The reading that is taken, worked out.
use Rattle.std.proofs.Common.{◌≡◌, ℕ, zero, suc, ◌<◌, ◌≤◌, ◌⊎◌, Bool, true, false, cond, leb, List, [], ◌∷◌, ◌++◌, length, take, drop, sym, refl, ap, ap₂, ◌∙◌, inl, inr, ⊎_elim, append-nil, arith, length-drop}
use Rattle.std.proofs.lemmas.Bool.{cases_lt, cond-true, cond-false, leb-true, leb-false}
use Rattle.std.proofs.lemmas.List.{take_all, take-append-le, length-take}
use Rattle.grammar.specs.Lists.{First, first_of, Cut, cuts}
use Rattle.grammar.specs.Productions.{Book, Sound}
use Rattle.grammar.specs.Binarised.{Right, empty, Binarised, Tree, fork}
use Rattle.grammar.specs.Binarise.{binarised}
use Rattle.grammar.specs.Chains.{chosen_chain}
use Rattle.grammar.specs.Strict.{StrictFormRule, strict_rules_of}
use Rattle.grammar.specs.Taken.{chain_over, rule_fits, cut_fits, Takes, takes_terminal, takes_binary}
use Rattle.grammar.specs.Readings.{Reading}
use Rattle.grammar.specs.Nodes.{Node, nodes, tree_nodes}
use Rattle.grammar.specs.Answers.{Taken, limit, Answer, none, number, refused, answer, Answers}
use Rattle.grammar.specs.Weighings.{yes_no}
use Rattle.grammar.specs.Weights.{total_of}
use Rattle.grammar.proofs.CellEquations.{cut_short}
use Rattle.grammar.proofs.Taken.{first_mem}
use Rattle.grammar.proofs.Totals.{none_exact, takes_one, answers_once}
use Rattle.chart.specs.Readings.{ReadingIs}
use Rattle.chart.proofs.ReadingTaken.{nodes_taken, nodes_nothing, means_none, means_read}
use Rattle.programs.specs.Printed.{over_right, taken_in, taken_nodes, reading_says, reading_writes, reading_text, standing}

-- the first that passes is the one found
first_is : {A : Type 0} (p : A → Bool) (d : A) (xs : List A) (a : A) → First p xs a → first_of p d xs ≡ a
first_is p d [] a f = absurd f
first_is p d (x ∷ xs) a (inl (t, e)) = cond-true (p x) x (first_of p d xs) t ∙ sym e
first_is p d (x ∷ xs) a (inr (n, f)) = cond-false (p x) x (first_of p d xs) n ∙ first_is p d xs a f

module _ {E : Type 0} (B : Binarised) (fits : E → ℕ → Bool) where
  -- the tree over w by a strict rule of x
  abbrev by_rule : ℕ → ℕ → List E → StrictFormRule → Tree
  by_rule k x w r = chain_over B (chosen_chain B x r.end) (over_right B fits (taken_in B fits k) r.end r.number r.right w)

  -- the same, by its right side
  abbrev by_right : ℕ → ℕ → List E → StrictFormRule → Right → Tree
  by_right k x w r b = chain_over B (chosen_chain B x r.end) (over_right B fits (taken_in B fits k) r.end r.number b w)

  no_cut : (a b : ℕ) (w : List E) (c : Cut E) → length w ≤ 0 → First (cut_fits B fits a b) (cuts w) c → ⊥
  no_cut a b [] c h f = f
  no_cut a b (e ∷ w) c h f = omega arith

  -- the rule that is taken is the one found
  at_rule : (k x : ℕ) (w : List E) (r : StrictFormRule) → First (rule_fits B fits w) (strict_rules_of B x) r → taken_in B fits (suc k) x w ≡ by_rule k x w r
  unfolding taken_in
  at_rule k x w r f = ap (by_rule k x w) (first_is (rule_fits B fits w) (record { symbol = x; end = x; number = 0; right = empty }) (strict_rules_of B x) r f)

  -- the derivation that is taken of w, of at most k events, is the one worked out
  pub taken_is : {x : ℕ} {s : Tree} {w : List E} (k : ℕ) → length w ≤ k → Takes B fits x s w → s ≡ taken_in B fits k x w
  taken_is zero h (takes_terminal r f q) = absurd (omega arith)
  taken_is zero h (takes_binary {a = a} {b = b} {w = w} r c f q g d d') = absurd (no_cut a b w c h g)
  taken_is (suc k) h (takes_terminal {x = x} {p = p} {e = e} r f q) = sym (at_rule k x (e ∷ []) r f ∙ ap (by_right k x (e ∷ []) r) q)
  taken_is (suc k) h (takes_binary {x = x} {a = a} {b = b} {s = s} {t = t} {w = w} r c f q g d d') =
      let short = cut_short w c (first_mem (cut_fits B fits a b) (cuts w) c g).0 in
      let left : s ≡ taken_in B fits k a c.0 = taken_is {x = a} {s = s} {w = c.0} k (omega (arith, short.0)) d in
      let right : t ≡ taken_in B fits k b c.1 = taken_is {x = b} {s = t} {w = c.1} k (omega (arith, short.1)) d' in
      let over = λ (l m : Tree). chain_over B (chosen_chain B x r.end) (fork r.end r.number l m) in
      sym (at_rule k x w r f ∙ ap (by_right k x w r) q
      ∙ ap (λ (v : Cut E). over (taken_in B fits k a v.0) (taken_in B fits k b v.1)) (first_is (cut_fits B fits a b) (w, []) (cuts w) c g)
      ∙ sym (ap₂ over left right))

-- the first k of a list followed by another, where it has k, or at most so many and nothing follows
front_is : {A : Type 0} (k : ℕ) (xs rest : List A) → length xs ≤ k → (length xs ≡ k) ⊎ (length rest ≡ 0) → take k (xs ++ rest) ≡ xs
front_is k xs rest h (inl e) = take-append-le k xs rest (omega arith) ∙ take_all k xs h
front_is k xs [] h (inr e) = ap (take k) (append-nil xs) ∙ take_all k xs h
front_is k xs (y ∷ ys) h (inr e) = absurd (omega arith)

module _ (W : Book) (sound : Sound W) {E : Type 0} (fits : E → ℕ → Bool) where
  pub taken_nodes_are : (r : Reading) (es : List E) → Taken W fits r es → taken_nodes W fits es ≡ nodes 0 r
  taken_nodes_are r [] d = nodes_nothing W sound fits r [] refl d
  taken_nodes_are r (e ∷ es) d =
      let n = nodes_taken W sound fits r (e ∷ es) (omega arith) d in
      ap (tree_nodes 0) (sym (taken_is (binarised W) fits (length (e ∷ es)) (omega arith) n.0)) ∙ n.1

  module _ (es : List E) (t : List Node) where
    abbrev ks : List Node
    ks = taken_nodes W fits es

    -- the nodes that are written where there is a reading, or none
    abbrev written : Bool → List Node
    written b = cond b (take (limit (length t)) ks) []

    abbrev left : Bool → List Node
    left b = written b ++ drop (length (written b)) t

    abbrev says : Bool → Answer
    says b = cond b (answer ks (length t)) none

    by_total : (b : Bool) → total_of W yes_no fits es ≡ b → ReadingIs W fits es t (says b) (left b)
    by_total true e =
        let q = (none_exact E 1 (omega arith) W sound fits es).says_yes.0 e in
        let r = (takes_one E W sound fits es).one.1 q in
        means_read W sound fits es t r.0 (says true) (left true) ks r.1 (taken_nodes_are r.0 es r.1) refl (ap (λ n. written true ++ drop n t) (length-take (limit (length t)) ks))
    by_total false e = means_none W sound fits es t ((none_exact E 1 (omega arith) W sound fits es).says_no.0 e)

    -- the answer and the table that are worked out are those of the call
    pub reading_means : ReadingIs W fits es t (reading_says W fits (length t) es) (reading_writes W fits (length t) es ++ drop (length (reading_writes W fits (length t) es)) t)
    reading_means = by_total (total_of W yes_no fits es) refl

    -- the nodes that stand in the table after the answer are those written
    stands_read : (b : Bool) → leb (length ks) (limit (length t)) ≡ b → standing (cond b (number (length ks)) (refused 13)) (left true) ≡ written true
    stands_read true e =
        let few : length ks ≤ limit (length t) = leb-true (length ks) (limit (length t)) e in
        let many : length (written true) ≡ length ks = omega (arith, length-take (limit (length t)) ks) in
        front_is (length ks) (written true) (drop (length (written true)) t) (omega arith) (inl many)
    stands_read false e =
        let more : limit (length t) < length ks = leb-false (length ks) (limit (length t)) e in
        let many : length (written true) ≡ limit (length t) = omega (arith, length-take (limit (length t)) ks) in
        front_is 65535 (written true) (drop (length (written true)) t) (omega arith) (⊎_elim
        (λ (l : length t < 65535). inr (omega (arith, length-drop (length (written true)) t)))
        (λ (l : 65535 ≤ length t). inl (omega arith))
        (cases_lt (length t) 65535))

    printed_by : (b : Bool) → reading_text (says b) (standing (says b) (left b)) ≡ reading_text (says b) (written b)
    printed_by true = ap (reading_text (says true)) (stands_read (leb (length ks) (limit (length t))) refl)
    printed_by false = refl

    -- so whatever the call answered and left is printed as that
    pub reading_printed : (a : Answer) (t' : List Node) → Answers W fits es t a t' → reading_text a (standing a t') ≡ reading_text (reading_says W fits (length t) es) (reading_writes W fits (length t) es)
    reading_printed a t' k =
        let once = answers_once E W sound fits es t in
        let mine = once.only (says (total_of W yes_no fits es)) (left (total_of W yes_no fits es)) reading_means.answers in
        let yours = once.only a t' k in
        ap₂ (λ b l. reading_text b (standing b l)) (yours.0 ∙ sym mine.0) (yours.1 ∙ sym mine.1) ∙ printed_by (total_of W yes_no fits es)
