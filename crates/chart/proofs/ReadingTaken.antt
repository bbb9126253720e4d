-- The answer of the call for the reading, by the nodes of the derivation taken.
use Rattle.std.proofs.Common.{◌≡◌, ◌↔◌, inl, inr, ℕ, ◌<◌, Bool, true, false, cond, List, [], ◌∷◌, length, sym, refl, ap, ◌∙◌, subst, true≢false, arith}
use Rattle.std.proofs.lemmas.List.{take_all}
use Rattle.std.proofs.lemmas.Bool.{cases_Bool}
use Rattle.grammar.specs.Lists.{span}
use Rattle.grammar.specs.Productions.{Book, Sound}
use Rattle.grammar.specs.Binarised.{Binarised, Tree}
use Rattle.grammar.specs.Binarise.{binarise, binarised}
use Rattle.grammar.specs.Nullable.{nullable, nullable_tree}
use Rattle.grammar.specs.Readings.{Reading}
use Rattle.grammar.specs.PlainReadings.{Unread}
use Rattle.grammar.specs.Nodes.{Node, nodes, tree_nodes}
use Rattle.grammar.specs.Taken.{Takes, takes_terminal, takes_binary}
use Rattle.grammar.specs.Answers.{Taken, of_nothing, of_events, filled, Answer, none, number, refused, answer, Answers, is_none, is_read}
use Rattle.grammar.specs.Weighings.{yes_no}
use Rattle.grammar.specs.Cells.{tree_weight}
use Rattle.grammar.specs.Weights.{binarised_weight, total_of}
use Rattle.grammar.proofs.Marks.{binarised_nodes}
use Rattle.grammar.proofs.Nodes.{events_length, told_by_nodes}
use Rattle.grammar.proofs.NodeSpans.{spans, within}
use Rattle.grammar.proofs.Tables.{tables}
use Rattle.grammar.proofs.BinarisedRules.{binarised_bounded}
use Rattle.grammar.proofs.Coherent.{first_below}
use Rattle.grammar.proofs.Totals.{takes_one, answers_once}
use Rattle.chart.specs.Readings.{ReadingIs}

-- whether an answer is none
abbrev says_none : Answer → Bool
says_none none = true
says_none (number n) = false
says_none (refused n) = false

some_nodes : (b : Bool) (n m : ℕ) → says_none (cond b (number n) (refused m)) ≡ false
some_nodes true n m = refl
some_nodes false n m = refl

module _ (W : Book) (sound : Sound W) {E : Type 0} (fits : E → ℕ → Bool) where
  abbrev B : Binarised
  B = binarised W

  -- a derivation is taken of events alone
  nothing_taken : {s : Tree} {w : List E} → Takes B fits 0 s w → 0 < length w
  nothing_taken (takes_terminal r f q) = omega arith
  nothing_taken (takes_binary {w = []} r c f q g d d') = absurd g
  nothing_taken (takes_binary {w = e ∷ w} r c f q g d d') = omega arith

  -- with events, its nodes are those of the derivation taken
  pub nodes_taken : (r : Reading) (es : List E) → 0 < length es → Taken W fits r es → Takes B fits 0 (binarise W r) es × (tree_nodes 0 (binarise W r) ≡ nodes 0 r)
  nodes_taken r es h (of_nothing d e) = absurd (omega arith)
  nodes_taken r es h (of_events d t) = (t, binarised_nodes W fits sound 0 d)

  -- without, those of the chosen tree
  pub nodes_nothing : (r : Reading) (es : List E) → length es ≡ 0 → Taken W fits r es → tree_nodes 0 (nullable_tree B 0) ≡ nodes 0 r
  nodes_nothing r es h (of_nothing d e) = ap (tree_nodes 0) (sym e) ∙ binarised_nodes W fits sound 0 d
  nodes_nothing r es h (of_events d t) = absurd (let l = nothing_taken t in omega arith)

  -- where the empty trace is read, head 0 is nullable
  pub nothing_read : (es : List E) → length es ≡ 0 → total_of W yes_no fits es ≡ true → nullable B 0 ≡ true
  nothing_read [] h t = elim (cases_Bool (nullable B 0)) [
    | inl e ↦ e
    | inr e ↦ absurd (true≢false (sym t ∙ ap (λ b. cond b (tree_weight yes_no (binarised_weight W yes_no) (nullable_tree B 0)) false) e))
  ]
  nothing_read (e ∷ es) h t = absurd (omega arith)

  -- all the events are the span of all
  pub whole_span : (es : List E) (n : ℕ) → length es ≡ n → span es 0 n ≡ es
  whole_span es n h = take_all n es (omega arith)

  -- what is answered where there is a reading, and where there is none
  module _ (es : List E) (t : List Node) where
    means : (a : Answer) (t' : List Node) → Answers W fits es t a t' → ((a ≡ none) ↔ Unread W fits es) → ReadingIs W fits es t a t'
    means a t' k n = record {
      answers = k;
      once = λ b s m.
          let only = (answers_once E W sound fits es t).only in
          let mine = only a t' k in
          let other = only b s m in
          (other.0 ∙ sym mine.0, other.1 ∙ sym mine.1);
      none_exactly = n;
      taken = takes_one E W sound fits es;
      coherent = λ v x r s c f e. first_below B (binarised_bounded W sound) fits x v r s c f e;
      told = λ r d. let reads = ((takes_one E W sound fits es).is_plain r d).reads in record {
        many = events_length W fits reads;
        spans = λ k m. (spans W fits reads 0 k m, within W fits reads k m);
        tells = λ q e i. told_by_nodes W fits 0 reads e i;
      };
      table = λ r d. tables (nodes 0 r) t;
    }

    pub means_none : Unread W fits es → ReadingIs W fits es t none t
    means_none u = means none t (is_none u) ((λ e. u), (λ v. refl))

    pub means_read : (r : Reading) (a : Answer) (t' ks : List Node) → Taken W fits r es → ks ≡ nodes 0 r → a ≡ answer ks (length t) → t' ≡ filled ks t → ReadingIs W fits es t a t'
    means_read r a t' ks d k e f =
        let reads = ((takes_one E W sound fits es).is_plain r d).reads in
        let same : a ≡ answer (nodes 0 r) (length t) = e ∙ ap (λ l. answer l (length t)) k in
        let left : t' ≡ filled (nodes 0 r) t = f ∙ ap (λ l. filled l t) k in
        means a t' (subst (λ b. Answers W fits es t b t') (sym same) (subst (λ l. Answers W fits es t (answer (nodes 0 r) (length t)) l) (sym left) (is_read r d)))
        ((λ n. absurd (true≢false (ap says_none (sym n) ∙ ap says_none same ∙ some_nodes _ _ _))), (λ u. absurd (u r reads)))
