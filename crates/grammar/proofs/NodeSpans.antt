-- Each node of a reading stands over its part of the trace.
use Rattle.std.proofs.Common.{◌≡◌, ℕ, zero, suc, ◌+◌, ◌≤◌, Bool, List, [], ◌∷◌, ◌++◌, length, sym, refl, ap, ◌∙◌, subst, inl, inr, append_assoc, append-nil, arith, length-append}
use Rattle.grammar.specs.Lists.{Mem}
use Rattle.grammar.specs.Productions.{Book}
use Rattle.grammar.specs.Readings.{Reading, Parts, Reads, by_rule, Along, at_end, at_event, at_part}
use Rattle.grammar.specs.Nodes.{events, Node, nodes, nodes_in, Span}
use Rattle.grammar.proofs.Lists.{mem_append}
use Rattle.grammar.proofs.Nodes.{events_length, events_in_length}

module _ (W : Book) {E : Type 0} (fits : E → ℕ → Bool) where
  with_after : (u v : List E) {w : List E} {i : ℕ} {k : Node} → u ++ v ≡ w → Span W fits u i k → Span W fits w i k
  with_after u v e s = record {
    before = s.before;
    inside = s.inside;
    after = s.after ++ v;
    ps = s.ps;
    cut = ap (λ p. s.before ++ p) (sym (append_assoc s.inside s.after v)) ∙ sym (append_assoc s.before (s.inside ++ s.after) v) ∙ ap (λ p. p ++ v) s.cut ∙ e;
    starts = s.starts;
    long = s.long;
    reads = s.reads;
  }

  with_before : (u v : List E) {w : List E} {i j : ℕ} {k : Node} → u ++ v ≡ w → j ≡ i + length u → Span W fits v j k → Span W fits w i k
  with_before u v e q s = record {
    before = u ++ s.before;
    inside = s.inside;
    after = s.after;
    ps = s.ps;
    cut = append_assoc u s.before (s.inside ++ s.after) ∙ ap (λ p. u ++ p) s.cut ∙ e;
    starts = omega (arith, s.starts, length-append u s.before);
    long = s.long;
    reads = s.reads;
  }

  mutual
    pub spans : {x : ℕ} {r : Reading} {w : List E} → Reads W fits x r w → (i : ℕ) (k : Node) → Mem k (nodes i r) → Span W fits w i k
    spans (by_rule {n = n} {ps = ps} {w = w} m h a) i k (inl e) =
        subst (Span W fits w i) (sym e) (record
        { before = []; inside = w; after = []; ps = ps; cut = append-nil w; starts = omega arith; long = sym (events_in_length W fits a); reads = by_rule m refl a })
    spans (by_rule m h a) i k (inr j) = spans_in a i k j

    spans_in : {ys : List ℕ} {ps : Parts} {w : List E} → Along W fits ys ps w → (i : ℕ) (k : Node) → Mem k (nodes_in i ps) → Span W fits w i k
    spans_in at_end i k j = elim j [ ]
    spans_in (at_event {e = e} q f a) i k j =
        let s = spans_in a (suc i) k j in record
        { before = e ∷ s.before; inside = s.inside; after = s.after; ps = s.ps; cut = ap (λ l. e ∷ l) s.cut; starts = omega (arith, s.starts); long = s.long; reads = s.reads }
    spans_in (at_part {r = r} {ps = ps} {u = u} {v = v} l d a e) i k j =
        elim (mem_append k (nodes i r) (nodes_in (i + events r) ps) j) [
          | inl m ↦ with_after u v e (spans d i k m)
          | inr m ↦ with_before u v e (ap (λ n. i + n) (events_length W fits d)) (spans_in a (i + events r) k m)
        ]

  -- so each node begins and ends within the trace
  pub within : {x : ℕ} {r : Reading} {w : List E} → Reads W fits x r w → (k : Node) → Mem k (nodes zero r) → k.first + k.count ≤ length w
  within {w = w} d k m =
      let s = spans d zero k m in
      let e = ap length s.cut in
      omega (arith, length-append s.before (s.inside ++ s.after), length-append s.inside s.after, s.starts, s.long)
