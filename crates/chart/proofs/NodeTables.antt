-- A table of nodes that is written one node after another, and what a table says that found no room for one.
use Rattle.std.proofs.Common.{◌≡◌, suc, ◌+◌, ◌-◌, ◌<◌, ◌≤◌, min, true, false, cond, ltb, List, [], ◌∷◌, ◌++◌, length, drop, set, sym, refl, ap, ◌∙◌, subst, ap₂, append_assoc, arith, length-append}
use Rattle.std.proofs.Math.Seq.{drop-cons}
use Rattle.std.proofs.lemmas.Bool.{le-ltb, lt-ltb, ltb-true, ltb-false, le-leb, lt-leb}
use Rattle.std.proofs.lemmas.List.{length-map, map-set, set_at, take-append-le, take_all}
use Rattle.grammar.specs.Nodes.{Node as TreeNode}
use Rattle.grammar.specs.Answers.{limit, filled, answer, number, refused}
use Rattle.grammar.proofs.Tables.{tables}
use Rattle.chart.specs.declared.node.Node.{Node}
use Rattle.chart.specs.declared.node_table.NodeTable.{NodeTable}
use Rattle.chart.specs.Nodes.{node_of, nodes_of}
use Rattle.chart.specs.Inner.{Wrote, room, SameTable}

-- as long as there is room
filled_fits : (ks t : List TreeNode) → length ks ≤ limit (length t) → filled ks t ≡ ks ++ drop (length ks) t
filled_fits ks t h = ap₂ ◌++◌ (take_all (limit (length t)) ks h) (ap (λ n. drop n t) (let e : min (limit (length t)) (length ks) ≡ length ks = omega arith in e))

-- where there is none, further nodes change nothing
filled_full : (ks more t : List TreeNode) → limit (length t) ≤ length ks → filled (ks ++ more) t ≡ filled ks t
filled_full ks more t h =
    let l = length-append ks more in
    let e : min (limit (length t)) (length (ks ++ more)) ≡ min (limit (length t)) (length ks) = omega arith in
    ap₂ ◌++◌ (take-append-le (limit (length t)) ks more h) (ap (λ n. drop n t) e)

-- one node more, in the next place
filled_more : (ks t : List TreeNode) (k : TreeNode) → length ks < limit (length t) → set (filled ks t) (length ks) k ≡ filled (ks ++ (k ∷ [])) t
filled_more ks t k h =
    let l = length-append ks (k ∷ []) in
    let n : length (ks ++ (k ∷ [])) ≡ suc (length ks) = omega arith in
    ap (λ x. set x (length ks) k) (filled_fits ks t (omega arith) ∙ ap (λ x. ks ++ x) (drop-cons t (length ks) k (omega arith)))
    ∙ set_at ks _ (drop (suc (length ks)) t) k (length ks) (λ i. length ks)
    ∙ sym (filled_fits (ks ++ (k ∷ [])) t (omega arith) ∙ ap (λ x. (ks ++ (k ∷ [])) ++ drop x t) n ∙ append_assoc ks (k ∷ []) (drop (suc (length ks)) t))

module _ (t ks : List TreeNode) (s : NodeTable) (w : Wrote t ks s) where
  -- the table is as long as it was
  pub wrote_long : length s.nodes.now ≡ length t
  wrote_long = sym (length-map s.nodes.now node_of) ∙ ap length w.places ∙ (tables ks t).same_length

  -- with room for one more
  pub wrote_more : (k : Node) → s.written < limit (length s.nodes.now)
      → (nodes_of (set s.nodes.now s.written k) ≡ filled (ks ++ (node_of k ∷ [])) t)
      × (s.written + 1 ≡ min (limit (length t)) (length (ks ++ (node_of k ∷ []))))
      × (s.full ≡ ltb (limit (length t)) (length (ks ++ (node_of k ∷ []))))
  wrote_more k h =
      let l = length-append ks (node_of k ∷ []) in
      let e = wrote_long in
      let n : s.written ≡ length ks = omega (arith, w.written) in
      let f : length ks < limit (length t) = omega (arith, w.written) in (
        map-set node_of s.nodes.now s.written k ∙ ap₂ (λ x y. set x y (node_of k)) w.places n ∙ filled_more ks t (node_of k) f,
        omega arith,
        w.full ∙ le-ltb (limit (length t)) (length ks) (omega arith) ∙ sym (le-ltb (limit (length t)) (length (ks ++ (node_of k ∷ []))) (omega arith)),
      )

  -- with no room, all that follows finds none
  pub wrote_full : s.full ≡ true → (more : List TreeNode) → Wrote t (ks ++ more) s
  wrote_full h more =
      let l = length-append ks more in
      let f : limit (length t) < length ks = ltb-true (limit (length t)) (length ks) (sym w.full ∙ h) in
      record {
        places = w.places ∙ sym (filled_full ks more t (omega arith));
        written = omega (arith, w.written);
        full = w.full ∙ lt-ltb (limit (length t)) (length ks) f ∙ sym (lt-ltb (limit (length t)) (length (ks ++ more)) (omega arith));
      }

  -- all nodes found room: their number is the answer
  pub answer_number : s.full ≡ false → answer ks (length t) ≡ number s.written
  answer_number h =
      let f : length ks ≤ limit (length t) = ltb-false (limit (length t)) (length ks) (sym w.full ∙ h) in
      let n : length ks ≡ s.written = omega (arith, w.written) in
      ap (λ b. cond b (number (length ks)) (refused 13)) (le-leb (length ks) (limit (length t)) f) ∙ ap number n

  -- one found none: refusal 13
  pub answer_refused : s.full ≡ true → answer ks (length t) ≡ refused 13
  answer_refused h =
      ap (λ b. cond b (number (length ks)) (refused 13)) (lt-leb (length ks) (limit (length t)) (ltb-true (limit (length t)) (length ks) (sym w.full ∙ h)))

-- a table that is not full has room
pub room_left : (s : NodeTable) → s.full ≡ false → 0 < room s
room_left s h = subst (λ b. 0 < limit (length s.nodes.now) - s.written + cond b 0 1) (sym h) (omega arith)

-- a step that writes nothing
pub same_none : (s : NodeTable) → SameTable s s
same_none s = record { table = refl; long = refl; less = omega arith }

-- one step after another
pub same_then : (a b c : NodeTable) → SameTable a b → SameTable b c → SameTable a c
same_then a b c p q = record { table = q.table ∙ p.table; long = q.long ∙ p.long; less = omega (arith, p.less, q.less) }
