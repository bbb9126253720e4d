-- The nodes of a reading can be read off its binarised form.
use Rattle.std.proofs.Common.{◌≡◌, ℕ, zero, suc, ◌+◌, ◌<◌, ◌≤◌, Bool, ltb, List, [], ◌∷◌, ◌++◌, sym, refl, ap, ◌∙◌, ap₂, append-nil, arith}
use Rattle.std.proofs.lemmas.Bool.{lt-ltb, le-ltb, cond-true, cond-false}
use Rattle.grammar.specs.Binarised.{Tree, width}
use Rattle.grammar.specs.Productions.{Book, head_of, right_of, first_tail, Sound}
use Rattle.grammar.specs.Readings.{Reading, Parts, Reads, by_rule, Along, at_end, at_event, at_part}
use Rattle.grammar.specs.Binarise.{forks, binarise, binarise_parts}
use Rattle.grammar.proofs.Short.{shape}
use Rattle.grammar.specs.Nodes.{events, events_in, Node, nodes, nodes_in, mark, tree_nodes}
use Rattle.grammar.proofs.BinarisedRules.{head_small}
use Rattle.grammar.proofs.Binarise.{two, two_shape}

pub head_mark : (x n i k : ℕ) (l : List Node) → x < 32 → mark x n i k l ≡ record { rule = n; first = i; count = k } ∷ l
head_mark x n i k l h = cond-true (ltb x 32) (record { rule = n; first = i; count = k } ∷ l) l (lt-ltb x 32 h)

pub no_mark : (x n i k : ℕ) (l : List Node) → 32 ≤ x → mark x n i k l ≡ l
no_mark x n i k l h = cond-false (ltb x 32) (record { rule = n; first = i; count = k } ∷ l) l (le-ltb x 32 h)

-- of trees side by side
abbrev pub row_width : List Tree → ℕ
row_width [] = zero
row_width (t ∷ ts) = width t + row_width ts

abbrev pub row_nodes : ℕ → List Tree → List Node
row_nodes i [] = []
row_nodes i (t ∷ ts) = tree_nodes i t ++ row_nodes (i + width t) ts

forks_width : (x n z : ℕ) (s t : Tree) (ts : List Tree) → width (forks x n z s t ts) ≡ row_width (s ∷ t ∷ ts)
forks_width x n z s t [] = omega arith
forks_width x n z s t (u ∷ us) = ap (λ k. width s + k) (forks_width z n (suc z) t u us)

forks_nodes : (x n z i : ℕ) (s t : Tree) (ts : List Tree) → 32 ≤ z
    → tree_nodes i (forks x n z s t ts) ≡ mark x n i (row_width (s ∷ t ∷ ts)) (row_nodes i (s ∷ t ∷ ts))
forks_nodes x n z i s t [] h =
    ap₂ (λ k l. mark x n i (width s + k) (tree_nodes i s ++ l)) (omega arith) (sym (append-nil (tree_nodes (i + width s) t)))
forks_nodes x n z i s t (u ∷ us) h =
    ap₂ (λ k l. mark x n i (width s + k) (tree_nodes i s ++ l)) (forks_width z n (suc z) t u us)
    (forks_nodes z n (suc z) (i + width s) t u us (omega arith)
    ∙ no_mark z n (i + width s) (row_width (t ∷ u ∷ us)) (row_nodes (i + width s) (t ∷ u ∷ us)) h)

module _ (W : Book) {E : Type 0} (fits : E → ℕ → Bool) where
  shape_width : (x n z : ℕ) (ys : List ℕ) {ps : Parts} {w : List E} → Along W fits ys ps w
      → width (shape x n z ps (binarise_parts W ys ps)) ≡ row_width (binarise_parts W ys ps)
  shape_width x n z [] at_end = refl
  shape_width x n z (y ∷ []) (at_event q f at_end) = omega arith
  shape_width x n z (y ∷ []) (at_part l d at_end e) = omega arith
  shape_width x n z (a ∷ b ∷ ys) p =
      let k = two W fits p in ap width (two_shape W fits x n z k) ∙ forks_width x n z k.s k.t k.ts ∙ ap row_width (sym k.are)

  shape_nodes : (x n z i : ℕ) (ys : List ℕ) {ps : Parts} {w : List E} → 32 ≤ z → Along W fits ys ps w
      → tree_nodes i (shape x n z ps (binarise_parts W ys ps)) ≡ mark x n i (row_width (binarise_parts W ys ps)) (row_nodes i (binarise_parts W ys ps))
  shape_nodes x n z i [] h at_end = refl
  shape_nodes x n z i (y ∷ []) h (at_event q f at_end) =
      ap₂ (mark x n i) (omega arith) (sym (append-nil (mark y 255 i 1 []) ∙ no_mark y 255 i 1 [] (omega arith)))
  shape_nodes x n z i (y ∷ []) h (at_part {r = r} l d at_end e) = ap₂ (mark x n i) (omega arith) (sym (append-nil (tree_nodes i (binarise W r))))
  shape_nodes x n z i (a ∷ b ∷ ys) h p =
      let k = two W fits p in
      ap (tree_nodes i) (two_shape W fits x n z k) ∙ forks_nodes x n z i k.s k.t k.ts h
      ∙ ap (λ l. mark x n i (row_width l) (row_nodes i l)) (sym k.are)

  mutual
    -- the binarised form has as many events
    pub binarised_width : {x : ℕ} {r : Reading} {w : List E} → Reads W fits x r w → width (binarise W r) ≡ events r
    binarised_width (by_rule {n = n} m h a) = shape_width (head_of W n) n (first_tail W n) (right_of W n) a ∙ parts_width a

    parts_width : {ys : List ℕ} {ps : Parts} {w : List E} → Along W fits ys ps w → row_width (binarise_parts W ys ps) ≡ events_in ps
    parts_width at_end = refl
    parts_width (at_event q f a) = let i = parts_width a in omega arith
    parts_width (at_part l d a e) = ap₂ ◌+◌ (binarised_width d) (parts_width a)

  module _ (S : Sound W) where
    mutual
      -- and its heads' rules are the nodes
      pub binarised_nodes : {x : ℕ} {r : Reading} {w : List E} (i : ℕ) → Reads W fits x r w → tree_nodes i (binarise W r) ≡ nodes i r
      binarised_nodes i (by_rule {n = n} {ps = ps} m h a) =
          shape_nodes (head_of W n) n (first_tail W n) i (right_of W n) (omega arith) a
          ∙ ap₂ (mark (head_of W n) n i) (parts_width a) (parts_nodes i a)
          ∙ head_mark (head_of W n) n i (events_in ps) (nodes_in i ps) (head_small W S n m)

      parts_nodes : {ys : List ℕ} {ps : Parts} {w : List E} (i : ℕ) → Along W fits ys ps w → row_nodes i (binarise_parts W ys ps) ≡ nodes_in i ps
      parts_nodes i at_end = refl
      parts_nodes i (at_event {y = y} {ys = ys} {ps = ps} q f a) =
          ap₂ ◌++◌ (no_mark y 255 i 1 [] (omega arith)) (ap (λ k. row_nodes k (binarise_parts W ys ps)) (omega arith) ∙ parts_nodes (suc i) a)
      parts_nodes i (at_part {ys = ys} {r = r} {ps = ps} l d a e) =
          ap₂ ◌++◌ (binarised_nodes i d) (ap (λ k. row_nodes (i + k) (binarise_parts W ys ps)) (binarised_width d) ∙ parts_nodes (i + events r) a)
