-- A stretch of text that begins later gives the same, at later places.
use Rattle.std.proofs.Common.{◌≡◌, ℕ, suc, ◌+◌, Bool, true, false, cond, List, [], ◌∷◌, ◌++◌, map, Some, None, Option, refl, ap, ◌∙◌, arith}
use Rattle.grammar.specs.Lists.{those}
use Rattle.text.specs.Kinds.{kind}
use Rattle.text.specs.Outcomes.{Outcome, nothing, rule, fault, written, head_of, item_of, cost_of, is_arrow, is_blank, misplaced, no_more, cost_part, item_part, right_part, arrow_part, line}
use Rattle.text.proofs.Short.{by}
use Rattle.text.specs.Words.{Piece, piece, longer, pieces, parts, some_byte, words}

-- k bytes later
abbrev pub shift : ℕ → Piece → Piece
shift k p = piece (k + p.place) p.bytes

abbrev pub shift_outcome : ℕ → Outcome → Outcome
shift_outcome k nothing = nothing
shift_outcome k (rule p) = rule p
shift_outcome k (fault n at) = fault n (k + at)

longer_later : (k at b : ℕ) (ps : List Piece) → longer (k + at) b (map (shift k) ps) ≡ map (shift k) (longer at b ps)
longer_later k at b [] = refl
longer_later k at b (p ∷ ps) = refl

pub pieces_later : (p : ℕ → Bool) (k at : ℕ) (bs : List ℕ) → pieces p (k + at) bs ≡ map (shift k) (pieces p at bs)
unfolding pieces
pieces_later p k at [] = refl
pieces_later p k at (b ∷ bs) =
    let e : suc (k + at) ≡ k + suc at = omega arith in
    let ih = ap (λ n. pieces p n bs) e ∙ pieces_later p k (suc at) bs in
    (elim (p b) as (λ t. cond t (piece (k + at) [] ∷ pieces p (suc (k + at)) bs) (longer (k + at) b (pieces p (suc (k + at)) bs)) ≡ map (shift k) (cond t (piece at [] ∷ pieces p (suc at) bs) (longer at b (pieces p (suc at) bs)))) [
      | true ↦ ap (λ l. piece (k + at) [] ∷ l) ih
      | false ↦ ap (longer (k + at) b) ih ∙ longer_later k at b (pieces p (suc at) bs)
    ])

those_later : (k : ℕ) (ps : List Piece) → those (λ (p : Piece). some_byte p.bytes) (map (shift k) ps) ≡ map (shift k) (those (λ (p : Piece). some_byte p.bytes) ps)
those_later k [] = refl
those_later k (p ∷ ps) = (elim (some_byte p.bytes) as (λ t. cond t (shift k p ∷ those (λ (p : Piece). some_byte p.bytes) (map (shift k) ps)) (those (λ (p : Piece). some_byte p.bytes) (map (shift k) ps)) ≡ map (shift k) (cond t (p ∷ those (λ (p : Piece). some_byte p.bytes) ps) (those (λ (p : Piece). some_byte p.bytes) ps)))
    [ true ↦ ap (λ l. shift k p ∷ l) (those_later k ps) | false ↦ those_later k ps ])

pub words_later : (k at : ℕ) (bs : List ℕ) → words (k + at) bs ≡ map (shift k) (words at bs)
words_later k at bs = ap (those (λ (p : Piece). some_byte p.bytes)) (pieces_later parts k at bs) ∙ those_later k (pieces parts at bs)

module _ (k : ℕ) where
  none_later : (p : Outcome) (ws : List Piece) → p ≡ shift_outcome k p → no_more p (map (shift k) ws) ≡ shift_outcome k (no_more p ws)
  none_later p [] e = e
  none_later p (w ∷ ws) e = refl

  cost_later : (h : ℕ) (is : List ℕ) (ws : List Piece) → cost_part h is (map (shift k) ws) ≡ shift_outcome k (cost_part h is ws)
  cost_later h is [] = refl
  cost_later h is (w ∷ ws) = (elim (cost_of (kind w.bytes)) as (λ (o : Option ℕ). by o (misplaced (shift k w)) (λ c. no_more (rule (written h is c)) (map (shift k) ws)) ≡ shift_outcome k (by o (misplaced w) (λ c. no_more (rule (written h is c)) ws)))
      [ None ↦ refl | Some c ↦ none_later (rule (written h is c)) ws refl ])

  item_later : (h : ℕ) (is : List ℕ) (ws : List Piece) → item_part h is (map (shift k) ws) ≡ shift_outcome k (item_part h is ws)
  unfolding item_part
  item_later h is [] = refl
  item_later h is (w ∷ ws) = (elim (item_of (kind w.bytes)) as (λ (o : Option ℕ). by o (cost_part h is (map (shift k) (w ∷ ws))) (λ i. item_part h (is ++ (i ∷ [])) (map (shift k) ws)) ≡ shift_outcome k (by o (cost_part h is (w ∷ ws)) (λ i. item_part h (is ++ (i ∷ [])) ws)))
      [ None ↦ cost_later h is (w ∷ ws) | Some i ↦ item_later h (is ++ (i ∷ [])) ws ])

  right_later : (end h : ℕ) (ws : List Piece) → right_part (k + end) h (map (shift k) ws) ≡ shift_outcome k (right_part end h ws)
  right_later end h [] = refl
  right_later end h (w ∷ ws) = (elim (is_blank (kind w.bytes)) as (λ b. cond b (cost_part h [] (map (shift k) ws)) (by (item_of (kind w.bytes)) (misplaced (shift k w)) (λ i. item_part h (i ∷ []) (map (shift k) ws)))
      ≡ shift_outcome k (cond b (cost_part h [] ws) (by (item_of (kind w.bytes)) (misplaced w) (λ i. item_part h (i ∷ []) ws)))) [
        | true ↦ cost_later h [] ws
        | false ↦ (elim (item_of (kind w.bytes)) as (λ (o : Option ℕ). by o (misplaced (shift k w)) (λ i. item_part h (i ∷ []) (map (shift k) ws)) ≡ shift_outcome k (by o (misplaced w) (λ i. item_part h (i ∷ []) ws)))
            [ None ↦ refl | Some i ↦ item_later h (i ∷ []) ws ])
      ])

  arrow_later : (end h : ℕ) (ws : List Piece) → arrow_part (k + end) h (map (shift k) ws) ≡ shift_outcome k (arrow_part end h ws)
  arrow_later end h [] = refl
  arrow_later end h (w ∷ ws) = (elim (is_arrow (kind w.bytes)) as (λ b. cond b (right_part (k + end) h (map (shift k) ws)) (misplaced (shift k w)) ≡ shift_outcome k (cond b (right_part end h ws) (misplaced w)))
      [ true ↦ right_later end h ws | false ↦ refl ])

  pub line_later : (end : ℕ) (ws : List Piece) → line (k + end) (map (shift k) ws) ≡ shift_outcome k (line end ws)
  line_later end [] = refl
  line_later end (w ∷ ws) = (elim (head_of (kind w.bytes)) as (λ (o : Option ℕ). by o (misplaced (shift k w)) (λ h. arrow_part (k + end) h (map (shift k) ws)) ≡ shift_outcome k (by o (misplaced w) (λ h. arrow_part end h ws)))
      [ None ↦ refl | Some h ↦ arrow_later end h ws ])
