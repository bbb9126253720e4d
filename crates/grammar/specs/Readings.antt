-- Readings: derivation trees of a book's productions, and the events that they derive.
use Rattle.std.specs.Prelude.{◌≡◌, ℕ, ◌+◌, ◌<◌, Bool, true, List, [], ◌∷◌, ◌++◌}
use Rattle.grammar.specs.Productions.{Book, Numbers, head_of, right_of}

-- a reading: at each node the number of its production, and its parts, one for each item: an event, or a reading
mutual
  pub data Reading : Type 0 where
    node : ℕ → Parts → Reading

  pub data Parts : Type 0 where
    no_part : Parts
    event : Parts → Parts
    part : Reading → Parts → Parts

-- `Reads W fits x r w`: r is a reading by the book's productions from head x, and w is its events in order.
-- `Along W fits ys ps w`: ps are parts for the items ys, and w is their events in order
mutual
  pub data Reads (W : Book) {E : Type 0} (fits : E → ℕ → Bool) : ℕ → Reading → List E → Type 0 where
    by_rule : {x n : ℕ} {ps : Parts} {w : List E} → Numbers W n → head_of W n ≡ x → Along W fits (right_of W n) ps w
        → Reads W fits x (node n ps) w

  pub data Along (W : Book) {E : Type 0} (fits : E → ℕ → Bool) : List ℕ → Parts → List E → Type 0 where
    at_end : Along W fits [] no_part []
    at_event : {y t : ℕ} {ys : List ℕ} {ps : Parts} {e : E} {w : List E} → y ≡ 32 + t → fits e t ≡ true
        → Along W fits ys ps w → Along W fits (y ∷ ys) (event ps) (e ∷ w)
    at_part : {y : ℕ} {ys : List ℕ} {r : Reading} {ps : Parts} {u v w : List E} → y < 32
        → Reads W fits y r u → Along W fits ys ps v → u ++ v ≡ w → Along W fits (y ∷ ys) (part r ps) w
