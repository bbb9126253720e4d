-- The rules held, as a list.
use Rattle.std.proofs.Common.{◌≡◌, ℕ, zero, ◌<◌, ◌≤◌, List, [], map, length, get_or, sym, refl, ap, ◌∙◌, inl, inr, arith}
use Rattle.std.proofs.lemmas.List.{length-map, get_or-map, get_or_past}
use Rattle.std.proofs.lemmas.Bool.{cases_lt}
use Rattle.grammar.specs.Productions.{Production, Book, production, right_of, cost_of as cost_in}
use Rattle.conversion.specs.declared.production.Production.{Production as Row}
use Rattle.conversion.specs.Rows.{production_of}
use Rattle.conversion.specs.Binarised.{rows_book}
use Rattle.arrayvec.specs.ArrayVec.{array_vec_len}
use Rattle.book.specs.declared.rules.Rules.{Rules}
use Rattle.book.specs.Rules.{held, cost_of}

-- what stands in a place of a list that f sees
pub seen : {A B : Type 0} (f : A → B) (xs : List A) (ys : List B) (k : ℕ) (x : A) → map f xs ≡ ys → k < length xs → (d : B) → f (get_or xs k x) ≡ get_or ys k d
seen f xs ys k x e h d = sym (get_or-map f xs k x d h) ∙ ap (λ l. get_or l k d) e

-- how many rules are held
pub many : (b : Rules) → length (held b) ≡ array_vec_len b.rows
many b = length-map b.rows.items production_of

-- the cost of a rule is that of the book's production of that number
pub cost_same : (W : Book) (n : ℕ) → cost_of W.productions n ≡ cost_in W n
unfolding production
cost_same W n =
    let d : Production = record { head = zero; right = []; cost = zero } in
    elim (cases_lt n (length W.productions)) [
      | inl l ↦ get_or-map (λ (p : Production). p.cost) W.productions n d 0 l
      | inr g ↦ get_or_past (map (λ (p : Production). p.cost) W.productions) n 0 (omega (arith, length-map W.productions (λ (p : Production). p.cost)))
          ∙ ap (λ (p : Production). p.cost) (sym (get_or_past W.productions n d g))
    ]

-- the right side of a row is that of the production that it stands for
pub right_there : (rows : List Row) (T n : ℕ) (p : Row) → n < length rows → p ≡ get_or rows n p → (production_of p).right ≡ right_of (rows_book rows T) n
unfolding production
right_there rows T n p h e = ap (λ q. (production_of q).right) e ∙ ap (λ (q : Production). q.right) (seen production_of rows (map production_of rows) n p refl h _)

-- past the rows there is no item
pub right_past : (rows : List Row) (T n : ℕ) → length rows ≤ n → right_of (rows_book rows T) n ≡ []
unfolding production
right_past rows T n g = ap (λ (q : Production). q.right) (get_or_past (map production_of rows) n _ (omega (arith, length-map rows production_of)))
