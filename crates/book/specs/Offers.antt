-- What an offer meets, and what the book then holds.
use Rattle.std.specs.Prelude.{◌≡◌, ℕ, ◌+◌, Bool, cond, ◌&&◌, leb, List, [], ◌∷◌, ◌++◌, length, Ok, Err, Result, ◌==◌, nat_le, nat_lt}
use Rattle.grammar.specs.{Lists.some_of, Lists.same_numbers, Productions.Production, Productions.Book, Productions.all_tails}
pub use Rattle.grammar.specs.Productions.{book}
use Rattle.grammar.specs.{Binarise.binarised, Strict.strict_rules}
use Rattle.book.specs.declared.fault.OfferFault.{OfferFault}
use Rattle.book.specs.Faults.{offer_number}

abbrev pub same_rule : Production → Production → Bool
same_rule p q = p.head == q.head && same_numbers p.right q.right

-- the number of the refusal of a book for its size: too many tails, too many strict rules; 0 for none
abbrev pub size_refusal : Book → ℕ
size_refusal W =
    cond (nat_lt 64 (all_tails W.productions)) 6
    (cond (nat_lt 1024 (length (strict_rules (binarised W)))) 7 0)

-- the first refusal that rule p meets, offered to a book of T patterns that holds these rules; 0 for none. The last two count with it in
abbrev pub refusal : ℕ → List Production → Production → ℕ
refusal T rules p =
    cond (nat_lt 31 p.head) 1
    (cond (nat_lt 8 (length p.right)) 2
    (cond (some_of (leb (32 + T)) p.right) 3
    (cond (some_of (same_rule p) rules) 4
    (cond (nat_le 64 (length rules)) 5
    (size_refusal (book T (rules ++ (p ∷ []))))))))

-- rule p is admitted at the end, and its number is answered, or it is refused, and the book, all of it, is as before
abbrev pub Offered : {B : Type 0} → ℕ → (B → List Production) → Production → B → B → Result ℕ OfferFault → Type 0
Offered T held p was is (Ok n) = (refusal T (held was) p ≡ 0) × (n ≡ length (held was)) × (held is ≡ held was ++ (p ∷ []))
Offered T held p was is (Err f) = (refusal T (held was) p ≡ offer_number f) × (is ≡ was)
