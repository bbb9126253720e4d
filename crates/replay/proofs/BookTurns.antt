-- The calls of a book in turn.
use Rattle.std.proofs.Common.{◌≡◌, ℕ, ◌+◌, ◌<◌, List, [], set, length, get_or, refl, ap, ◌∙◌}
use Rattle.std.specs.List.{fold}
use Rattle.grammar.specs.Productions.{Production}
use Rattle.book.specs.Runs.{Call, after, held_after}
use Rattle.replay.specs.declared.answer.Answer.{Answer}
use Rattle.replay.specs.declared.call.BookCall.{BookCall}
use Rattle.replay.specs.Calls.{call_of}
use Rattle.replay.specs.Answers.{said, book_answer, answer_kind, book_kind}
use Rattle.replay.proofs.InTurn.{Made, made_more}

-- the first k calls were made on a book of T patterns
abbrev pub BookMade : ℕ → List Production → List BookCall → ℕ → List Answer → List Production → Type 0
BookMade T was calls k answers now = Made (after T) (book_answer T) book_kind call_of was calls k answers now

pub book_more : (S T : ℕ) (was : List Production) (calls : List BookCall) (k : ℕ) (answers : List Answer) (now is : List Production) (d : BookCall) (r : Answer) → S ≡ T
    → BookMade T was calls k answers now → k < length calls → k < length answers
    → said r ≡ book_answer S now (call_of (get_or calls k d)) → answer_kind r ≡ book_kind (call_of (get_or calls k d)) → is ≡ after S now (call_of (get_or calls k d)) → BookMade T was calls (k + 1) (set answers k r) is
book_more S T was calls k answers now is d r e m h l says of_kind leads =
    let c = call_of (get_or calls k d) in
    made_more (after T) (book_answer T) book_kind call_of was calls k answers now is d (get_or calls k d) r m h l refl (says ∙ ap (λ n. book_answer n now c) e) of_kind (leads ∙ ap (λ n. after n now c) e)

-- from a new book on
pub from_new : (S T : ℕ) (none is : List Production) (calls : List Call) → S ≡ T → none ≡ [] → is ≡ fold (after S) none calls → is ≡ held_after T calls
unfolding held_after
from_new S T none is calls e f h = h ∙ ap (λ n. fold (after n) none calls) e ∙ ap (λ l. fold (after T) l calls) f
