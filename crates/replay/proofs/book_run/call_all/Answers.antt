use Rattle.std.proofs.Common.{◌+◌, ◌<◌, length, set, ap, ◌∙◌, arith}
use Rattle.book.specs.Books.{open_held}
use Rattle.replay.proofs.BookTurns.{BookMade, book_more}
use Rattle.replay.proofs.book_run.call_all.Goals as goal

pub loop-place-preserved : goal.loop-place-preserved
loop-place-preserved g c =
    let was = c.args.book.now in
    let k = c.loop-place.place in
    let m = c.loop-place.invariant in
    let room : k < length c.loop-place.answers = omega arith in
    let more : BookMade (length was.table.patterns.now) (open_held was) c.args.calls.now (k + 1) (set c.loop-place.answers k c.call_book.result) (open_held c.call_book.new.book) =
    book_more _ _ _ _ _ _ _ _ _ _ (ap (λ t. length t.patterns.now) m.1) m.0 c.loop-place-test.true room c.call_book.ensures.says c.call_book.ensures.kind c.call_book.ensures.after in
    (search more, c.call_book.ensures.table ∙ m.1)
