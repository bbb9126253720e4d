use Rattle.std.proofs.Common.{◌≡◌, length, take}
use Rattle.text.specs.Outcomes.{item_part, in_nine}
use Rattle.text.specs.Turns.{words_left}
use Rattle.text.proofs.reader.item_part.Given as goal

-- what the rest gives, the whole gives
abbrev pub invariant-loop-token : goal.invariant-loop-token
invariant-loop-token l = (l.line.cost ≡ 0)
    × (in_nine (item_part l.line.head (take l.line.len l.line.items) (words_left l.words)) ≡ in_nine (item_part l.fn.line.head (take l.fn.line.len l.fn.line.items) (words_left l.fn.words)))

abbrev pub decreases-loop-token : goal.decreases-loop-token
decreases-loop-token l = length (words_left l.words)
