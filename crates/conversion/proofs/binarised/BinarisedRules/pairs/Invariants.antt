use Rattle.std.proofs.Common.{◌≡◌, ◌+◌, ◌<◌}
use Rattle.arrayvec.specs.ArrayVec.{array_vec_len}
use Rattle.conversion.proofs.Divided.{Whole}
use Rattle.conversion.proofs.binarised.BinarisedRules.pairs.Given as goal

abbrev pub invariant-loop-item : goal.invariant-loop-item
invariant-loop-item l =
    (Whole l.self l.left l.number l.item-index l.items ≡ Whole l.initial.self l.head l.number 0 l.items)
    × (l.self.symbols ≡ l.initial.self.symbols + l.item-index) × (array_vec_len l.self.rules ≡ array_vec_len l.initial.self.rules + l.item-index)
    × (l.left < l.self.symbols)
