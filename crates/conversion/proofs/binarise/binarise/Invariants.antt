use Rattle.conversion.specs.Binarised.{rows_book}
use Rattle.conversion.proofs.Divided.{Upto, Beyond}
use Rattle.conversion.proofs.binarise.binarise.Given as goal

abbrev pub invariant-loop-n : goal.invariant-loop-n
invariant-loop-n l = Upto (rows_book l.productions l.patterns) l.n l.out

abbrev pub invariant-loop-t : goal.invariant-loop-t
invariant-loop-t l = Beyond (rows_book l.productions l.patterns) l.t l.out
