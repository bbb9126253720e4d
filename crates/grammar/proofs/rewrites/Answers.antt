use Rattle.grammar.specs.Binarise.{binarised}
use Rattle.grammar.proofs.Grammars.{generates_reads, generates_derives}
use Rattle.grammar.proofs.rewrites.Goals as goal

pub returns : goal.returns
returns g c = λ W fits. record { written = generates_reads W fits; binary = generates_derives W.patterns (binarised W) fits }
