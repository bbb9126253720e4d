use Rattle.std.proofs.Common.{None, refl}
use Rattle.conversion.proofs.Arrays.{square_replicate}
use Rattle.conversion.proofs.Linking.{none_links}
use Rattle.conversion.proofs.chain.Chains.start.Goals as goal

pub loop-x-init : goal.loop-x-init
loop-x-init c = none_links

pub invariant_of-out : goal.invariant_of-out
invariant_of-out c = record { rows = refl; columns = (square_replicate 128 None).1 }
