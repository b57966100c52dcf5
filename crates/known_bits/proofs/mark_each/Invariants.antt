-- `known_bits::mark_each` meets its contract.
-- Assumes nothing.
use Rattle.known_bits.specs.Known.{Adds}
use Rattle.known_bits.proofs.mark_each.Given as goal

abbrev pub invariant-loop-address : goal.invariant-loop-address
invariant-loop-address l = Adds l.from l.address l.initial.map l.map
