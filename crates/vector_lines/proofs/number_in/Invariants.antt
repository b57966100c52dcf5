-- `vector_lines::number_in` meets its contract.
-- Assumes nothing.
use Rattle.std.proofs.Common.{◌*◌, ◌<◌}
use Rattle.vector_lines.proofs.number_in.Given as goal

abbrev pub invariant-loop-at : goal.invariant-loop-at
invariant-loop-at l = l.value < l.limit * l.base
