-- `vector_lines::room::repeat` meets its contract.
-- Assumes nothing.
use Rattle.std.proofs.Common.{length, ◌-◌, ◌≡◌, ◌<◌}
use Rattle.vector_lines.proofs.room.repeat.Given as goal

abbrev pub invariant-loop-filled : goal.invariant-loop-filled
invariant-loop-filled l = (0 < l.filled) × (length l.bytes ≡ length l.initial.bytes)

abbrev pub decreases-loop-filled : goal.decreases-loop-filled
decreases-loop-filled l = length l.initial.bytes - l.filled
