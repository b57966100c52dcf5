-- `vector_lines::packets::put_core` meets its contract.
-- Assumes nothing.
use Rattle.std.proofs.Common.{◌≡◌, ◌≤◌, length}
use Rattle.vector_lines.proofs.packets.put_core.Given as goal

abbrev pub invariant-loop-word : goal.invariant-loop-word
invariant-loop-word l = (l.held ≤ length l.out) × (length l.out ≡ length l.fn.out)
