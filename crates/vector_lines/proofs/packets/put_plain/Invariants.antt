-- `vector_lines::packets::put_plain` meets its contract.
-- Assumes nothing.
use Rattle.std.proofs.Common.{◌≡◌}
use Rattle.vector_lines.proofs.packets.put_plain.Given as goal

abbrev pub invariant-loop-word : goal.invariant-loop-word
invariant-loop-word l = l.out.size ≡ l.fn.out.size
