-- `vector_lines::words::put_meant` meets its contract.
-- Assumes nothing.
use Rattle.std.proofs.Common.{◌≡◌}
use Rattle.vector_lines.proofs.words.put_meant.Given as goal

abbrev pub invariant-loop-letter : goal.invariant-loop-letter
invariant-loop-letter l = l.text.size ≡ l.fn.text.size
