-- `trace_lines::draft::Draft::new` meets its contract: no byte is put over the zeros.
-- Assumes nothing.
use mathlib.Core.Path.{refl, sym}
use native.Mathlib.Omega.{arith}
use lib.ListN.{replicate}
use Rattle.little_endian.proofs.Stored.{stored-nothing}
use Rattle.trace_lines.proofs.draft.Draft.new.Goals as goal

pub invariant_of-result : goal.invariant_of-result
invariant_of-result c = (omega arith, (refl, sym (stored-nothing 0 (replicate 32 0))))
