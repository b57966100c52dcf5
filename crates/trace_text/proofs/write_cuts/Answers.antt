-- `trace_text::write_cuts` asks for a room that the lines of all cuts have.
-- Assumes nothing.
use native.Mathlib.Omega.{arith}
use Rattle.trace_text.proofs.Walk.{cuts-short}
use Rattle.trace_text.proofs.write_cuts.Goals as goal

pub write_shown-requires : goal.write_shown-requires
write_shown-requires c = omega (arith, cuts-short c.args.input.now)
