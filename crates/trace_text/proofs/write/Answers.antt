-- `trace_text::write` asks for a room that every trace has.
-- Assumes nothing.
use native.Mathlib.Omega.{arith}
use Rattle.trace_text.proofs.Walk.{text-short}
use Rattle.trace_text.proofs.write.Goals as goal

pub write_shown-requires : goal.write_shown-requires
write_shown-requires c = omega (arith, text-short c.args.input.now)
