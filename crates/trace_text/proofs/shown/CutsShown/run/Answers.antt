-- `Cuts` shows the lines of a packet's cuts: there are as many places as the work says.
-- Assumes nothing.
use native.Mathlib.Omega.{arith}
use Rattle.trace_text.proofs.Walk.{work-few}
use Rattle.trace_text.proofs.shown.CutsShown.run.Goals as goal

pub append_cuts-length-requires : goal.append_cuts-length-requires
append_cuts-length-requires c =
    let card = c.args.card.now in
    let is = c.work-work.ensures card.password in
    let few = work-few card.loader card.region card.password c.args.packet.now c.requires.packet.0 (omega arith) in
    (omega (arith, is, few, c.requires.packet.1), rw is c.requires.room)
