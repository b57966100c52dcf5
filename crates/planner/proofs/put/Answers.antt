-- `planner::put` meets its contract: no packet, no room, or the packet in the part that was lent for it.
-- Assumes nothing.
use mathlib.Core.Path.{ap, ◌∙◌}
use mathlib.Core.List.{◌++◌}
use Prim.Native.Nat.{◌+◌, ◌-◌}
use native.Mathlib.Omega.{arith}
use lib.ListN.{length, take, drop}
use Rattle.packet.specs.Packet.{Written}
use Rattle.packet.proofs.Written.{packet-length}
use Rattle.planner.proofs.Puts.{packet-none, packet-some, packet-part, room-nothing}
use Rattle.planner.proofs.put.Goals as goal

pub returns-then-core-least : goal.returns-then-core-least
returns-then-core-least c =
    let a = c.args in
    rw (packet-none a.least a.core.now c.if-core-least.true) (room-nothing a.n a.out.now)

pub returns-then-out-end : goal.returns-then-out-end
returns-then-out-end c =
    let a = c.args in
    let core = a.core.now in
    let some = packet-some a.least core (omega arith) in
    rw some (omega (arith, packet-length core), λ room. absurd (omega (arith, packet-length core)))

pub returns : goal.returns
returns c =
    let a = c.args in
    let core = a.core.now in
    let out = a.out.now in
    let some = packet-some a.least core (omega arith) in
    let behind = drop (a.n + length core + 5 - a.n) (drop a.n out) in
    let put =
    ap (λ (w : Written). take a.n out ++ (w.buffer ++ behind)) c.write.ensures
    ∙ packet-part a.n core out (omega arith) (omega arith) (omega arith) in
    rw some (omega (arith, packet-length core), λ room. put)
