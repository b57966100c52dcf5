-- `next` of `Packets` meets its contract: what is listed is the packet at the offset, and what is listed behind it.
-- Assumes nothing.
use mathlib.Core.Path.{sym, ap, ◌∙◌}
use mathlib.Core.List.{◌∷◌}
use Prim.Native.Nat.{ℕ, ◌+◌}
use native.Mathlib.Omega.{arith}
use lib.ListN.{length}
use Rattle.tool_words.specs.Packets.{packets_from, listed}
use Rattle.tool_words.proofs.Listing.{none-listed, next-listed}
use Rattle.tool_words.proofs.packets.PacketsIterator.next.Goals as goal

pub returns-in_err-bytes-clause-steps : goal.returns-in_err-bytes-clause-steps
returns-in_err-bytes-clause-steps c =
    let s = c.args.self.now in
    let nothing = ap (listed s.number s.at) (none-listed s.at s.script.now (sym c.in_err-bytes.ensures.packet)) in
    rw c.from_residual.ensures (nothing, nothing)

pub returns-clause-steps : goal.returns-clause-steps
returns-clause-steps c =
    let s = c.args.self.now in
    let packet = c.in_ok-bytes.bytes.now in
    let behind = packets_from (s.at + length packet) s.script.now in
    ap (listed s.number s.at) (next-listed s.at s.script.now packet (sym c.in_ok-bytes.ensures.packet))
    ∙ ap (λ (n : ℕ). record { number = n; at = s.at; bytes = packet } ∷ listed n (s.at + length packet) behind) (sym c.saturating_add.ensures)

pub returns-clause-goes : goal.returns-clause-goes
returns-clause-goes c =
    let s = c.args.self.now in
    let shorter = ap length (returns-clause-steps c) in
    record { on = λ f. (tt, tt, omega (arith, shorter)); keeps = tt; rests = λ f. tt }
