-- `trace_text::packets::append_packets` meets its contract: what is left to walk gives the rest of the text.
-- Assumes nothing.
use Rattle.std.proofs.Common.{◌≡◌, ◌-◌, ◌≤◌, length, drop}
use Rattle.script.specs.Script.{frames_of}
use Rattle.trace_text.specs.Trace.{lines_at}
use Rattle.trace_text.proofs.Walk.{Reaches}
use Rattle.trace_text.proofs.packets.append_packets.Given as goal

abbrev pub invariant-loop-length : goal.invariant-loop-length
invariant-loop-length g l = (l.at ≤ length l.script) × (l.card.password ≡ l.initial.card.password)
    × Reaches g.S.Shown.kind (lines_at g.S.Shown.kind l.initial.card.password l.initial.card.loader l.initial.card.region 5 (frames_of (drop 5 l.script)))
    l.initial.out l.initial.card.password l.script l.at l.card.loader l.card.region l.held l.out

abbrev pub decreases-loop-length : goal.decreases-loop-length
decreases-loop-length g l = length l.script - l.at
