-- Each turn reads at least one byte more of the room.
use Rattle.std.proofs.Common.{◌≤◌, ◌-◌, length}
use Rattle.files.proofs.read_all.Given as goal

abbrev pub invariant-loop-held : goal.invariant-loop-held
invariant-loop-held g l = l.held ≤ length l.room

abbrev pub decreases-loop-held : goal.decreases-loop-held
decreases-loop-held g l = length l.room - l.held
