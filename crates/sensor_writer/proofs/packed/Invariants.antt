-- `sensor_writer::packed`: the number is that of the fields from the last one taken up.
-- Assumes nothing.
use Rattle.std.proofs.Common.{◌≡◌, ◌-◌, length, drop}
use Rattle.sensor_values.specs.Layout.{packed}
use Rattle.sensor_writer.proofs.packed.Given as goal

abbrev pub invariant-loop-i : goal.invariant-loop-i
invariant-loop-i l = l.number ≡ packed (drop (length l.fields - l.i) l.fields)
