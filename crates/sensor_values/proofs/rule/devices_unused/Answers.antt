-- `sensor_values::rule::devices_unused` meets its contract, but for the order of its conjunctions; a temperature is 0 if its byte is.
-- Assumes nothing.
use mathlib.Core.Bool.{and-true, and_assoc}
use Rattle.temperature.proofs.Laws.{machine-byte}
use Rattle.sensor_values.specs.Rule.{devices_unused}
use Rattle.sensor_values.proofs.rule.devices_unused.Goals as goal

pub returns : goal.returns
unfolding devices_unused
returns c = simp (c.zeros-errors.ensures, machine-byte, and_assoc, and-true)
