-- `sensor_values::rule::module_unused` meets its contract: a temperature is 0 if its byte is.
-- Assumes nothing.
use mathlib.Core.Bool.{and-true}
use Rattle.temperature.proofs.Laws.{machine-byte}
use Rattle.sensor_values.specs.Rule.{module_unused}
use Rattle.sensor_values.proofs.rule.module_unused.Goals as goal

pub returns : goal.returns
unfolding module_unused
returns c = simp (c.zeros-status.ensures, machine-byte, and-true)
