-- `record_layout::bytes` meets its contract: the parts are stored in turn over zeros.
-- Assumes nothing.
use mathlib.Core.List.{List, [], ◌∷◌}
use mathlib.Core.Path.{ap, ap₂, ◌∙◌}
use Prim.Native.Nat.{ℕ}
use native.Mathlib.Omega.{arith}
use lib.ListN.{replicate}
use Rattle.little_endian.specs.Bytes.{stored_at, joined}
use Rattle.little_endian.proofs.Stored.{in-turn, stored-between}
use Rattle.sensor_values.specs.Layout.{input_bytes, sensor_bytes, error_bytes}
use Rattle.record_layout.specs.Reading.{values_in}
use Rattle.record_layout.specs.Layout.{status_values, security_values, device_values, module_values, value_bytes}
use Rattle.record_layout.proofs.BothWays.{SensorsHeld, DeviceHeld, Held, values-again}
use Rattle.record_layout.proofs.bytes.Goals as goal

pub returns : goal.returns
unfolding value_bytes status_values security_values sensor_bytes input_bytes device_values error_bytes module_values
returns c =
    let r = c.args.values in
    let good = c.well_formed.0.1.1.1.1 in
    let sensed = good.0 in
    let first = good.1.0 in
    let second = good.1.1.0 in
    let sensors_held : SensorsHeld r.sensors = (
      omega (arith, sensed),
      omega (arith, sensed),
      (omega (arith, sensed), omega (arith, sensed)),
      (omega (arith, sensed), omega (arith, sensed)),
      (omega (arith, sensed), omega (arith, sensed)),
      omega (arith, sensed),
    ) in
    let first_held : DeviceHeld r.device1 = (
      omega (arith, first),
      omega (arith, first),
      (omega (arith, first), omega (arith, first), omega (arith, first), omega (arith, first)),
    ) in
    let second_held : DeviceHeld r.device2 = (
      omega (arith, second),
      omega (arith, second),
      (omega (arith, second), omega (arith, second), omega (arith, second), omega (arith, second)),
    ) in
    let held : Held r = (
      sensors_held,
      first_held,
      second_held,
      omega (arith, good.1.1.1.0),
      omega (arith, good.1.1.1.1.0),
    ) in
    let zeros : List ℕ = replicate 87 0 in
    let status = status_values r.status in
    let security = security_values r.security in
    let sensors = sensor_bytes r.sensors in
    let one = device_values r.device1 in
    let two = device_values r.device2 in
    let lower = module_values r.module0 in
    let upper = module_values r.module1 in
    let parts : List (List ℕ) = status ∷ security ∷ sensors ∷ one ∷ two ∷ lower ∷ upper ∷ [] in
    let written = c.module-2.ensures
    ∙ ap (stored_at 77 upper)
    (c.«module».ensures
    ∙ ap (stored_at 67 lower)
    (c.device-2.ensures
    ∙ ap (stored_at 50 two)
    (c.device.ensures
    ∙ ap (stored_at 33 one)
    (c.store.ensures
    ∙ ap₂ (stored_at 17) c.sensor_bytes.ensures
    (c.security.ensures ∙ ap (stored_at 8 security) c.status.ensures)))))
    ∙ in-turn 0 parts zeros (omega arith)
    ∙ stored-between 0 (joined parts) zeros (omega arith) in
    record { bytes = written; again = ap values_in written ∙ values-again r held }
