-- `sensor_writer::device` meets its contract: its front and its counters are stored in turn.
-- Assumes nothing.
use mathlib.Core.List.{List, [], ◌∷◌, ◌++◌}
use mathlib.Core.Path.{ap₂, ◌∙◌}
use Prim.Native.Nat.{ℕ, ◌<◌, ◌+◌}
use native.Mathlib.Omega.{arith}
use lib.Signed.{mag}
use Rattle.little_endian.specs.Bytes.{little_endian, stored_at}
use Rattle.little_endian.proofs.Stored.{in-turn}
use Rattle.temperature.specs.Temperature.{byte_of}
use Rattle.temperature.proofs.Laws.{machine-again}
use Rattle.sensor_values.specs.Layout.{packed, device_status_bits, error_bytes, device_bytes}
use Rattle.sensor_writer.proofs.device.Goals as goal

pub overflow_add-at : goal.overflow_add-at
overflow_add-at c = omega (arith, c.requires, c.ranges)

pub returns : goal.returns
unfolding device_bytes error_bytes
returns c =
    let a = c.args in
    let d = a.d in
    let fpga : mag d.fpga_temperature < 128 = omega (arith, c.well_formed) in
    let hbm : mag d.hbm_temperature < 128 = omega (arith, c.well_formed) in
    let word = packed (device_status_bits d.status) in
    let front : List ℕ = little_endian 1 word ++ (byte_of d.fpga_temperature ∷ byte_of d.hbm_temperature ∷ []) in
    c.store-2.ensures
    ∙ ap₂ (stored_at (a.at + 3)) c.error_bytes.ensures
    (c.store.ensures
    ∙ simp (
      c.to_byte-2.ensures,
      c.to_byte.ensures,
      c.packed.ensures,
      c.bits.ensures,
      machine-again d.fpga_temperature fpga,
      machine-again d.hbm_temperature hbm,
    ))
    ∙ in-turn a.at (front ∷ error_bytes d.errors ∷ []) a.out.now c.requires
