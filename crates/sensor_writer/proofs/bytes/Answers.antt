-- `sensor_writer::bytes` meets its contract: the parts are stored in turn over zeros.
-- Assumes nothing.
use mathlib.Core.List.{List, [], ◌∷◌}
use mathlib.Core.Path.{ap, ap₂, ◌∙◌}
use Prim.Native.Nat.{ℕ}
use native.Mathlib.Omega.{arith}
use lib.ListN.{replicate}
use Rattle.little_endian.specs.Bytes.{little_endian, stored_at, joined}
use Rattle.little_endian.proofs.Stored.{in-turn, stored-between}
use Rattle.sensor_values.specs.Layout.{packed, status_bits, security_bits, input_bytes, sensor_bytes, error_bytes, device_bytes}
use Rattle.sensor_values.specs.Layout.{module_bytes, bytes_of}
use Rattle.sensor_writer.proofs.bytes.Goals as goal

pub returns : goal.returns
unfolding bytes_of sensor_bytes input_bytes device_bytes error_bytes module_bytes
returns c =
    let r = c.args.values in
    let zeros : List ℕ = replicate 64 0 in
    let status = little_endian 4 (packed (status_bits r.status)) in
    let security = little_endian 4 (packed (security_bits r.security)) in
    let sensors = sensor_bytes r.sensors in
    let one = device_bytes r.device1 in
    let two = device_bytes r.device2 in
    let lower = module_bytes r.module0 in
    let upper = module_bytes r.module1 in
    let parts : List (List ℕ) = status ∷ security ∷ sensors ∷ one ∷ two ∷ lower ∷ upper ∷ [] in
    c.module-2.ensures
    ∙ ap (stored_at 53 upper)
    (c.«module».ensures
    ∙ ap (stored_at 50 lower)
    (c.device-2.ensures
    ∙ ap (stored_at 37 two)
    (c.device.ensures
    ∙ ap (stored_at 24 one)
    (c.store.ensures
    ∙ ap₂ (stored_at 8) c.sensor_bytes.ensures
    (c.store_at-2.ensures
    ∙ ap₂ (λ (n : ℕ) (l : List ℕ). stored_at 4 (little_endian 4 n) l) (c.packed-2.ensures ∙ ap packed c.bits-2.ensures)
    (c.store_at.ensures ∙ ap (λ (n : ℕ). stored_at 0 (little_endian 4 n) zeros) (c.packed.ensures ∙ ap packed c.bits.ensures)))))))
    ∙ in-turn 0 parts zeros (omega arith)
    ∙ stored-between 0 (joined parts) zeros (omega arith)

-- the words fit, whatever the bytes of the values
pub packed-requires : goal.packed-requires
packed-requires c = rw c.bits.ensures (omega (arith, c.well_formed))

pub packed-requires-2 : goal.packed-requires-2
packed-requires-2 c = rw c.bits-2.ensures (omega (arith, c.well_formed))
