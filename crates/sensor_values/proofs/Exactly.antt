-- Sound values and sound bytes correspond exactly.
-- Assumes nothing.
use mathlib.Core.Path.{◌≡◌, sym, ap, ◌∙◌}
use mathlib.Core.Logic.{◌↔◌}
use mathlib.Core.Bool.{true, ◌&&◌}
use mathlib.Core.List.{List}
use Prim.Native.Nat.{ℕ}
use borrow.Author.Tests.{eqb-true}
use lib.Dec.{eqb}
use lib.ListN.{length}
use Rattle.little_endian.specs.Bytes.{Bytes}
use Rattle.test_laws.proofs.Tests.{both}
use Rattle.sensor_values.specs.Layout.{bytes_of}
use Rattle.sensor_values.specs.Rule.{fields, unused, sound}
use Rattle.sensor_values.specs.Reading.{record_of, reserved_zero, sound_bytes, IsRecord}
use Rattle.sensor_values.specs.declared.SensorRecord.{SensorRecord}
use Rattle.sensor_values.proofs.ValuesAgain.{values-again, reserved-clear, bytes-length}
use Rattle.sensor_values.proofs.BytesAgain.{record-again}

-- a sound record's values fit their bits, so they are read back
pub read_again : (r : SensorRecord) → sound r ≡ true → record_of (bytes_of r) ≡ r
unfolding sound
read_again r e = values-again r (both (fields r) (unused r) e).0

-- its bytes keep the rule
pub sound-written : (r : SensorRecord) → sound r ≡ true → sound_bytes (bytes_of r) ≡ true
unfolding sound_bytes sound
sound-written r e =
    let fits = (both (fields r) (unused r) e).0 in
    rw (bytes-length r, reserved-clear r fits, values-again r fits) e

-- what holds of bytes that keep the rule
pub kept : (b : List ℕ) → sound_bytes b ≡ true → (length b ≡ 64) × ((reserved_zero b ≡ true) × (sound (record_of b) ≡ true))
unfolding sound_bytes
kept b e =
    let p = both (eqb (length b) 64) (reserved_zero b && sound (record_of b)) e in
    (eqb-true _ _ p.0, both (reserved_zero b) (sound (record_of b)) p.1)

-- they are written again from the values that they hold
pub write_again : (b : List ℕ) → Bytes b → sound_bytes b ≡ true → bytes_of (record_of b) ≡ b
write_again b bytes e = let k = kept b e in record-again b bytes k.0 k.1.0

-- bytes keep the rule exactly if they are a record's
pub exactly-records : (b : List ℕ) → Bytes b → sound_bytes b ≡ true ↔ IsRecord b
exactly-records b bytes = (
  λ e. record { values = record_of b; kept = (kept b e).1.1; written = sym (write_again b bytes e) },
  λ p. ap sound_bytes p.written ∙ sound-written p.values p.kept,
)
