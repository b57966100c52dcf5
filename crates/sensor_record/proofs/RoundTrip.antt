-- What was written is read back, and what was read is written again, as the public functions promise.
-- Assumes nothing.
use mathlib.Core.Path.{◌≡◌, refl, sym, ap, ◌∙◌}
use mathlib.Core.Bool.{Bool, true, false, cond, false≢true}
use mathlib.Core.List.{List}
use Prim.Native.Nat.{ℕ, ◌+◌, ◌≤◌}
use borrow.Author.Tests.{le-ltb}
use lib.ListN.{length, take, drop}
use lib.Seq.{take_at}
use Rattle.little_endian.specs.Bytes.{Bytes, stored_at}
use Rattle.little_endian.proofs.Stored.{stored-between}
use Rattle.sensor_values.specs.Layout.{bytes_of}
use Rattle.sensor_values.specs.Rule.{sound}
use Rattle.sensor_values.specs.Reading.{record_of, sound_bytes}
use Rattle.sensor_values.specs.declared.SensorRecord.{SensorRecord}
use Rattle.sensor_values.proofs.ValuesAgain.{bytes-length}
use Rattle.sensor_values.proofs.Exactly.{read_again, sound-written, kept, write_again}
use Rattle.sensor_record.specs.Answers.{Answer, refused, held, read_of, output, write_of}

-- a sound record over an output with the room is written
written : (r : SensorRecord) (out : List ℕ) → sound r ≡ true → 64 ≤ length out → write_of r out ≡ output 0 (stored_at 0 (bytes_of r) out)
unfolding write_of
written r out e room = rw (le-ltb (length out) 64 room, e)

-- the 64 bytes that are written stand first
front : (r : SensorRecord) (out : List ℕ) → 64 ≤ length out → take 64 (stored_at 0 (bytes_of r) out) ≡ bytes_of r
front r out room =
    ap (take 64) (stored-between 0 (bytes_of r) out (rw (bytes-length r) room))
    ∙ take_at (bytes_of r) (drop (0 + length (bytes_of r)) out) 64 (bytes-length r)

-- reading what was written gives the record back
pub read-written : (r : SensorRecord) (out : List ℕ) → sound r ≡ true → 64 ≤ length out → read_of (take 64 (write_of r out).out) ≡ held r
unfolding read_of
read-written r out e room =
    rw (written r out e room, front r out room, sound-written r e) (ap held (read_again r e))

-- what a reader that answered r read
module _ (b : List ℕ) (r : SensorRecord) where
  abbrev is_held : Answer → Bool
  is_held (refused n) = false
  is_held (held s) = true

  abbrev the_held : Answer → SensorRecord
  the_held (refused n) = r
  the_held (held s) = s

  answer : (test : Bool) → cond test (held (record_of b)) (refused 17) ≡ held r → (test ≡ true) × (record_of b ≡ r)
  answer true e = (refl, ap the_held e)
  answer false e = absurd (false≢true (ap is_held e))

  -- writing what was read gives the bytes back
  pub written_read : (out : List ℕ) → Bytes b → read_of b ≡ held r → 64 ≤ length out → write_of r out ≡ output 0 (stored_at 0 b out)
  unfolding read_of
  written_read out bytes e room =
      let a = answer (sound_bytes b) e in
      let s : sound r ≡ true = ap sound (sym a.1) ∙ (kept b a.0).1.1 in
      written r out s room
      ∙ ap (λ (l : List ℕ). output 0 (stored_at 0 l out)) (ap bytes_of (sym a.1) ∙ write_again b bytes a.0)
