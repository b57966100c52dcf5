-- What the record's reader and writer answer and leave (document 01, "Sensor record", "Refusal numbers").
-- Assumes nothing.
use Rattle.std.specs.Prelude.{cond, not, List, ℕ, ltb, length, Result, Ok, Err, ⊤}
use Rattle.little_endian.specs.Bytes.{stored_at}
use Rattle.refusal.specs.declared.Refusal.{Refusal}
use Rattle.refusal.specs.Refusal.{number_of}
use Rattle.sensor_values.specs.Layout.{bytes_of}
use Rattle.sensor_values.specs.Rule.{sound}
use Rattle.sensor_values.specs.Reading.{record_of, sound_bytes}
use Rattle.sensor_values.specs.declared.SensorRecord.{SensorRecord}

-- the reader's answer in document 01's terms: a refusal's number, or the record
pub data Answer : Type 0 where
  refused : ℕ → Answer
  held : SensorRecord → Answer

-- what the reader answered, in these terms
abbrev pub answered : Result SensorRecord Refusal → Answer
answered (Err why) = refused (number_of why)
answered (Ok r) = held r

-- the reader: 17 for bytes that are not 64 or break the rule
unfoldable pub read_of : List ℕ → Answer
read_of b = cond (sound_bytes b) (held (record_of b)) (refused 17)

-- the writer's answer in document 01's terms, with the output then: a refusal's number, 0 where it wrote
pub record Output : Type 0 where
  pub refusal : ℕ
  pub out : List ℕ

abbrev pub output : ℕ → List ℕ → Output
output refusal out = record { refusal = refusal; out = out }

-- what the writer answered and left, in these terms
abbrev pub outcome : Result ⊤ Refusal → List ℕ → Output
outcome (Err why) out = output (number_of why) out
outcome (Ok _) out = output 0 out

-- the writer: 13 for an output under 64 bytes, 17 for a record that breaks the rule, else its bytes over the output's front
unfoldable pub write_of : SensorRecord → List ℕ → Output
write_of r out =
    cond (ltb (length out) 64) (output 13 out)
    (cond (not (sound r)) (output 17 out)
    (output 0 (stored_at 0 (bytes_of r) out)))
