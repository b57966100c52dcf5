-- What requests are answered in application mode (document 01, "Application mode").
-- Assumes nothing.
use Rattle.std.specs.Prelude.{cond, not, ◌&&◌, ◌||◌, Result, Ok, Err, List, [], ◌∷◌, ℕ, eqb, length}
use Rattle.little_endian.specs.Bytes.{little_endian, stored_at}
use Rattle.refusal.specs.Refusal.{number_of}
use Rattle.refusal.specs.declared.Refusal.{Refusal}
use Rattle.sensor_values.specs.Layout.{bytes_of}
use Rattle.sensor_values.specs.Rule.{sound}
use Rattle.sensor_values.specs.declared.SensorRecord.{SensorRecord}
use Rattle.temperature.specs.Temperature.{byte_of, greater_of}
use Rattle.application.specs.Request.{request_of, reads_record}
use Rattle.application.specs.declared.Request.{Request}
use Rattle.application.specs.declared.Request.TheVariants.{BoardTemperature, Power, FirmwareVersion, FpgaTemperature, Reset, Sensors}
use Rattle.application.specs.declared.Request.TheVariants.{Status, EnterLoader, OtherCard, Unknown}
use Rattle.application.specs.declared.Response.{Response}
use Rattle.application.specs.declared.Response.TheVariants.{Replied, Locks}
use Rattle.application.specs.declared.Version.{Version}

-- an answer of document 01: a refusal's number; a reply's bytes; or no bytes, and the mode becomes locked
pub data Answer : Type 0 where
  refused : ℕ → Answer
  replied : List ℕ → Answer
  locks : Answer

-- what is told of an answer: a refusal's number; the number of bytes replied; or that the mode becomes locked
pub data Told : Type 0 where
  refusal : ℕ → Told
  count : ℕ → Told
  locked : Told

-- what was told, in these terms
abbrev pub told : Result Response Refusal → Told
told (Err why) = refusal (number_of why)
told (Ok (Replied n)) = count n
told (Ok Locks) = locked

-- what is told, and the reply buffer then
pub record Left : Type 0 where
  pub says : Told
  pub buffer : List ℕ

-- the two together
abbrev pub left : Told → List ℕ → Left
left says buffer = record { says = says; buffer = buffer }

-- an answer told, with its bytes over the front of a buffer
abbrev pub left_by : Answer → List ℕ → Left
left_by (refused n) buffer = left (refusal n) buffer
left_by (replied bytes) buffer = left (count (length bytes)) (stored_at 0 bytes buffer)
left_by locks buffer = left locked buffer

-- version xx.yy.zz is 0, zz, yy, xx
abbrev pub version_bytes : Version → List ℕ
version_bytes v = 0 ∷ v.zz ∷ v.yy ∷ v.xx ∷ []

-- 0x0F: 0x01 for data 1 or 2, otherwise 0x02
abbrev pub reset_reply : ℕ → ℕ
reset_reply kind = cond (eqb kind 1 || eqb kind 2) 0x01 0x02

-- the answer to a request whose record, if it reads it, keeps its rule
unfoldable pub reply_of : Version → SensorRecord → Request → Answer
reply_of version r BoardTemperature = replied (byte_of (greater_of r.sensors.inlet r.sensors.outlet) ∷ [])
reply_of version r Power = replied (little_endian 2 r.sensors.total_power)
reply_of version r FirmwareVersion = replied (version_bytes version)
reply_of version r FpgaTemperature = replied (byte_of (greater_of r.device1.fpga_temperature r.device2.fpga_temperature) ∷ [])
reply_of version r (Reset kind) = replied (reset_reply kind ∷ [])
reply_of version r Sensors = replied (bytes_of r)
reply_of version r Status = replied (0x02 ∷ [])
reply_of version r EnterLoader = locks
reply_of version r OtherCard = refused 16
reply_of version r Unknown = refused 15

-- the answer to a message: 15 and 16 for what is no request of this card, 17 for a record that breaks its rule
unfoldable pub answer_of : Version → SensorRecord → List ℕ → Answer
answer_of version r message =
    cond (reads_record (request_of message) && not (sound r)) (refused 17) (reply_of version r (request_of message))
