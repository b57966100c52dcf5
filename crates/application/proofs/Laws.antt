-- Laws of application mode: no request is longer than two bytes, and no reply than 64.
-- Assumes nothing.
use mathlib.Core.Path.{◌≡◌, refl}
use mathlib.Core.Bool.{not, ◌&&◌}
use mathlib.Core.List.{List}
use Prim.Native.Nat.{ℕ, ◌≤◌}
use native.Mathlib.Omega.{arith}
use borrow.Author.Tests.{ne_eqb}
use lib.ListN.{length}
use Rattle.sensor_values.specs.Rule.{sound}
use Rattle.sensor_values.specs.declared.SensorRecord.{SensorRecord}
use Rattle.sensor_values.proofs.ValuesAgain.{bytes-length}
use Rattle.test_laws.proofs.Tests.{on-cond}
use Rattle.application.specs.Request.{request_of, reads_record}
use Rattle.application.specs.Response.{Answer, refused, replied, locks, reply_of, answer_of}
use Rattle.application.specs.declared.Request.{Request}
use Rattle.application.specs.declared.Request.TheVariants.{BoardTemperature, Power, FirmwareVersion, FpgaTemperature, Reset, Sensors}
use Rattle.application.specs.declared.Request.TheVariants.{Status, EnterLoader, OtherCard, Unknown}
use Rattle.application.specs.declared.Version.{Version}

long-unknown : (message : List ℕ) → 3 ≤ length message → request_of message ≡ Unknown
unfolding request_of
long-unknown message long = rw (ne_eqb (length message) 1 (λ e. omega (arith, e)), ne_eqb (length message) 2 (λ e. omega (arith, e))) refl

-- a longer message is refused, whatever it begins with
pub long-refused : (version : Version) (r : SensorRecord) (message : List ℕ) → 3 ≤ length message → answer_of version r message ≡ refused 15
unfolding answer_of reply_of
long-refused version r message long = rw (long-unknown message long) refl

-- a reply that 64 bytes hold
abbrev pub Short : Answer → Type 0
Short (refused n) = 0 ≤ 64
Short (replied bytes) = length bytes ≤ 64
Short locks = 0 ≤ 64

reply-short : (version : Version) (r : SensorRecord) (request : Request) → Short (reply_of version r request)
unfolding reply_of
reply-short version r BoardTemperature = omega arith
reply-short version r Power = omega arith
reply-short version r FirmwareVersion = omega arith
reply-short version r FpgaTemperature = omega arith
reply-short version r (Reset kind) = omega arith
reply-short version r Sensors = omega (arith, bytes-length r)
reply-short version r Status = omega arith
reply-short version r EnterLoader = omega arith
reply-short version r OtherCard = omega arith
reply-short version r Unknown = omega arith

-- 64 bytes hold every reply
pub answer-short : (version : Version) (r : SensorRecord) (message : List ℕ) → Short (answer_of version r message)
unfolding answer_of
answer-short version r message =
    on-cond Short (reads_record (request_of message) && not (sound r)) (refused 17) (reply_of version r (request_of message))
    (λ e. omega arith) (λ e. reply-short version r (request_of message))
