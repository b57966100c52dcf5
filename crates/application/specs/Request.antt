-- Requests of application mode (document 01, "Application mode").
-- Assumes nothing.
use Rattle.std.specs.Prelude.{Bool, true, false, cond, not, List, ℕ, eqb, length, get_or}
use Rattle.application.specs.declared.Request.{Request}
use Rattle.application.specs.declared.Request.TheVariants.{BoardTemperature, Power, FirmwareVersion, FpgaTemperature, Reset, Sensors}
use Rattle.application.specs.declared.Request.TheVariants.{Status, EnterLoader, OtherCard, Unknown}

-- the request of a bare code
unfoldable pub bare_of : ℕ → Request
bare_of code =
    cond (eqb code 0x01) OtherCard
    (cond (eqb code 0x02) BoardTemperature
    (cond (eqb code 0x03) Power
    (cond (eqb code 0x04) FirmwareVersion
    (cond (eqb code 0x05) FpgaTemperature
    (cond (eqb code 0x06) OtherCard
    (cond (eqb code 0x20) Sensors
    (cond (eqb code 0x31) Status
    (cond (eqb code 0x32) EnterLoader Unknown))))))))

-- requests are the bare code, 0x0F with one byte more
unfoldable pub request_of : List ℕ → Request
request_of message =
    cond (eqb (length message) 1) (bare_of (get_or message 0 0))
    (cond (not (eqb (length message) 2)) Unknown
    (cond (not (eqb (get_or message 0 0) 0x0F)) Unknown
    (Reset (get_or message 1 0))))

-- the requests that give refusal 17 if the record breaks its rule: 0x02, 0x03, 0x05 and 0x20
abbrev pub reads_record : Request → Bool
reads_record BoardTemperature = true
reads_record Power = true
reads_record FirmwareVersion = false
reads_record FpgaTemperature = true
reads_record (Reset kind) = false
reads_record Sensors = true
reads_record Status = false
reads_record EnterLoader = false
reads_record OtherCard = false
reads_record Unknown = false
