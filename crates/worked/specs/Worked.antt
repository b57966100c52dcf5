-- The worked numbers of document 01 ("Worked numbers", its first paragraph), as one list.
-- Assumes nothing.
use Rattle.std.specs.Prelude.{List, [], ◌∷◌, ◌≡◌, ℕ, ℤ, pos, negsuc}
use Rattle.application.specs.Response.{version_bytes}
use Rattle.application.specs.declared.Version.{Version}
use Rattle.crc.specs.Crc.{checksum_of}
use Rattle.little_endian.specs.Bytes.{little_endian}
use Rattle.packet.specs.Packet.{acknowledgement_of}
use Rattle.sensor_record.specs.Power.{watts_of}
use Rattle.temperature.specs.Temperature.{temperature_of}

-- a worked number: what is given, and what it comes to
pub data Row : Type 0 where
  checksum : List ℕ → ℕ → Row
  degrees : ℕ → ℤ → Row
  version : Version → List ℕ → Row
  watts : ℕ → List ℕ → Row
  power : ℕ → ℕ → ℕ → Row
  acknowledgement : List ℕ → ℕ → Row

-- what a row says: the checksum of bytes; the temperature on a byte; the bytes of a version and of a power in watts; the watts of
-- raw volts and raw amps; the byte that answers a message
abbrev pub Holds : Row → Type 0
Holds (checksum bytes sum) = checksum_of bytes ≡ sum
Holds (degrees byte t) = temperature_of byte ≡ t
Holds (version v bytes) = version_bytes v ≡ bytes
Holds (watts n bytes) = little_endian 2 n ≡ bytes
Holds (power volts amps n) = watts_of volts amps ≡ n
Holds (acknowledgement message byte) = acknowledgement_of message ≡ byte

-- all rows hold
abbrev pub AllHold : List Row → Type 0
AllHold [] = Unit {0}
AllHold (row ∷ rest) = Holds row × AllHold rest

-- xx.yy.zz
abbrev pub numbered : ℕ → ℕ → ℕ → Version
numbered xx yy zz = record { xx = xx; yy = yy; zz = zz }

-- the rows in document 01's order; negsuc n is -(n + 1), and a message is cut behind its core length
abbrev pub rows : List Row
rows =
    checksum [] 0xFFFF
    ∷ checksum (0x3B ∷ 0x00 ∷ []) 0xC460
    ∷ checksum (0x15 ∷ []) 0xA364
    ∷ checksum (0x20 ∷ 0x00 ∷ 0x00 ∷ 0x01 ∷ 0x00 ∷ 0x10 ∷ 0x32 ∷ 0x54 ∷ 0x76 ∷ []) 0x9666
    ∷ degrees 0xFE (negsuc 1)
    ∷ degrees 0x80 (negsuc 127)
    ∷ degrees 0x7F (pos 127)
    ∷ version (numbered 6 2 11) (0x00 ∷ 0x0B ∷ 0x02 ∷ 0x06 ∷ [])
    ∷ watts 288 (0x20 ∷ 0x01 ∷ [])
    ∷ power 9584 10000 149
    ∷ acknowledgement (0x80 ∷ 0x05 ∷ 0x01 ∷ []) 0x55
    ∷ acknowledgement (0x80 ∷ 0x06 ∷ 0x01 ∷ []) 0x54
    ∷ []
