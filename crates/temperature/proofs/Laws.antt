-- A temperature and its byte determine each other.
-- Assumes nothing.
use mathlib.Core.Path.{◌≡◌, refl}
use Prim.Native.Nat.{ℕ, ◌<◌}
use borrow.Author.Tests.{eqb-true, ltb-true}
use lib.Dec.{eqb, ltb}
use lib.IntN.{ℤ, pos, negsuc}
use lib.Signed.{mag}
use mir.Syntax.{w8}
use mir.Facts.{to_z-of_z}
use mir.Val.{to_z, of_z}
use Rattle.temperature.specs.Temperature.{temperature_of, byte_of}
use Rattle.test_laws.proofs.Tests.{below}
use Rattle.temperature.proofs.EveryByte.{every-temperature, same_z, same-z}

-- the machine's own reading of eight bits as a signed number is the temperature
pub machine : (b : ℕ) → b < 256 → to_z w8 b ≡ temperature_of b
machine b h = same-z _ _ (below 256 (λ b. same_z (to_z w8 b) (temperature_of b)) refl b h)

-- every temperature comes back from its byte
pub temperature-again : (z : ℤ) → mag z < 128 → temperature_of (byte_of z) ≡ z
temperature-again z h = same-z _ _ (every-temperature (λ z. same_z (temperature_of (byte_of z)) z) refl refl z h)

-- every byte comes back from its temperature
pub byte-again : (b : ℕ) → b < 256 → byte_of (temperature_of b) ≡ b
byte-again b h = eqb-true _ _ (below 256 (λ b. eqb (byte_of (temperature_of b)) b) refl b h)

-- every byte is a temperature from -128 to 127
pub temperature-lt : (b : ℕ) → b < 256 → mag (temperature_of b) < 128
temperature-lt b h = ltb-true _ _ (below 256 (λ b. ltb (mag (temperature_of b)) 128) refl b h)

-- every temperature is carried by a byte
pub byte-lt : (z : ℤ) → mag z < 128 → byte_of z < 256
byte-lt z h = ltb-true _ _ (every-temperature (λ z. ltb (byte_of z) 256) refl refl z h)

-- the machine's own bits of a signed number on eight are the byte
pub machine-byte : (z : ℤ) → of_z w8 z ≡ byte_of z
machine-byte (pos n) = refl
machine-byte (negsuc n) = refl

-- a temperature comes back from the machine's bits
pub machine-again : (z : ℤ) → mag z < 128 → to_z w8 (of_z w8 z) ≡ z
machine-again z h = to_z-of_z {w = w8} (record { sfits = h })
