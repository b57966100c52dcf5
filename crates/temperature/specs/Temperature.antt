-- Temperatures: two's complement, -128 to 127, on one byte (document 01, "Application mode").
-- Assumes nothing.
use Rattle.std.specs.Prelude.{cond, ℕ, suc, ◌-◌, ltb, ℤ, pos, negsuc, ◌-ℤ◌}
use Rattle.std.specs.Int.Signed.{lt_z}

-- the temperature of a byte: below 128 the byte itself, else the byte less 256
abbrev pub temperature_of : ℕ → ℤ
temperature_of b = cond (ltb b 128) (pos b) (pos b -ℤ pos 256)

-- the byte of a temperature: of n it is n, of -(n + 1), which is written negsuc n, it is 256 - (n + 1)
abbrev pub byte_of : ℤ → ℕ
byte_of (pos n) = n
byte_of (negsuc n) = 256 - suc n

-- the greater of two temperatures
abbrev pub greater_of : ℤ → ℤ → ℤ
greater_of a b = cond (lt_z a b) b a
