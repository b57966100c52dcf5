-- Cyclic redundancy checks of any width and polynomial, and the checksum (document 01, "Checksum and packet"; document 02,
-- T-04). A check runs a register over bits; what the register holds behind them is the checksum.
-- Assumes nothing.
use Rattle.std.specs.Prelude.{List, [], ◌∷◌, ◌++◌, ℕ, zero, suc, ◌-◌, ◌*◌, ◌/◌, ◌%◌, ◌^◌, replicate}
use Rattle.std.specs.Int.Bits.{bit_xor}

-- the n low bits of a number, high bit first
unfoldable pub bits_of : ℕ → ℕ → List ℕ
bits_of zero b = []
bits_of (suc n) b = (b / 2 ^ n % 2) ∷ bits_of n b

-- the bits of a string of bytes, high bit of each byte first
unfoldable pub bit_string : List ℕ → List ℕ
bit_string [] = []
bit_string (b ∷ bs) = bits_of 8 b ++ bit_string bs

-- w is the width of the register, p the polynomial's terms below x^w
module _ (w p : ℕ) where
  -- the register one place to the left; where a 1 falls out at the top, the polynomial is exclusive-ored in
  unfoldable pub shifted : ℕ → ℕ
  shifted r = bit_xor (r * 2 % 2 ^ w) (r / 2 ^ (w - 1) % 2 * p)

  -- the register after one data bit, which is exclusive-ored into the top place before the shift
  unfoldable pub bit_in : ℕ → ℕ → ℕ
  bit_in r d = shifted (bit_xor r (d * 2 ^ (w - 1)))

  -- the register after a string of bits
  unfoldable pub bits_in : ℕ → List ℕ → ℕ
  bits_in r [] = r
  bits_in r (d ∷ ds) = bits_in (bit_in r d) ds

  -- the register from r over a string of bytes, no final change
  unfoldable pub register : ℕ → List ℕ → ℕ
  register r bytes = bits_in r (bit_string bytes)

  -- the register over two strings of bytes joined, from the registers over each, both from `start`, and the number of
  -- the second's bytes: the second ran from `start` and not from `first`, and what that changes is the exclusive or of the
  -- two, run over as many zero bytes
  unfoldable pub joined : (start first second count : ℕ) → ℕ
  joined start first second count = bit_xor (register (bit_xor first start) (replicate count 0)) second

-- document 01's check, CRC16-CCITT, x^16 + x^12 + x^5 + 1: the register from a start over bytes
abbrev pub register_of : (start : ℕ) (bytes : List ℕ) → ℕ
register_of = register 16 0x1021

-- document 01's checksum: with the start 0xFFFF
abbrev pub checksum_of : List ℕ → ℕ
checksum_of = register_of 0xFFFF

-- the checksum of joined bytes, from the checksums of the two parts and the number of the second's bytes
abbrev pub joined_of : (first second count : ℕ) → ℕ
joined_of = joined 16 0x1021 0xFFFF
