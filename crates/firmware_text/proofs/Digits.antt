-- A hex digit by its ranges and by its bits, computed at every byte.
-- Assumes nothing.
use Prim.Native.Nat.{ℕ, ◌+◌, ◌*◌, ◌/◌, ◌%◌, ◌<◌}
use mathlib.Core.Path.{◌≡◌, refl}
use mathlib.Core.Bool.{Bool, true, not, ◌&&◌, ◌||◌, beq}
use lib.Dec.{leb, eqb}
use borrow.Author.Tests.{eqb-true}
use Rattle.test_laws.proofs.Tests.{beq-eq, there, every_below, below}
use Rattle.firmware_text.specs.Digit.{digit, is_hex}

-- the byte stands in one of the three ranges
abbrev pub ranges : ℕ → Bool
ranges b = (leb 48 b && leb b 57) || (leb 65 b && leb b 70) || (leb 97 b && leb b 102)

-- a digit is in the ranges and its value is that of its bits; any other byte is in none
ranged : ℕ → Bool
ranged b = beq (ranges b) (is_hex b)

valued : ℕ → Bool
valued b = not (is_hex b) || eqb (b % 16 + 9 * (b / 64)) (digit b)

absent : ℕ → Bool
absent b = not (not (is_hex b)) || eqb 16 (digit b)

ranged-table : every_below 256 ranged ≡ true
unfolding ranged digit
ranged-table = refl

valued-table : every_below 256 valued ≡ true
unfolding valued digit
valued-table = refl

absent-table : every_below 256 absent ≡ true
unfolding absent digit
absent-table = refl

module _ (b : ℕ) (h : b < 256) where
  pub hex-ranges : ranges b ≡ is_hex b
  unfolding ranged
  hex-ranges = beq-eq (ranges b) (is_hex b) (below 256 ranged ranged-table b h)

  pub hex-value : is_hex b ≡ true → b % 16 + 9 * (b / 64) ≡ digit b
  unfolding valued
  hex-value e = eqb-true _ _ (there (is_hex b) _ e (below 256 valued valued-table b h))

  pub hex-absent : not (is_hex b) ≡ true → 16 ≡ digit b
  unfolding absent
  hex-absent e = eqb-true _ _ (there (not (is_hex b)) _ e (below 256 absent absent-table b h))
