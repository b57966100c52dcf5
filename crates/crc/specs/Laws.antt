-- What holds of every check of `Crc.antt`, at every width w and polynomial p: it can be continued, it is linear, and so its
-- parts can be joined (document 02, T-04).
-- Assumes nothing.
use Rattle.std.specs.Prelude.{List, [], ◌∷◌, ◌++◌, ◌≡◌, ℕ, length}
use Rattle.std.specs.Int.Bits.{bit_xor}
use Rattle.crc.specs.Crc.{register, joined}

-- running over one part and then another gives what the joined bytes give; either part may be empty
abbrev pub Continues : Type 0
Continues = (w p start : ℕ) (x y : List ℕ) → register w p (register w p start x) y ≡ register w p start (x ++ y)

-- the exclusive or of two strings, byte by byte, as far as both go
unfoldable pub xor_each : List ℕ → List ℕ → List ℕ
xor_each [] y = []
xor_each (c ∷ x) [] = []
xor_each (c ∷ x) (d ∷ y) = bit_xor c d ∷ xor_each x y

-- for byte strings of one length, the registers from starts a and b over x and y, combined by exclusive or, are the register
-- from a xor b over x xor y
abbrev pub Linear : Type 0
Linear =
    (w p a b : ℕ) (x y : List ℕ) → length x ≡ length y
    → bit_xor (register w p a x) (register w p b y) ≡ register w p (bit_xor a b) (xor_each x y)

-- where both parts ran from one start, as in a card's replies to range checksums, their registers and the number of the
-- second part's bytes give the register over the joined bytes; either part may be empty
abbrev pub Joins : Type 0
Joins =
    (w p start : ℕ) (x y : List ℕ)
    → joined w p start (register w p start x) (register w p start y) (length y) ≡ register w p start (x ++ y)
