-- Sets of addresses as maps of bits.
-- Assumes nothing.
use Rattle.std.specs.Prelude.{ℕ, ◌/◌, ◌%◌, ◌^◌, ◌≡◌, List, Bool, ◌&&◌, ◌||◌, ltb, eqb, length, get_or}

-- the address is in the set: its bit, the low bit of each byte first; none behind the map's end is
unfoldable pub marked : List ℕ → ℕ → Bool
marked map a = eqb (get_or map (a / 8) 0 / 2 ^ (a % 8) % 2) 1

-- the map has a bit for the address
abbrev pub covers : List ℕ → ℕ → Bool
covers map a = ltb (a / 8) (length map)

-- the set with the address besides, if the map has a bit for it
pub record Marked (old new : List ℕ) (a : ℕ) : Type 0 where
  pub bits : (b : ℕ) → marked new b ≡ ((eqb b a && covers old a) || marked old b)
