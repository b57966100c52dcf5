-- Known bits: a bit for each byte of a region, the low bit of each byte first, set where the byte is known (document 02, T-09).
-- Assumes nothing.
use Rattle.std.specs.Prelude.{Bool, cond, ◌&&◌, ◌||◌, List, [], ◌∷◌, length, get_or, drop, sum_by}
use Rattle.std.specs.Prelude.{◌≡◌, ℕ, zero, suc, ◌+◌, ◌-◌, ◌*◌, ◌/◌, ◌<◌, eqb, leb, ltb}
use Rattle.std.specs.Int.Count.{ones}
use Rattle.address_set.specs.Bits.{marked}

-- ---- a map of bits

-- the length of the longest map that a region has: that of the greatest
abbrev pub longest_map : ℕ
longest_map = 32768

-- how many bits of a map are set: the ones of its bytes
abbrev pub count_of : List ℕ → ℕ
count_of map = sum_by ones map

-- and how many of a map of bytes are not
abbrev pub unset : List ℕ → ℕ
unset map = length map * 8 - count_of map

-- the number of bytes that are not known; of a map longer than any region's, as many as the greatest region has
abbrev pub unknown_of : List ℕ → ℕ
unknown_of map = cond (ltb longest_map (length map)) (longest_map * 8) (unset map)

-- the addresses from one on, and below another
abbrev pub between : (from end a : ℕ) → Bool
between from end a = leb from a && ltb a end

-- a map with the addresses from one on and below another besides
abbrev pub Adds : (from end : ℕ) → List ℕ → List ℕ → Type 0
Adds from end old new = (a : ℕ) → marked new a ≡ (between from end a || marked old a)

-- the map is not longer than any region's, and has n addresses from one on
abbrev pub has_range : List ℕ → (from n : ℕ) → Bool
has_range map from n = leb (length map) longest_map && leb (from + n) (length map * 8)

-- the map with n addresses from one on besides, if it has them and is not longer than any region's
pub record WithRange (from n : ℕ) (old new : List ℕ) : Type 0 where
  pub sized : length new ≡ length old
  pub bits : (a : ℕ) → marked new a ≡ ((between from (from + n) a && has_range old from n) || marked old a)

-- ---- two buffers

-- the number of places where two buffers differ
unfoldable pub differ : List ℕ → List ℕ → ℕ
differ [] f = 0
differ (x ∷ z) [] = 0
differ (x ∷ z) (y ∷ f) = cond (eqb x y) 0 1 + differ z f

-- the first so many places of two buffers as bits of a number, the lowest first: 1 where they have the same byte
unfoldable pub alike_bits : ℕ → List ℕ → List ℕ → ℕ
alike_bits zero z f = 0
alike_bits (suc k) [] f = 0
alike_bits (suc k) (x ∷ z) [] = 0
alike_bits (suc k) (x ∷ z) (y ∷ f) = cond (eqb x y) 1 0 + 2 * alike_bits k z f

-- so many bytes of such bits, each of eight places
unfoldable pub alike_bytes : ℕ → List ℕ → List ℕ → List ℕ
alike_bytes zero z f = []
alike_bytes (suc n) z f = alike_bits 8 z f ∷ alike_bytes n (drop 8 z) (drop 8 f)

-- the known bits of two buffers: a bit for each place, the low bit of each byte first, 1 where they have the same byte
abbrev pub known_of : List ℕ → List ℕ → List ℕ
known_of z f = alike_bytes (length z / 8) z f

-- a map says, place by place, where two buffers have the same byte
pub record Knows (z f known : List ℕ) : Type 0 where
  pub sized : length z ≡ length known * 8
  pub beside : length f ≡ length z
  pub bits : (a : ℕ) → a < length z → marked known a ≡ eqb (get_or z a 0) (get_or f a 0)
