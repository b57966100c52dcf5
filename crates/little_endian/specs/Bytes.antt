-- Numbers as bytes, low byte first, and bytes stored at a place (document 01, "Checksum and packet", "Sensor record").
-- Assumes nothing.
use Rattle.std.specs.Prelude.{cond, List, [], ◌∷◌, ◌++◌, ◌≡◌, ℕ, zero, suc, ◌+◌, ◌*◌, ◌/◌, ◌%◌, ◌<◌, leb, length, get_or, take, drop}

-- every element is a byte
abbrev pub Bytes : List ℕ → Type 0
Bytes list = (i : ℕ) → get_or list i 0 < 256

-- the number of so many bytes from a place on, low byte first; a byte past the end counts as 0
unfoldable pub number_at : ℕ → ℕ → List ℕ → ℕ
number_at zero at bytes = 0
number_at (suc count) at bytes = get_or bytes at 0 + 256 * number_at count (at + 1) bytes

-- so many elements of a list from a place on; one past the end counts as 0
abbrev pub stretch : ℕ → ℕ → List ℕ → List ℕ
stretch zero at bytes = []
stretch (suc count) at bytes = get_or bytes at 0 ∷ stretch count (at + 1) bytes

-- so many bytes of a number, low byte first
abbrev pub little_endian : ℕ → ℕ → List ℕ
little_endian zero n = []
little_endian (suc count) n = n % 256 ∷ little_endian count (n / 256)

-- a list with new bytes stored from a place on; as it was, if they do not fit there
unfoldable pub stored_at : ℕ → List ℕ → List ℕ → List ℕ
stored_at at new old = cond (leb (at + length new) (length old)) (take at old ++ (new ++ drop (at + length new) old)) old

-- new bytes put behind the first n of a buffer: how many it has then, and the buffer then
abbrev pub PutBehind : List ℕ → ℕ → List ℕ → ℕ → List ℕ → Type 0
PutBehind new n before held after = (held ≡ n + length new) × (after ≡ stored_at n new before)

-- lists one behind the other
abbrev pub joined : List (List ℕ) → List ℕ
joined [] = []
joined (x ∷ xs) = x ++ joined xs
