-- What commands do to a flash region and ask of it (document 01, "The loader").
-- Assumes nothing.
use Rattle.std.specs.Prelude.{Bool, true, false, cond, ◌&&◌, Option, Some, None, List, [], ◌∷◌, ℕ, ◌+◌, eqb, leb, ltb, length, take, drop}
use Rattle.std.specs.Int.Bits.{bit_and}
use Rattle.crc.specs.Crc.{checksum_of}
use Rattle.little_endian.specs.Bytes.{stored_at}

-- a range of so many bytes at an address lies inside a region of the size
abbrev pub inside : ℕ → ℕ → ℕ → Bool
inside address n size = leb (address + n) size

-- every new byte equals old AND new
unfoldable pub writable : List ℕ → List ℕ → Bool
writable old [] = true
writable [] (n ∷ new) = false
writable (o ∷ old) (n ∷ new) = eqb n (bit_and o n) && writable old new

-- a region allows new bytes at an address: they are inside it, and every byte equals old AND new
abbrev pub allows_of : List ℕ → ℕ → List ℕ → Bool
allows_of new address region = inside address (length new) (length region) && writable (take (length new) (drop address region)) new

-- whether the bytes were written, and the region then
pub record Written : Type 0 where
  pub done : Bool
  pub region : List ℕ

-- the two together
abbrev pub written : Bool → List ℕ → Written
written done region = record { done = done; region = region }

-- a write: what the region allows; otherwise no byte is written
unfoldable pub write_of : List ℕ → ℕ → List ℕ → Written
write_of new address region = cond (allows_of new address region) (written true (stored_at address new region)) (written false region)

-- the checksum of a range, where it is inside the region; otherwise none
unfoldable pub range_of : ℕ → ℕ → List ℕ → Option ℕ
range_of address n region = cond (inside address n (length region)) (Some (checksum_of (take n (drop address region)))) None

-- the entry address is below N, and the checksum of all N bytes equals the expected one
unfoldable pub starts_of : ℕ → ℕ → List ℕ → Bool
starts_of entry expected region = ltb entry (length region) && eqb (checksum_of region) expected
