-- Checking a segment over several stretches (document 02, T-04). What the loader answers to a range checksum is `range_of`, from
-- 0xFFFF each time.
-- Assumes nothing.
use Rattle.std.specs.Prelude.{Some, List, [], ◌∷◌, ◌≡◌, ℕ, ◌+◌, ◌≤◌, length}
use Rattle.crc.specs.Crc.{joined_of}
use Rattle.flash.specs.Flash.{range_of}

-- the number of a stretch's bytes, and the checksum that was answered for it
pub record Stretch : Type 0 where
  pub count : ℕ
  pub sum : ℕ

-- the stretches adjoin, the first of them at the address, and all were answered over one region
abbrev pub Answered : (address : ℕ) → List Stretch → (region : List ℕ) → Type 0
Answered address [] region = Unit
Answered address (s ∷ stretches) region =
    (range_of address s.count region ≡ Some s.sum) × Answered (address + s.count) stretches region

-- the number of all their bytes
abbrev pub bytes_in : List Stretch → ℕ
bytes_in [] = 0
bytes_in (s ∷ stretches) = s.count + bytes_in stretches

-- a checksum joined with that of each stretch in turn
abbrev pub joined_all : (first : ℕ) → List Stretch → ℕ
joined_all first [] = first
joined_all first (s ∷ stretches) = joined_all (joined_of first s.sum s.count) stretches

-- the checksums of any number of adjoining stretches, joined in turn from that of no bytes, give the checksum of the whole
-- range, also where it is longer than a packet can ask for; that the address is inside matters for no stretch at all
abbrev pub StretchesJoin : Type 0
StretchesJoin =
    (address : ℕ) (stretches : List Stretch) (region : List ℕ) → address ≤ length region → Answered address stretches region
    → range_of address (bytes_in stretches) region ≡ Some (joined_all 0xFFFF stretches)
