-- The page's own scripts (document 01, "Scripts, planner, checker"; "Checksum and packet" for the cores).
-- Assumes nothing.
use Rattle.std.specs.Prelude.{List, [], ◌∷◌, ◌++◌, map, ◌≡◌, ℕ, zero, suc, ◌+◌, ◌/◌, ◌<◌, ◌≤◌, length, take, drop}
use Rattle.firmware_text.specs.Image.{Image}
use Rattle.firmware_text.specs.Segments.{Segment, segments_of}
use Rattle.little_endian.specs.Bytes.{little_endian, joined}
use Rattle.packet.specs.Packet.{packet_of}
use Rattle.script.specs.Script.{head}

-- a code and an address: how the cores of a write, a range checksum and a start begin
abbrev pub addressed : ℕ → ℕ → List ℕ
addressed code address = code ∷ little_endian 4 address

-- the core of a write: address, data bytes
abbrev pub write_core : ℕ → List ℕ → List ℕ
write_core address bytes = addressed 0x20 address ++ bytes

-- bytes from an address on as so many blocks of 256 bytes, and the rest in the last, if there is any
unfoldable pub blocks : ℕ → ℕ → List ℕ → List (List ℕ)
blocks zero address [] = []
blocks zero address (b ∷ bytes) = write_core address (b ∷ bytes) ∷ []
blocks (suc n) address bytes = write_core address (take 256 bytes) ∷ blocks n (address + 256) (drop 256 bytes)

-- a segment as blocks of 256 bytes from its start and the rest in the last; an empty one has none
abbrev pub blocks_of : Segment → List (List ℕ)
blocks_of s = blocks (length s.bytes / 256) s.start s.bytes

-- each segment, in their order
abbrev pub writes_of : List Segment → List (List ℕ)
writes_of [] = []
writes_of (s ∷ segments) = blocks_of s ++ writes_of segments

-- a range whose checksum is asked for
pub record Range : Type 0 where
  pub address : ℕ
  pub count : ℕ

-- the core of a range checksum: address, length low, length high
abbrev pub range_core : Range → List ℕ
range_core r = addressed 0x26 r.address ++ little_endian 2 r.count

-- the cores of the page's own script: password, erase, each non-empty segment in text order, any range checksums, start
abbrev pub cores_of : Image → List ℕ → ℕ → List Range → List (List ℕ)
cores_of image password entry ranges =
    (0x21 ∷ password) ∷ (0x15 ∷ []) ∷ writes_of (segments_of image) ++ (map range_core ranges ++ (addressed 0x27 entry ∷ []))

-- packets back to back
abbrev pub packets_of : List (List ℕ) → List ℕ
packets_of cores = joined (map packet_of cores)

-- the page's own script for an image, a password, an entry address and ranges
unfoldable pub page_script : Image → List ℕ → ℕ → List Range → List ℕ
page_script image password entry ranges = head ++ packets_of (cores_of image password entry ranges)

-- each range lies inside a region of n bytes, and its length fits two bytes
abbrev pub Inside : ℕ → List Range → Type 0
Inside n [] = Unit
Inside n (r ∷ ranges) = (r.address + r.count ≤ n) × (r.count < 65536) × Inside n ranges

-- a script is written by the page's own rules, for an image and a region of n bytes
pub record ByTheRules (n : ℕ) (image : Image) (password : List ℕ) (entry : ℕ) (script : List ℕ) : Type 0 where
  pub ranges : List Range
  pub inside : Inside n ranges
  pub written : script ≡ page_script image password entry ranges
