-- The packets of a script, by the framing, as a list shows them: numbered from 1, each with its offset.
-- Assumes nothing.
use Rattle.std.specs.Prelude.{List, [], ◌∷◌, ℕ, ◌+◌, ◌-◌, ◌^◌, min, length, take, drop, Option}
use Rattle.std.specs.Option.{option_map}
use Rattle.script.specs.Script.{front_of, frames_of}

-- the packets from an offset of a script on, as far as it holds them whole
abbrev pub packets_from : ℕ → List ℕ → List (List ℕ)
packets_from at script = (frames_of (drop at script)).packets

-- the packets of a script, behind its head of 5 bytes
abbrev pub packets_of : List ℕ → List (List ℕ)
packets_of script = packets_from 5 script

-- the packet at an offset of a script, none if it does not hold that whole
abbrev pub packet_of : ℕ → List ℕ → Option (List ℕ)
packet_of at script = option_map (λ n. take n (drop at script)) (front_of (drop at script))

-- a number, or the greatest of the machine's if it is above
abbrev pub most : ℕ → ℕ
most n = min n (2 ^ 64 - 1)

-- a packet in a list: its number, its offset in the script, and its bytes
pub record Listed : Type 0 where
  pub number : ℕ
  pub at : ℕ
  pub bytes : List ℕ

-- packets as they are listed behind so many others, from an offset on
abbrev pub listed : ℕ → ℕ → List (List ℕ) → List Listed
listed number at [] = []
listed number at (packet ∷ packets) = record { number = most (number + 1); at = at; bytes = packet } ∷ listed (most (number + 1)) (at + length packet) packets
