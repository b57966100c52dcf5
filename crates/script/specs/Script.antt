-- Scripts and their framing (document 01, "Scripts, planner, checker").
-- Assumes nothing.
use Rattle.std.specs.Prelude.{Bool, cond, Option, Some, None, List, [], ◌∷◌, ◌++◌, ◌≡◌, ℕ, zero, suc, ◌+◌, ◌<◌, ltb, length, take, drop}
use Rattle.little_endian.specs.Bytes.{little_endian, joined}
use Rattle.packet.specs.Packet.{core_length}
use Rattle.region.specs.Same.{same}

-- the mark `BSX`
abbrev pub mark : List ℕ
mark = 0x42 ∷ 0x53 ∷ 0x58 ∷ []

-- the head of a script: the mark and a 16-bit version 1, low byte first
abbrev pub head : List ℕ
head = mark ++ little_endian 2 1

-- the longest script that is checked
abbrev pub longest_script : ℕ
longest_script = 2097152

-- bytes begin with a script's head
unfoldable pub headed : List ℕ → Bool
headed bytes = same (take 5 bytes) head

-- how long the packet is that bytes begin with, by the framing: 3 bytes, core length, 2 bytes
abbrev pub frame_length : List ℕ → ℕ
frame_length bytes = 3 + core_length bytes + 2

-- the same, none if the bytes end inside it
unfoldable pub front_of : List ℕ → Option ℕ
front_of bytes = cond (ltb (length bytes) (frame_length bytes)) None (Some (frame_length bytes))

-- bytes cut into packets, and what is left: nothing, or the beginning of a packet
pub record Frames : Type 0 where
  pub packets : List (List ℕ)
  pub rest : List ℕ

-- a packet before others
abbrev pub packet_before : List ℕ → Frames → Frames
packet_before packet f = record { packets = packet ∷ f.packets; rest = f.rest }

-- the framing of at most so many packets
unfoldable pub frames_up_to : ℕ → List ℕ → Frames
frames_up_to zero bytes = record { packets = []; rest = bytes }
frames_up_to (suc n) bytes =
    cond (ltb (length bytes) (frame_length bytes))
    (record { packets = []; rest = bytes })
    (packet_before (take (frame_length bytes) bytes) (frames_up_to n (drop (frame_length bytes) bytes)))

-- the framing: a packet has more than one byte, so there are no more packets than bytes
abbrev pub frames_of : List ℕ → Frames
frames_of bytes = frames_up_to (length bytes) bytes

-- each packet is as long as the framing says
abbrev pub Framed : List (List ℕ) → Type 0
Framed [] = Unit
Framed (packet ∷ packets) = (length packet ≡ frame_length packet) × Framed packets

-- what a framing of bytes is: packets, joined, and a rest that ends inside a packet are the bytes (`frames-cut`, and `cut-unique`: there is
-- no other)
pub record Cut (bytes : List ℕ) (f : Frames) : Type 0 where
  pub joins : joined f.packets ++ f.rest ≡ bytes
  pub framed : Framed f.packets
  pub ends : length f.rest < frame_length f.rest
