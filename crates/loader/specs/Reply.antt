-- Replies as bytes (document 01, "The loader").
-- Assumes nothing.
use Rattle.std.specs.Prelude.{List, [], ◌∷◌, ℕ, length}
use Rattle.little_endian.specs.Bytes.{little_endian, stored_at}
use Rattle.packet.specs.Packet.{packet_of}
use Rattle.loader.specs.declared.Reply.{Reply}
use Rattle.loader.specs.declared.Reply.TheVariants.{Nothing, Byte, Message, Data}

-- the bytes of a reply: none, one, or 0x00 and a packet
unfoldable pub bytes_of : Reply → List ℕ
bytes_of Nothing = []
bytes_of (Byte b) = b ∷ []
bytes_of (Message m) = 0x00 ∷ packet_of (0x3B ∷ m ∷ [])
bytes_of (Data sum) = 0x00 ∷ packet_of (0x3A ∷ little_endian 2 sum)

-- the number of bytes put, and the buffer then
pub record Placed : Type 0 where
  pub count : ℕ
  pub buffer : List ℕ

-- the two together
abbrev pub placed : ℕ → List ℕ → Placed
placed count buffer = record { count = count; buffer = buffer }

-- bytes over the front of a buffer
abbrev pub placed_of : List ℕ → List ℕ → Placed
placed_of bytes buffer = placed (length bytes) (stored_at 0 bytes buffer)
