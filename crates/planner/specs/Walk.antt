-- What the planner's functions promise each other; no other layer needs it.
-- Assumes nothing.
use Rattle.std.specs.Prelude.{cond, List, [], ◌∷◌, ◌++◌, ◌≡◌, ℕ, ◌+◌, ◌≤◌, leb, length}
use Rattle.little_endian.specs.Bytes.{stored_at}
use Rattle.packet.specs.Packet.{packet_of}
use Rattle.script.specs.Page.{packets_of}
use Rattle.script.specs.Script.{head}

-- new bytes put behind the first n of a buffer: how many it has then, and, if it has the room, the buffer then
abbrev pub PutIfRoom : List ℕ → ℕ → List ℕ → ℕ → List ℕ → Type 0
PutIfRoom new n before held after = (held ≡ n + length new) × (n + length new ≤ length before → after ≡ stored_at n new before)

-- the packet around a core of at least so many bytes; nothing for a shorter one
unfoldable pub packet_from : ℕ → List ℕ → List ℕ
packet_from least core = cond (leb least (length core)) (packet_of core) []

-- what every script begins with: head, password, erase
abbrev pub front : List ℕ → List ℕ
front password = head ++ packets_of ((0x21 ∷ password) ∷ (0x15 ∷ []) ∷ [])
