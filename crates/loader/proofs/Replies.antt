-- How long a reply is at most.
-- Assumes nothing.
use mathlib.Core.List.{[], ◌∷◌}
use Prim.Native.Nat.{◌≤◌}
use native.Mathlib.Omega.{arith}
use lib.ListN.{length}
use Rattle.little_endian.specs.Bytes.{little_endian}
use Rattle.packet.proofs.Written.{packet-length}
use Rattle.loader.specs.Reply.{bytes_of}
use Rattle.loader.specs.declared.Reply.{Reply}
use Rattle.loader.specs.declared.Reply.TheVariants.{Nothing, Byte, Message, Data}

-- nine bytes hold every reply
pub reply-short : (reply : Reply) → length (bytes_of reply) ≤ 9
unfolding bytes_of
reply-short Nothing = omega arith
reply-short (Byte b) = omega arith
reply-short (Message m) = omega (arith, packet-length (0x3B ∷ m ∷ []))
reply-short (Data sum) = omega (arith, packet-length (0x3A ∷ little_endian 2 sum))
