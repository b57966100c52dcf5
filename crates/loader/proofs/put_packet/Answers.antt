-- `loader::put_packet` meets its contract: the packet fills what is behind the first byte.
-- Assumes nothing.
use mathlib.Core.Path.{◌≡◌, ap, ap₂, ◌∙◌}
use Prim.Native.Nat.{ℕ, ◌+◌, ◌-◌}
use mathlib.Core.List.{List, ◌∷◌}
use native.Mathlib.Omega.{arith}
use lib.ListN.{length, replicate, take}
use lib.Seq.{length-take-le, take_at}
use Rattle.little_endian.specs.Bytes.{stored_at}
use Rattle.packet.specs.Packet.{packet_of, Written}
use Rattle.packet.proofs.Written.{packet-length, packet-fills}
use Rattle.loader.specs.Reply.{placed}
use Rattle.loader.proofs.put_packet.Goals as goal

pub returns : goal.returns
returns c =
    let core : List ℕ = c.args.core.now in
    let w = c.write in
    let behind : List ℕ = take (length core + 6 - 1) (replicate 8 0) in
    let exact : length behind ≡ length core + 5 = length-take-le (length core + 6 - 1) (replicate {A = ℕ} 8 0) (omega arith) ∙ omega arith in
    let fills : w.new.out ≡ packet_of core = ap (λ (v : Written). v.buffer) w.ensures ∙ packet-fills core _ (omega arith) (omega arith) exact in
    let long : length (0x00 ∷ w.new.out) ≡ length core + 6 = omega (arith, ap length fills, packet-length core) in
    ap₂ placed (omega (arith, packet-length core))
    (c.store.ensures ∙ ap (λ (l : List ℕ). stored_at 0 l c.args.out.now) (take_at (0x00 ∷ w.new.out) _ (length core + 6) long ∙ ap (0x00 ∷◌) fills))
