-- `packet::wrap` meets its contract: first byte, length, core and checksum are stored one behind the other.
-- Assumes nothing.
use mathlib.Core.Path.{ap, ap₂, ◌∙◌}
use mathlib.Core.List.{List}
use Prim.Native.Nat.{ℕ, ◌+◌}
use native.Mathlib.Omega.{arith}
use lib.ListN.{length}
use Rattle.little_endian.specs.Bytes.{little_endian, stored_at}
use Rattle.packet.proofs.Written.{packet-stored}
use Rattle.packet.proofs.wrap.Goals as goal

pub returns : goal.returns
returns c =
    let a = c.args in
    let core = a.core.now in
    let n = length core in
    let first = c.store.ensures in
    let second = c.store_at.ensures ∙ ap (stored_at 1 (little_endian 2 n)) first in
    let third = c.store-2.ensures ∙ ap (stored_at 3 core) second in
    c.store_at-2.ensures
    ∙ ap₂ (λ (sum : ℕ) (old : List ℕ). stored_at (3 + n) (little_endian 2 sum) old) c.checksum.ensures third
    ∙ packet-stored core a.out.now (omega arith)
