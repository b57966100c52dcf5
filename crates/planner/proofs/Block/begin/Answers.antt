-- `planner::Block::begin` meets its contract: the code and the address stand first.
-- Assumes nothing.
use mathlib.Core.Path.{ap, ◌∙◌}
use mathlib.Core.List.{List}
use Prim.Native.Nat.{ℕ, ◌+◌, ◌≤◌}
use native.Mathlib.Omega.{arith}
use lib.ListN.{length, take}
use Rattle.little_endian.specs.Bytes.{stored_at}
use Rattle.little_endian.proofs.Stored.{stored-between}
use Rattle.script.specs.Page.{addressed}
use Rattle.planner.proofs.Block.begin.Goals as goal

pub returns : goal.returns
returns c =
    let opened = addressed 0x20 c.args.address in
    let core = c.self.inside.core in
    let fits : 0 + length opened ≤ length core = omega arith in
    ap (take 5) (c.store.ensures ∙ ap (λ (l : List ℕ). stored_at 0 l core) c.opening.ensures ∙ stored-between 0 opened core fits)
