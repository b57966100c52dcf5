-- `little_endian::array_at` meets its contract: what is held of the bytes, and zeros behind it, are the stretch.
-- Assumes nothing.
use mathlib.Core.Path.{◌≡◌, ap, ap₂, ◌∙◌}
use mathlib.Core.List.{List, ◌++◌}
use Prim.Native.Nat.{ℕ}
use lib.ListN.{length, take, drop, replicate}
use Rattle.little_endian.proofs.Numbers.{padded}
use Rattle.little_endian.proofs.array_at.Goals as goal

pub returns : goal.returns
returns g c =
    let a = c.args in
    let held : c.front-held.result.now ≡ take g.row.N (drop a.at a.bytes.now) = c.front-held.ensures ∙ ap (take g.row.N) c.behind.ensures in
    ap₂ (λ (x y : List ℕ). x ++ drop (length y) (replicate g.row.N 0)) (c.copy_from_slice.ensures.after ∙ held) held
    ∙ padded g.row.N a.at a.bytes.now
