-- `power_cut::erase_blocks` meets its contract: the region has so many blocks, or it has not.
-- Assumes nothing.
use mathlib.Core.Path.{◌≡◌, sym, ap, ◌∙◌}
use mathlib.Core.List.{List, ◌++◌}
use Prim.Native.Nat.{ℕ, ◌+◌, ◌*◌, ◌<◌, ◌≤◌}
use native.Mathlib.Omega.{arith}
use lib.ListN.{length, take, drop, replicate, length-replicate}
use lib.Seq.{length-take-le}
use Rattle.std.proofs.Common.{rules}
use Rattle.little_endian.proofs.Stored.{stored-not}
use Rattle.power_cut.proofs.Cuts.{over-front}
use Rattle.power_cut.proofs.erase_blocks.Goals as goal

pub returns-then-blocks-region : goal.returns-then-blocks-region
returns-then-blocks-region c =
    let n : ℕ = c.args.blocks * 4096 in
    let region : List ℕ = c.args.region.now in
    let fits : n ≤ length region = omega (arith, c.if-blocks-region.true) in
    let filled : c.fill.new.self ≡ replicate (length (take n region)) 0xFF = search rules in
    ap (λ (l : List ℕ). l ++ drop n region) (filled ∙ ap (λ (k : ℕ). replicate {A = ℕ} k 0xFF) (length-take-le n region fits))
    ∙ over-front (replicate n 0xFF) region n (length-replicate n 0xFF) fits

pub returns-else-blocks-region : goal.returns-else-blocks-region
returns-else-blocks-region c =
    let n : ℕ = c.args.blocks * 4096 in
    let past : length c.args.region.now < 0 + length (replicate {A = ℕ} n 0xFF) =
    rw (length-replicate {A = ℕ} n 0xFF) (omega (arith, c.if-blocks-region.false)) in
    sym (stored-not 0 (replicate n 0xFF) c.args.region.now past)
