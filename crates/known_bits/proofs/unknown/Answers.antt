-- `known_bits::unknown` meets its contract.
-- Assumes nothing.
use mathlib.Core.Path.{refl, ap}
use Prim.Native.Nat.{ℕ, ◌-◌, ◌*◌}
use native.Mathlib.Omega.{arith}
use borrow.Author.Tests.{lt-ltb, le-ltb}
use lib.ListN.{length}
use Rattle.known_bits.specs.Known.{longest_map}
use Rattle.known_bits.proofs.Words.{count-most}
use Rattle.known_bits.proofs.unknown.Goals as goal

pub returns-then-map-gt-LONGEST : goal.returns-then-map-gt-LONGEST
returns-then-map-gt-LONGEST c = rw (lt-ltb longest_map (length c.args.map.now) c.if-map-gt-LONGEST.true) refl

pub overflow_sub-result : goal.overflow_sub-result
overflow_sub-result c =
    let most = count-most c.args.map.now (λ i. (c.type_inv.map i).fits) in
    omega (arith, most, c.count.ensures)

pub returns : goal.returns
returns c =
    let map = c.args.map.now in
    rw (le-ltb longest_map (length map) c.if-map-gt-LONGEST.false) (ap (λ (n : ℕ). length map * 8 - n) c.count.ensures)
