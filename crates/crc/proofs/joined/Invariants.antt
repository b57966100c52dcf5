-- `crc::joined` meets its contract: the zeros left, from the register so far, give the register behind all of them.
-- Assumes nothing.
use mathlib.Core.Path.{◌≡◌}
use Prim.Native.Nat.{◌≤◌, ◌-◌}
use lib.Bits.{bit_xor}
use lib.ListN.{replicate}
use Rattle.crc.specs.Crc.{register_of}
use Rattle.crc.proofs.joined.Given as goal

abbrev pub invariant-loop : goal.invariant-loop
invariant-loop l =
    (l.counter ≤ l.count) × (register_of l.r (replicate (l.count - l.counter) 0) ≡ register_of (bit_xor l.first 0xFFFF) (replicate l.count 0))

abbrev pub decreases-loop : goal.decreases-loop
decreases-loop l = l.count - l.counter
