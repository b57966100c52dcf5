-- `crc::byte_in` meets its contract: the bits left, from the register so far, give the register after the byte.
-- Assumes nothing.
use mathlib.Core.Path.{◌≡◌}
use mathlib.Core.List.{[], ◌∷◌}
use Prim.Native.Nat.{◌≤◌, ◌-◌}
use Rattle.crc.specs.Crc.{bits_in, bits_of, register}
use Rattle.crc.proofs.byte_in.Given as goal

abbrev pub invariant-loop-taken : goal.invariant-loop-taken
invariant-loop-taken l = (l.taken ≤ 8) × (bits_in 16 0x1021 l.r (bits_of (8 - l.taken) l.byte) ≡ register 16 0x1021 l.from (l.byte ∷ []))

abbrev pub decreases-loop-taken : goal.decreases-loop-taken
decreases-loop-taken l = 8 - l.taken
