-- `crc::byte_in` meets its contract: the bits left, from the register so far, give the register after the byte.
-- Assumes nothing.
use mathlib.Core.Path.{◌≡◌, sym, ap, ◌∙◌}
use Prim.Native.Nat.{ℕ, ◌+◌, ◌-◌}
use native.Mathlib.Omega.{arith}
use Rattle.crc.specs.Crc.{bits_in, bits_of}
use Rattle.crc.proofs.Laws.{bits-next, register-byte}
use Rattle.crc.proofs.byte_in.Goals as goal

pub loop-taken-init : goal.loop-taken-init
loop-taken-init c = (omega arith, sym (register-byte 16 0x1021 c.args.from c.args.byte))

pub loop-taken-preserved : goal.loop-taken-preserved
loop-taken-preserved c =
    let l = c.loop-taken in
    let b = c.args.byte in (
      omega arith,
      ap (λ (x : ℕ). bits_in 16 0x1021 x (bits_of (8 - (l.taken + 1)) b)) c.bit_in-r.ensures
          ∙ sym (bits-next 16 0x1021 l.r b 8 l.taken c.loop-taken-test.true)
          ∙ l.invariant.1,
    )

pub returns : goal.returns
unfolding bits_in bits_of
returns c =
    let l = c.loop-taken in
    let none : 8 - l.taken ≡ 0 = omega arith in
    sym (ap (λ (n : ℕ). bits_in 16 0x1021 l.r (bits_of n c.args.byte)) none) ∙ l.invariant.1
