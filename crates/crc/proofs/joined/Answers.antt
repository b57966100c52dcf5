-- `crc::joined` meets its contract: the zeros left, from the register so far, give the register behind all of them.
-- Assumes nothing.
use mathlib.Core.Path.{◌≡◌, sym, ap, ◌∙◌}
use mathlib.Core.List.{[], ◌∷◌}
use Prim.Native.Nat.{ℕ, suc, ◌+◌, ◌-◌}
use native.Mathlib.Nat.{sub-zero}
use native.Mathlib.Omega.{arith}
use lib.Bits.{bit_xor}
use lib.ListN.{replicate}
use Rattle.crc.specs.Crc.{register, register_of, bit_string, bits_in, joined}
use Rattle.crc.proofs.Laws.{continues}
use Rattle.crc.proofs.joined.Goals as goal

pub loop-init : goal.loop-init
loop-init c = (omega arith, ap (λ (n : ℕ). register_of (bit_xor c.args.first 0xFFFF) (replicate n 0)) (sub-zero c.args.count))

pub loop-preserved : goal.loop-preserved
loop-preserved c =
    let l = c.loop in
    let left = c.args.count - (l.counter + 1) in
    let one_more : c.args.count - l.counter ≡ suc left = omega arith in (
      omega arith,
      ap (λ (x : ℕ). register_of x (replicate left 0)) c.byte_in-r.ensures
          ∙ continues 16 0x1021 l.r (0 ∷ []) (replicate left 0)
          ∙ ap (λ (n : ℕ). register_of l.r (replicate n 0)) (sym one_more)
          ∙ l.invariant.1,
    )

pub returns : goal.returns
unfolding register bit_string bits_in joined
returns c =
    let l = c.loop in
    let a = c.args in
    let none : a.count - l.counter ≡ 0 = omega arith in
    ap (λ (x : ℕ). bit_xor x a.second) (sym (ap (λ (n : ℕ). register_of l.r (replicate n 0)) none) ∙ l.invariant.1)
