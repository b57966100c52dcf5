-- `crc::checksum` meets its contract: the bytes left, from the register so far, give the register behind all of them.
-- Assumes nothing.
use mathlib.Core.Path.{sym, ap, ◌∙◌}
use Prim.Native.Nat.{ℕ, ◌+◌}
use native.Mathlib.Omega.{arith}
use lib.ListN.{drop, drop_of_length-le}
use Rattle.crc.specs.Crc.{register, bit_string, bits_in, register_of}
use Rattle.crc.proofs.Laws.{register-next}
use Rattle.crc.proofs.checksum.Goals as goal

pub loop-byte-preserved : goal.loop-byte-preserved
loop-byte-preserved c =
    let bytes = c.args.bytes.now in
    let l = c.loop-byte in
    ap (λ (x : ℕ). register_of x (drop (l.byte-index + 1) bytes)) c.byte_in-r.ensures
    ∙ sym (register-next 16 0x1021 l.r bytes l.byte-index (omega (arith, c.loop-byte-test.true)))
    ∙ l.invariant

pub returns : goal.returns
unfolding register bit_string bits_in
returns c =
    let l = c.loop-byte in
    let bytes = c.args.bytes.now in
    sym (ap (register_of l.r) (drop_of_length-le bytes {i = l.byte-index} (omega (arith, c.loop-byte-test.false)))) ∙ l.invariant
