-- `text_cursor::another` meets its contract: there is room for one, or not.
-- Assumes nothing.
use Prim.Native.Nat.{ℕ, ◌+◌}
use mathlib.Core.Path.{sym, ap, ◌∙◌}
use native.Mathlib.Omega.{arith}
use lib.ListN.{get_or}
use Rattle.firmware_text.specs.Digit.{digit}
use Rattle.firmware_text.specs.Machine.{gap, half, on, stuck}
use Rattle.firmware_text.proofs.Steps.{gap-digit, gap-stuck}
use Rattle.text_cursor.specs.Walk.{from}
use Rattle.text_cursor.proofs.Walks.{from_step, tells-on, tells-fault, is-hex}
use Rattle.text_cursor.proofs.another.Goals as goal

pub returns-then-pairs-ge-MOST : goal.returns-then-pairs-ge-MOST
returns-then-pairs-ge-MOST c =
    let args = c.args in
    let d = c.requires.1 in
    tells-fault _ _ _ _
    (sym (from_step _ args.at (gap args.pairs args.address) stuck d.0 (gap-stuck _ _ args.at _ (omega arith) (is-hex _ _ d.1 d.2))))

pub returns : goal.returns
returns c =
    let args = c.args in
    let text = args.text.now in
    let at = args.at in
    let k = args.pairs in
    let a = args.address in
    let d = c.requires.1 in
    let goes =
    from_step text at (gap k a) (on (half at (k + 1) a (digit (get_or text at 0)))) d.0
    (gap-digit k a at _ (omega (arith, c.if-pairs-ge-MOST.false)) (is-hex _ _ d.1 d.2)) in
    tells-on text at at _ _ _ (omega arith) (ap (λ (x : ℕ). from (half at (k + 1) a x) (at + 1) text) d.1 ∙ sym goes) c.pair.ensures
