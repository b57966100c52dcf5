-- `text_cursor::line_ahead` meets its contract.
-- Assumes nothing.
use mathlib.Core.Path.{ap, ◌∙◌}
use native.Mathlib.Omega.{arith}
use Rattle.firmware_text.specs.Machine.{State, within}
use Rattle.text_cursor.specs.Walk.{from}
use Rattle.text_cursor.proofs.Walks.{state-below}
use Rattle.text_cursor.proofs.line_ahead.Goals as goal

pub returns : goal.returns
returns c =
    let n = c.in_ok-line_end.field-0 in
    let e = c.in_ok-line_end.ensures in
    (λ k a h. ap (λ (s : State). from s n c.args.text.now) (state-below k a h) ∙ e.0 (within a), omega (arith, e.1.0))
