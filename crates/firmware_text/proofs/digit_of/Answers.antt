-- `firmware_text::digit_of` meets its contract: the value is that of a digit, else 16.
-- Assumes nothing.
use mathlib.Core.Path.{sym, ap, ◌∙◌}
use mathlib.Core.Bool.{not}
use native.Mathlib.Omega.{arith}
use borrow.Author.Tests.{ltb-true}
use Rattle.firmware_text.proofs.Digits.{hex-value, hex-absent}
use Rattle.firmware_text.proofs.digit_of.Goals.{then-is_hex, else-is_hex}
use Rattle.firmware_text.proofs.digit_of.Goals as goal

pub returns-then-value-lt16-clause-value : goal.returns-then-value-lt16-clause-value
returns-then-value-lt16-clause-value c =
    elim c.if-is_hex.branch [
      | then-is_hex w ↦ w.value-is ∙ hex-value _ (omega arith) (sym c.is_hex.ensures ∙ w.if-is_hex.true)
      | else-is_hex w ↦ absurd (omega (arith, w.value-is))
    ]

pub returns-else-value-lt16-clause-value : goal.returns-else-value-lt16-clause-value
returns-else-value-lt16-clause-value c =
    elim c.if-is_hex.branch [
      | then-is_hex w ↦
          let hex = sym c.is_hex.ensures ∙ w.if-is_hex.true in
          absurd (omega (arith, w.value-is, hex-value _ (omega arith) hex, ltb-true _ _ hex))
      | else-is_hex w ↦ hex-absent _ (omega arith) (ap not (sym c.is_hex.ensures ∙ w.if-is_hex.false))
    ]
