-- `firmware_text::is_hex` meets its contract.
-- Assumes nothing.
use native.Mathlib.Omega.{arith}
use Rattle.firmware_text.proofs.Digits.{hex-ranges}
use Rattle.firmware_text.proofs.is_hex.Goals as goal

pub returns : goal.returns
returns c = rw (c.between.ensures, c.between-2.ensures, c.between-3.ensures) (hex-ranges _ (omega arith))
