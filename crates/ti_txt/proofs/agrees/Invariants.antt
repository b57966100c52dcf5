-- `ti_txt::agrees` meets its contract: what the walk has found agrees, or the buffer cannot be the picture.
-- Assumes nothing.
use mathlib.Core.Path.{◌≡◌}
use lib.ListN.{length}
use Rattle.firmware_text.specs.Machine.{image_of}
use Rattle.firmware_text.specs.Image.{fault_of}
use Rattle.text_cursor.specs.Left.{ahead}
use Rattle.text_image.specs.Rules.{outside_of}
use Rattle.ti_txt.proofs.Compare.{Agreed}
use Rattle.ti_txt.proofs.agrees.Given as goal

abbrev pub invariant-loop-token : goal.invariant-loop-token
invariant-loop-token l =
    (length l.map ≡ 32768) × (fault_of (ahead l.token-iterator) ≡ fault_of (image_of l.text))
    × (outside_of (length l.buffer) (ahead l.token-iterator) ≡ outside_of (length l.buffer) (image_of l.text))
    × Agreed l.buffer l.map (image_of l.text) (ahead l.token-iterator)
