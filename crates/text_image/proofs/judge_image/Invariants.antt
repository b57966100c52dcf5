-- `text_image::judge_image` meets its contract: how far it is, token by token.
-- Assumes nothing.
use mathlib.Core.Path.{◌≡◌}
use lib.ListN.{length}
use Rattle.firmware_text.specs.Image.{fault_of}
use Rattle.firmware_text.specs.Machine.{image_of}
use Rattle.text_cursor.specs.Left.{ahead}
use Rattle.text_image.proofs.Walks.{Noted}
use Rattle.text_image.proofs.judge_image.Given as goal

abbrev pub invariant-loop-token : goal.invariant-loop-token
invariant-loop-token l =
    (length l.map ≡ 32768) × (fault_of (ahead l.token-iterator) ≡ fault_of (image_of l.text))
    × Noted l.outside l.repeated l.size l.map (image_of l.text) (ahead l.token-iterator)
