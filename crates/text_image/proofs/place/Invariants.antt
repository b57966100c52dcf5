-- `text_image::place` meets its contract: how far it is, token by token.
-- Assumes nothing.
use mathlib.Core.Path.{◌≡◌}
use lib.ListN.{length}
use Rattle.firmware_text.specs.Machine.{image_of}
use Rattle.text_cursor.specs.Left.{ahead}
use Rattle.text_image.specs.Picture.{placed}
use Rattle.text_image.proofs.place.Given as goal

abbrev pub invariant-loop-token : goal.invariant-loop-token
invariant-loop-token l =
    (length l.region ≡ length l.initial.region)
    × (placed (ahead l.token-iterator) l.region ≡ placed (image_of l.text) l.initial.region)
