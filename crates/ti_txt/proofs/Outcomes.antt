-- The reader's outcome for a region of the right length.
-- Assumes nothing.
use Prim.Native.Nat.{ℕ}
use mathlib.Core.Path.{◌≡◌, ap, ◌∙◌}
use mathlib.Core.List.{List}
use lib.ListN.{length}
use borrow.Author.Tests.{eq-eqb}
use Rattle.firmware_text.specs.Machine.{image_of}
use Rattle.text_image.specs.Rules.{Judgement, rules_of}
use Rattle.text_image.specs.Picture.{picture_of}
use Rattle.ti_txt.specs.Answers.{filled, read_of}

pub read-sized : (text : List ℕ) (n : ℕ) (old : List ℕ) → length old ≡ n → (j : Judgement) → j ≡ rules_of text n
    → filled j (picture_of (length old) (image_of text)) old ≡ read_of text n old
unfolding read_of
read-sized text n old sized j e =
    rw (eq-eqb _ _ sized)
    (ap (λ (m : ℕ). filled j (picture_of m (image_of text)) old) sized
    ∙ ap (λ (x : Judgement). filled x (picture_of n (image_of text)) old) e)
