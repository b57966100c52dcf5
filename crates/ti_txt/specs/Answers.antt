-- What the reader answers and leaves (document 01, "Firmware text", "Refusal numbers").
-- Assumes nothing.
use Rattle.std.specs.Prelude.{ℕ, List, Bool, ◌&&◌, cond, eqb, length}
use Rattle.region.specs.Same.{same}
use Rattle.firmware_text.specs.Machine.{image_of}
use Rattle.text_image.specs.Rules.{Judgement, refused, rules_of, is_sound}
use Rattle.text_image.specs.Picture.{picture_of}

-- an answer in document 01's terms, with the region then
pub record Outcome : Type 0 where
  pub answer : Judgement
  pub region : List ℕ

-- the two together
abbrev pub outcome : Judgement → List ℕ → Outcome
outcome answer region = record { answer = answer; region = region }

-- a sound text leaves its picture, a refused one the region as it was
abbrev pub filled : Judgement → List ℕ → List ℕ → Outcome
filled answer picture old = outcome answer (cond (is_sound answer) picture old)

-- the reader: 1 for a region that is not n long, then the rules of the text
unfoldable pub read_of : List ℕ → ℕ → List ℕ → Outcome
read_of text n old =
    cond (eqb (length old) n) (filled (rules_of text n) (picture_of n (image_of text)) old)
    (outcome (refused 1 0) old)

-- the buffer is the picture of a text that is sound for its length
unfoldable pub is_picture_of : List ℕ → List ℕ → Bool
is_picture_of text buffer =
    is_sound (rules_of text (length buffer)) && same buffer (picture_of (length buffer) (image_of text))
