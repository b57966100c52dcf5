-- What a reading of a text, token by token, has left.
-- Assumes nothing.
use Rattle.std.specs.Prelude.{ℕ, ◌+◌, ◌-◌, ◌≡◌, List, Option, Some, None, Result, Ok, Err, length}
use Rattle.firmware_text.specs.Image.{Image, segment, byte, end, broken}
use Rattle.text_cursor.specs.Walk.{rest}
use Rattle.text_cursor.specs.declared.Cursor.{Cursor}
use Rattle.text_cursor.specs.declared.Reading.{Reading}
use Rattle.text_cursor.specs.declared.Token.{Token}
use Rattle.text_cursor.specs.declared.Token.TheVariants.{Segment, Byte, End}

-- the image from the cursor on; behind the last token nothing is left
abbrev pub ahead_of : List ℕ → Option Cursor → Image
ahead_of text None = end
ahead_of text (Some c) = rest text c

-- the image that is left
abbrev pub ahead : Reading → Image
ahead reading = ahead_of reading.text.now reading.cursor

-- at most how many tokens are left: each takes a place of the text, and one more is a fault behind its end
abbrev pub left_from : List ℕ → Option Cursor → ℕ
left_from text None = 0
left_from text (Some c) = length text - c.at + 1

abbrev pub left_at : Reading → ℕ
left_at reading = left_from reading.text.now reading.cursor

-- what a token says of the image that was left, by what is left then: its first part, its end, or the place where it is malformed
abbrev pub Gives : Reading → Option (Result Token ℕ) → Reading → Type 0
Gives before None after = end ≡ ahead before
Gives before (Some (Ok (Segment a c))) after = segment a (ahead after) ≡ ahead before
Gives before (Some (Ok (Byte p a v c))) after = byte p a v (ahead after) ≡ ahead before
Gives before (Some (Ok End)) after = ⊥
Gives before (Some (Err p)) after = (broken p ≡ ahead before) × (ahead after ≡ end)
