-- `text_cursor::Reading::of` meets its contract: from the start, the image of the text is left.
-- Assumes nothing.
use Rattle.text_cursor.proofs.Tokens.{rest-beginning}
use Rattle.text_cursor.proofs.Reading.of.Goals as goal

pub returns : goal.returns
returns c = rest-beginning _ _ c.new.ensures
