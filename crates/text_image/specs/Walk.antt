-- What a walk through a text comes to; no other layer needs it.
-- Assumes nothing.
use Rattle.std.specs.Prelude.{ℕ, Option, Some, None}
use Rattle.text_image.specs.Rules.{Judgement, sound, refused}

-- what is said of a well-formed text by the places of its first pair outside and of the first whose address was given before
abbrev pub said : Option ℕ → Option ℕ → Judgement
said (Some place) repeated = refused 4 place
said None (Some place) = refused 5 place
said None None = sound
