-- Which firmware texts are sound for a region (document 01, "Firmware text", refusals 1, 18, 3, 4 and 5).
-- Assumes nothing.
use Rattle.std.specs.Prelude.{ℕ, List, [], ◌∷◌, Result, Ok, Err, Bool, true, false, ◌||◌, cond, ltb, leb, eqb, length}
use Rattle.refusal.specs.Refusal.{number_of}
use Rattle.refusal.specs.declared.Refused.{Refused}
use Rattle.region.specs.Size.{good_size}
use Rattle.firmware_text.specs.Image.{Image, segment, byte, end, broken, Fault, none, at, fault_of}
use Rattle.firmware_text.specs.Machine.{image_of}

-- the first pair at address n or above
unfoldable pub outside_of : ℕ → Image → Fault
outside_of n (segment a i) = outside_of n i
outside_of n (byte p a v i) = cond (leb n a) (at p) (outside_of n i)
outside_of n end = none
outside_of n (broken p) = none

-- the address is one of those seen
abbrev pub among : ℕ → List ℕ → Bool
among a [] = false
among a (b ∷ seen) = eqb a b || among a seen

-- the first pair whose address was given before, or is one of those seen
unfoldable pub repeated_of : List ℕ → Image → Fault
repeated_of seen (segment a i) = repeated_of seen i
repeated_of seen (byte p a v i) = cond (among a seen) (at p) (repeated_of (a ∷ seen) i)
repeated_of seen end = none
repeated_of seen (broken p) = none

-- a verdict in document 01's terms: sound, or a refusal's number and place
pub data Judgement : Type 0 where
  sound : Judgement
  refused : (number place : ℕ) → Judgement

-- a verdict that was given, in these terms
abbrev pub judged : Result Unit Refused → Judgement
judged (Ok done) = sound
judged (Err why) = refused (number_of why.refusal) why.place

-- a refusal where there is a fault, else what comes next
abbrev pub unless : ℕ → Fault → Judgement → Judgement
unless number none next = next
unless number (at place) next = refused number place

-- the longest text that is read
abbrev pub longest : ℕ
longest = 1048576

-- the rules of an image's text, each over the whole text before the next: 3, 4, 5 (`Meaning` of `firmware_text` says what `fault_of` and
-- `image_of` have to do with the grammar)
unfoldable pub image_rules : ℕ → Image → Judgement
image_rules n i = unless 3 (fault_of i) (unless 4 (outside_of n i) (unless 5 (repeated_of [] i) sound))

-- the rules of a text for a region of n bytes
unfoldable pub rules_of : List ℕ → ℕ → Judgement
rules_of text n =
    cond (good_size n) (cond (ltb longest (length text)) (refused 18 0) (image_rules n (image_of text)))
    (refused 1 0)

-- the text is sound: document 01's word for a text that meets none of these refusals
abbrev pub is_sound : Judgement → Bool
is_sound sound = true
is_sound (refused number place) = false
