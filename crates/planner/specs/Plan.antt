-- The planner (document 01, "Scripts, planner, checker", "Refusal numbers").
-- Assumes nothing.
use Rattle.std.specs.Prelude.{Result, Ok, Err, cond, not, List, [], ℕ, eqb, leb, ltb, length}
use Rattle.firmware_text.specs.Machine.{image_of}
use Rattle.little_endian.specs.Bytes.{stored_at}
use Rattle.refusal.specs.Refusal.{number_of}
use Rattle.refusal.specs.declared.Refused.{Refused}
use Rattle.region.specs.Size.{good_size}
use Rattle.script.specs.Page.{page_script}
use Rattle.text_image.specs.Rules.{Judgement, rules_of}
use Rattle.text_image.specs.Rules as rules

-- an answer in document 01's terms: a refusal's number and place, or the script's length
pub data Said : Type 0 where
  refused : (number place : ℕ) → Said
  planned : ℕ → Said

-- what was answered, in these terms
abbrev pub said : Result ℕ Refused → Said
said (Ok n) = planned n
said (Err why) = refused (number_of why.refusal) why.place

-- what is answered, and the output then
pub record Left : Type 0 where
  pub answer : Said
  pub output : List ℕ

-- the two together
abbrev pub left : Said → List ℕ → Left
left answer output = record { answer = answer; output = output }

-- a script over the front of an output, later bytes untouched; 13 if the output is shorter than it
unfoldable pub put_over : List ℕ → List ℕ → Left
put_over script output =
    cond (ltb (length output) (length script)) (left (refused 13 0) output)
    (left (planned (length script)) (stored_at 0 script output))

-- the refusal of a text that is not sound, else what comes next
abbrev pub if_sound : Judgement → List ℕ → Left → Left
if_sound rules.sound output next = next
if_sound (rules.refused number place) output next = left (refused number place) output

-- the planner: refusals 1, 2, 14 and those of the text, which are 18, 3, 4 and 5; else the page's own script of the text's image with no
-- range checksum
unfoldable pub plan_of : List ℕ → List ℕ → ℕ → ℕ → List ℕ → Left
plan_of text password entry n output =
    cond (not (good_size n)) (left (refused 1 0) output)
    (cond (not (eqb (length password) 256)) (left (refused 2 0) output)
    (cond (leb n entry) (left (refused 14 0) output)
    (if_sound (rules_of text n) output (put_over (page_script (image_of text) password entry []) output))))
