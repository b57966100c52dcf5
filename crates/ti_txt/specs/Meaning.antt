-- What the reader's outcome says of a text, in the grammar's terms (document 01, "Firmware text", refusal 3).
-- Assumes nothing.
use Rattle.std.specs.Prelude.{ℕ, ◌≤◌, ◌≡◌, true, List, length}
use Rattle.region.specs.Size.{good_size}
use Rattle.firmware_text.specs.Grammar.{WellFormed, Longest, denoted}
use Rattle.text_image.specs.Rules.{sound, refused, longest}
use Rattle.text_image.specs.Picture.{Shows}
use Rattle.ti_txt.specs.Answers.{Outcome, read_of}

-- the outcome for a text that meets neither refusal 1 nor 18
pub record Reads (text : List ℕ) (n : ℕ) (o : Outcome) : Type 0 where
  -- refusal 3 is given only to a text that is not well-formed, at the length of its longest prefix that begins some well-formed text
  pub third : (place : ℕ) → o.answer ≡ refused 3 place → (WellFormed text → ⊥) × Longest text place
  -- and to each such text
  pub malformed : (WellFormed text → ⊥) → (place : ℕ) × (o.answer ≡ refused 3 place)
  -- a text that is not refused is well-formed, and the region shows the image that it denotes
  pub shown : o.answer ≡ sound → (w : WellFormed text) × Shows n (denoted w) o.region

-- the reader's outcome says so of every text
abbrev pub ReadsRight : Type 0
ReadsRight =
    (text : List ℕ) (n : ℕ) (old : List ℕ) → good_size n ≡ true → length old ≡ n → length text ≤ longest → Reads text n (read_of text n old)
