-- Why number 9, "refused over 0xFF only", is out of the table (document 02, T-08); the table itself is in `refusal`.
-- Assumes nothing.
use Rattle.std.specs.Prelude.{true, false, cond, not, List, [], ◌∷◌, ◌≢◌, ◌≡◌, ℕ, length, replicate}
use Rattle.firmware_text.specs.Machine.{image_of}
use Rattle.text_image.specs.Picture.{picture_of}
use Rattle.delivery.specs.Check.{refused, Checked, Trial, trial, locked, succeeds_on, behind, begins_start, starts_too_early, Step, step}
use Rattle.delivery.specs.Check.{run_by, judged_of, unless_refused, check_of}
use Rattle.delivery.specs.Meaning.{behind_all}

-- ---- a packet accepted over zeros is always accepted over 0xFF, and the picture test settles the start packet

-- one packet in two runs: if the picture test lets it pass and it is accepted (document 01's success) over zeros, it is over 0xFF too
abbrev pub AcceptedToo : (password picture packet : List ℕ) (zeros ones : Trial) → Type 0
AcceptedToo password picture packet zeros ones =
    starts_too_early picture packet zeros ones ≡ false → succeeds_on password packet zeros ≡ true → succeeds_on password packet ones ≡ true

-- no packet's core begins with 0x27; behind one whose core does the checker runs nothing: it is refused, or the firmware has started
abbrev pub NoStart : List (List ℕ) → Type 0
NoStart [] = Unit
NoStart (packet ∷ packets) = (begins_start packet ≡ false) × NoStart packets

-- so it is of any packet behind any list of such packets from locked, whether those were accepted or not
abbrev pub ZerosDecide : Type 0
ZerosDecide =
    (password picture packet : List ℕ) (expected n : ℕ) (packets : List (List ℕ)) → NoStart packets
    → AcceptedToo password picture packet
    (behind_all password packets (trial (locked expected) (replicate n 0x00)))
    (behind_all password packets (trial (locked expected) (replicate n 0xFF)))

-- ---- no answer changed

-- document 01's rule for one packet: 10, 8 and 9, in the order of its table
unfoldable pub step_with_nine : (password picture packet : List ℕ) (zeros ones : Trial) → Step
step_with_nine password picture packet zeros ones =
    cond (starts_too_early picture packet zeros ones) (step 10 zeros ones)
    (cond (not (succeeds_on password packet zeros)) (step 8 zeros ones)
    (cond (not (succeeds_on password packet ones)) (step 9 zeros ones)
    (step 0 (behind password packet zeros) (behind password packet ones))))

-- the checker with that rule, and with the two trial buffers as they are lent; all else is `check_of`'s
unfoldable pub check_with_nine : (script text password : List ℕ) (expected n : ℕ) (zeros ones : List ℕ) → Checked
check_with_nine script text password expected n zeros ones =
    unless_refused (judged_of script text password n (length zeros) (length ones)) zeros ones
    (run_by (step_with_nine password (picture_of n (image_of text))) script expected n)

-- the judgement with 9 and the one without are equal on every input: answer, place, number of packets and both buffers
abbrev pub NoAnswerChanged : Type 0
NoAnswerChanged =
    (script text password : List ℕ) (expected n : ℕ) (zeros ones : List ℕ)
    → check_with_nine script text password expected n zeros ones ≡ check_of script text password expected n zeros ones

-- and 9 was never due: no answer of the judgement with 9 has it
abbrev pub NeverNine : Type 0
NeverNine =
    (script text password : List ℕ) (expected n : ℕ) (zeros ones : List ℕ) (place : ℕ)
    → (check_with_nine script text password expected n zeros ones).answer ≢ refused 9 place
