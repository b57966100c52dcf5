-- The answers of the public functions as numbers, for programs in C and Rust
-- (document 01, "Refusal numbers", "The loader"; document 02, T-07, T-09).
-- Assumes nothing.
use Rattle.std.specs.Prelude.{cond, List, [], ◌∷◌, ℕ, eqb}
use Rattle.loader.specs.declared.Mode.{Mode}
use Rattle.loader.specs.declared.Mode.TheVariants.{Application, Locked, Unlocked}
use Rattle.text_image.specs.Rules.{Judgement}
use Rattle.text_image.specs.Rules as rules
use Rattle.planner.specs.Plan as plan
use Rattle.delivery.specs.Check as check
use Rattle.card.specs.Call as call
use Rattle.card.specs.Mains as mains

-- three numbers: the refusal's, 0 for none, which is no refusal's number; its place; a count
abbrev pub numbers : ℕ → ℕ → ℕ → List ℕ
numbers refusal place count = refusal ∷ place ∷ count ∷ []

-- the reader's answer; it counts nothing
abbrev pub read_numbers : Judgement → List ℕ
read_numbers rules.sound = numbers 0 0 0
read_numbers (rules.refused number place) = numbers number place 0

-- the planner's answer; the count is the script's length
abbrev pub plan_numbers : plan.Said → List ℕ
plan_numbers (plan.refused number place) = numbers number place 0
plan_numbers (plan.planned length) = numbers 0 0 length

-- the checker's answer, four numbers: the refusal's, 0 for none; its place; how many packets succeeded; how many bytes are still unknown
abbrev pub check_numbers : check.Said → (packets unknown : ℕ) → List ℕ
check_numbers check.passed packets unknown = 0 ∷ 0 ∷ packets ∷ unknown ∷ []
check_numbers (check.refused number place) packets unknown = number ∷ place ∷ packets ∷ unknown ∷ []

-- a mode's number
abbrev pub mode_number : Mode → ℕ
mode_number Application = 0
mode_number Locked = 1
mode_number Unlocked = 2

-- the mode of a number; a number other than 0, 1 and 2 counts as locked, where a card obeys least
unfoldable pub mode_of : ℕ → Mode
mode_of n = cond (eqb n 0) Application (cond (eqb n 2) Unlocked Locked)

-- a call's answer, four numbers: the refusal's, 0 for none; how many bytes the reply has; 1 if it is document 01's success, else 0; the
-- mode's number behind the call
abbrev pub call_numbers : call.Said → Mode → List ℕ
call_numbers (call.refused number) mode = number ∷ 0 ∷ 0 ∷ mode_number mode ∷ []
call_numbers (call.replied count success) mode = 0 ∷ count ∷ cond success 1 0 ∷ mode_number mode ∷ []

-- a cut's answer; it has no place and counts nothing
abbrev pub cut_numbers : mains.Ending → List ℕ
cut_numbers (mains.refused number) = numbers number 0 0
cut_numbers mains.done = numbers 0 0 0

-- a restart's answer, two numbers: the refusal's, 0 for none; the number of the mode that the card has then
abbrev pub restart_numbers : mains.Ending → Mode → List ℕ
restart_numbers (mains.refused number) mode = number ∷ mode_number mode ∷ []
restart_numbers mains.done mode = 0 ∷ mode_number mode ∷ []
