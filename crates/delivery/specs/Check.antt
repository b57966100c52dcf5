-- Document 01's checker with two trial buffers ("Scripts, planner, checker", "Refusal numbers"). No code runs it: T-09's, with one region,
-- is defined from it and compared with it (`OneRegion.antt`).
-- Assumes nothing.
use Rattle.std.specs.Prelude.{Bool, true, false, cond, not, ◌&&◌, List, [], ◌∷◌, ℕ, ◌+◌, eqb, ltb, length, get_or, drop, replicate}
use Rattle.firmware_text.specs.Machine.{image_of}
use Rattle.loader.specs.Loader.{Outcome, is_application, received_of, succeeded_of}
use Rattle.loader.specs.declared.Loader.{Loader}
use Rattle.loader.specs.declared.Mode.TheVariants.{Locked}
use Rattle.packet.specs.Packet.{core_of}
use Rattle.region.specs.Same.{same}
use Rattle.region.specs.Size.{good_size}
use Rattle.script.specs.Script.{longest_script, headed, Frames, frames_of}
use Rattle.text_image.specs.Picture.{picture_of}
use Rattle.text_image.specs.Rules.{Judgement, rules_of}
use Rattle.text_image.specs.Rules as rules

-- what is said of a script: pass, or a refusal's number and place
pub data Said : Type 0 where
  passed : Said
  refused : (number place : ℕ) → Said

-- what the checker answers, the number of packets that succeeded in both runs (`CountsRight`), and the two trial buffers then
pub record Checked : Type 0 where
  pub answer : Said
  pub packets : ℕ
  pub zeros : List ℕ
  pub ones : List ℕ

-- the four together
abbrev pub checked : Said → ℕ → List ℕ → List ℕ → Checked
checked answer packets zeros ones = record { answer = answer; packets = packets; zeros = zeros; ones = ones }

-- a trial run as far as it is: the loader's part of the state, and the trial buffer
pub record Trial : Type 0 where
  pub loader : Loader
  pub region : List ℕ

-- the two together
abbrev pub trial : Loader → List ℕ → Trial
trial loader region = record { loader = loader; region = region }

-- a locked loader that expects a checksum
abbrev pub locked : ℕ → Loader
locked expected = record { mode = Locked; expected = expected }

-- what a packet does in a trial run, which is what it does to any loader
abbrev pub ran_on : List ℕ → List ℕ → Trial → Outcome
ran_on password packet t = received_of t.loader t.region password packet

-- it succeeds there
abbrev pub succeeds_on : List ℕ → List ℕ → Trial → Bool
succeeds_on password packet t = succeeded_of (ran_on password packet t).reply

-- the trial run behind it
abbrev pub behind : List ℕ → List ℕ → Trial → Trial
behind password packet t = trial (ran_on password packet t).loader (ran_on password packet t).region

-- the packet's core begins with 0x27
abbrev pub begins_start : List ℕ → Bool
begins_start packet = eqb (get_or (core_of packet) 0 0) 0x27

-- a packet that was reached: the refusal that it gets, 0 if none, and the two trial runs behind it, as they were if it is refused
pub record Step : Type 0 where
  pub fault : ℕ
  pub zeros : Trial
  pub ones : Trial

-- the three together
abbrev pub step : ℕ → Trial → Trial → Step
step fault zeros ones = record { fault = fault; zeros = zeros; ones = ones }

-- the picture test: the packet's core begins with 0x27, and a buffer is not the picture
abbrev pub starts_too_early : (picture packet : List ℕ) (zeros ones : Trial) → Bool
starts_too_early picture packet zeros ones = begins_start packet && not (same zeros.region picture && same ones.region picture)

-- a packet in both trial runs: 10 by the picture test, then 8 where it is refused over zeros; otherwise both runs go on
-- in a run from locked it is then a success over 0xFF too, so document 01's next test, 9, is not made (T-08, `Accepted.antt`)
unfoldable pub step_of : (password picture packet : List ℕ) (zeros ones : Trial) → Step
step_of password picture packet zeros ones =
    cond (starts_too_early picture packet zeros ones) (step 10 zeros ones)
    (cond (not (succeeds_on password packet zeros)) (step 8 zeros ones)
    (step 0 (behind password packet zeros) (behind password packet ones)))

-- nothing is left
abbrev pub is_empty : {A : Type 0} → List A → Bool
is_empty [] = true
is_empty (x ∷ rest) = false

-- what is said at a place where no packet is run any more: pass where the firmware has started and nothing is left, 11 for any
-- further byte; 12 at the end of a script that has not started it, 7 inside a packet
unfoldable pub end_of : Bool → List ℕ → ℕ → Said
end_of started rest at =
    cond started
    (cond (is_empty rest) passed (refused 11 at))
    (cond (is_empty rest) (refused 12 at) (refused 7 at))

-- what is answered where two trial runs have come to
abbrev pub found : Said → ℕ → Trial → Trial → Checked
found answer n zeros ones = checked answer n zeros.region ones.region

-- a rule for one packet in both trial runs, as `step_of` with a password and a picture
abbrev pub PacketRule : Type 0
PacketRule = (packet : List ℕ) (zeros ones : Trial) → Step

-- the packets that are left, each judged by a rule, from a place on, after n that it did not refuse; behind them is what the framing left
unfoldable pub run_from : PacketRule → (zeros ones : Trial) (at n : ℕ) (rest : List ℕ) (packets : List (List ℕ)) → Checked
run_from rule zeros ones at n rest [] = found (end_of (is_application zeros.loader.mode) rest at) n zeros ones
run_from rule zeros ones at n rest (packet ∷ packets) =
    let s : Step = rule packet zeros ones in
    cond (is_application zeros.loader.mode) (found (refused 11 at) n zeros ones)
    (cond (eqb s.fault 0)
    (run_from rule s.zeros s.ones (at + length packet) (n + 1) rest packets)
    (found (refused s.fault at) n zeros ones))

-- a framing from a place on
abbrev pub run_at : PacketRule → (zeros ones : Trial) (at n : ℕ) → Frames → Checked
run_at rule zeros ones at n f = run_from rule zeros ones at n f.rest f.packets

-- a script's packets, which begin behind its head, run by a rule from locked over n bytes 0x00 and over n bytes 0xFF
abbrev pub run_by : PacketRule → (script : List ℕ) (expected n : ℕ) → Checked
run_by rule script expected n =
    run_at rule (trial (locked expected) (replicate n 0x00)) (trial (locked expected) (replicate n 0xFF)) 5 0 (frames_of (drop 5 script))

-- the same, by the checker's own rule
abbrev pub run_of : (script picture password : List ℕ) (expected n : ℕ) → Checked
run_of script picture password expected n = run_by (step_of password picture) script expected n

-- the refusal of a text that is not sound, else what comes next
abbrev pub if_sound : Judgement → Said → Said
if_sound rules.sound next = next
if_sound (rules.refused number place) next = refused number place

-- what is judged before any packet, with trial buffers of two lengths: 1, 2, 18, those of the text, which are 18, 3, 4 and 5, and 6
unfoldable pub judged_of : List ℕ → List ℕ → List ℕ → ℕ → ℕ → ℕ → Said
judged_of script text password n zeros ones =
    cond (not (good_size n && (eqb zeros n && eqb ones n))) (refused 1 0)
    (cond (not (eqb (length password) 256)) (refused 2 0)
    (cond (ltb longest_script (length script)) (refused 18 0)
    (if_sound (rules_of text n)
    (cond (headed script) passed (refused 6 0)))))

-- a refusal before any packet leaves the trial buffers untouched
abbrev pub unless_refused : Said → List ℕ → List ℕ → Checked → Checked
unless_refused passed zeros ones next = next
unless_refused (refused number place) zeros ones next = checked (refused number place) 0 zeros ones

-- the checker: a script, a firmware text, a password, an expected checksum, the region's size, and the two trial buffers as they are lent
unfoldable pub check_of : List ℕ → List ℕ → List ℕ → ℕ → ℕ → List ℕ → List ℕ → Checked
check_of script text password expected n zeros ones =
    unless_refused (judged_of script text password n (length zeros) (length ones)) zeros ones
    (run_of script (picture_of n (image_of text)) password expected n)
