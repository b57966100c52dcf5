-- T-08: no answer of the checker has the number 9.
-- Assumes nothing.
use mathlib.Core.Path.{◌≡◌, refl, sym, ap, ◌∙◌, subst}
use mathlib.Core.Bool.{Bool, false, not, ◌&&◌, true≢false}
use mathlib.Core.List.{List, [], ◌∷◌}
use mathlib.Core.Logic.{◌≢◌}
use Prim.Native.Nat.{ℕ, ◌+◌}
use borrow.Author.Tests.{eq-eqb}
use lib.Dec.{eqb, ltb}
use lib.ListN.{length, drop, replicate}
use Rattle.firmware_text.specs.Image.{Fault, fault_of}
use Rattle.firmware_text.specs.Image as image
use Rattle.firmware_text.specs.Machine.{image_of}
use Rattle.loader.specs.Loader.{is_application}
use Rattle.region.specs.Size.{good_size}
use Rattle.script.specs.Script.{longest_script, headed, frames_of}
use Rattle.test_laws.proofs.Tests.{on-cond}
use Rattle.text_image.specs.Picture.{picture_of}
use Rattle.text_image.specs.Rules.{outside_of, repeated_of, Judgement, unless, longest, image_rules, rules_of}
use Rattle.text_image.specs.Rules as rules
use Rattle.delivery.specs.Accepted.{NeverNine}
use Rattle.delivery.specs.Check.{Said, passed, refused, Checked, Trial, trial, locked, Step, step_of, starts_too_early, succeeds_on}
use Rattle.delivery.specs.Check.{is_empty, end_of, run_from, if_sound, judged_of, unless_refused, check_of}
use Rattle.delivery.proofs.Accepted.{no-answer-changed}

-- a number that is not 9
other : (number : ℕ) → eqb number 9 ≡ false → number ≢ 9
other number e is = absurd (true≢false (sym (eq-eqb number 9 is) ∙ e))

-- ---- before any packet

-- a judgement of a text with another number
Others : Judgement → Type 0
Others rules.sound = Unit
Others (rules.refused number place) = number ≢ 9

unless-other : (number : ℕ) (fault : Fault) (next : Judgement) → number ≢ 9 → Others next → Others (unless number fault next)
unfolding Others
unless-other number image.none next own others = others
unless-other number (image.at place) next own others = own

text-other : (text : List ℕ) (n : ℕ) → Others (rules_of text n)
unfolding rules_of image_rules Others
text-other text n =
    on-cond Others (good_size n) _ _
    (λ _. on-cond Others (ltb longest (length text)) _ _ (λ _. other 18 refl)
    (λ _. unless-other 3 (fault_of (image_of text)) _ (other 3 refl)
    (unless-other 4 (outside_of n (image_of text)) _ (other 4 refl)
    (unless-other 5 (repeated_of [] (image_of text)) rules.sound (other 5 refl) tt))))
    (λ _. other 1 refl)

-- what is said, with another number
Other : Said → Type 0
Other passed = Unit
Other (refused number place) = number ≢ 9

sound-other : (j : Judgement) (next : Said) → Others j → Other next → Other (if_sound j next)
unfolding Other Others
sound-other rules.sound next text others = others
sound-other (rules.refused number place) next text others = text

judged-other : (script text password : List ℕ) (n zeros ones : ℕ) → Other (judged_of script text password n zeros ones)
unfolding judged_of Other
judged-other script text password n zeros ones =
    on-cond Other (not (good_size n && (eqb zeros n && eqb ones n))) _ _ (λ _. other 1 refl)
    (λ _. on-cond Other (not (eqb (length password) 256)) _ _ (λ _. other 2 refl)
    (λ _. on-cond Other (ltb longest_script (length script)) _ _ (λ _. other 18 refl)
    (λ _. sound-other (rules_of text n) _ (text-other text n) (on-cond Other (headed script) _ _ (λ _. tt) (λ _. other 6 refl)))))

-- ---- packet by packet

end-other : (started : Bool) (rest : List ℕ) (at : ℕ) → Other (end_of started rest at)
unfolding end_of Other
end-other started rest at =
    on-cond Other started _ _
    (λ _. on-cond Other (is_empty rest) _ _ (λ _. tt) (λ _. other 11 refl))
    (λ _. on-cond Other (is_empty rest) _ _ (λ _. other 12 refl) (λ _. other 7 refl))

module _ (password picture : List ℕ) where
  step_other : (packet : List ℕ) (zeros ones : Trial) → (step_of password picture packet zeros ones).fault ≢ 9
  unfolding step_of
  step_other packet zeros ones =
      let P : Step → Type 0 = λ s. s.fault ≢ 9 in
      on-cond P (starts_too_early picture packet zeros ones) _ _ (λ _. other 10 refl)
      (λ _. on-cond P (not (succeeds_on password packet zeros)) _ _ (λ _. other 8 refl) (λ _. other 0 refl))

  run-other : (packets : List (List ℕ)) (zeros ones : Trial) (at n : ℕ) (rest : List ℕ)
      → Other (run_from (step_of password picture) zeros ones at n rest packets).answer
  unfolding run_from Other
  run-other [] zeros ones at n rest = end-other (is_application zeros.loader.mode) rest at
  run-other (packet ∷ packets) zeros ones at n rest =
      let s = step_of password picture packet zeros ones in
      let P : Checked → Type 0 = λ c. Other c.answer in
      on-cond P (is_application zeros.loader.mode) _ _ (λ _. other 11 refl)
      (λ _. on-cond P (eqb s.fault 0) _ _
      (λ _. run-other packets s.zeros s.ones (at + length packet) (n + 1) rest) (λ _. step_other packet zeros ones))

-- ---- the whole answer

unless-refused : (s : Said) (zeros ones : List ℕ) (next : Checked) → Other s → Other next.answer
    → Other (unless_refused s zeros ones next).answer
unfolding Other
unless-refused passed zeros ones next said later = later
unless-refused (refused number place) zeros ones next said later = said

check-other : (script text password : List ℕ) (expected n : ℕ) (zeros ones : List ℕ)
    → Other (check_of script text password expected n zeros ones).answer
unfolding check_of
check-other script text password expected n zeros ones =
    let frames = frames_of (drop 5 script) in
    let over : ℕ → Trial = λ b. trial (locked expected) (replicate n b) in
    unless-refused (judged_of script text password n (length zeros) (length ones)) zeros ones _
    (judged-other script text password n (length zeros) (length ones))
    (run-other password (picture_of n (image_of text)) frames.packets (over 0x00) (over 0xFF) 5 0 frames.rest)

pub never-nine : NeverNine
unfolding Other
never-nine script text password expected n zeros ones place is =
    let same : (check_of script text password expected n zeros ones).answer ≡ refused 9 place =
    sym (ap (λ (c : Checked). c.answer) (no-answer-changed script text password expected n zeros ones)) ∙ is in
    subst Other same (check-other script text password expected n zeros ones) refl
