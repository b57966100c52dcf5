-- T-08: the judgement with 9 is the one without.
-- Assumes nothing.
use mathlib.Core.Path.{◌≡◌, refl, sym, ap, ◌∙◌, subst}
use mathlib.Core.Bool.{Bool, true, false, cond, not}
use mathlib.Core.List.{List, [], ◌∷◌}
use Prim.Native.Nat.{ℕ, ◌+◌}
use borrow.Author.Tests.{eqb-true, not-false}
use lib.Dec.{eqb}
use lib.ListN.{length, drop, replicate}
use Rattle.firmware_text.specs.Machine.{image_of}
use Rattle.loader.specs.Loader.{is_application}
use Rattle.script.specs.Script.{frames_of}
use Rattle.text_image.specs.Picture.{picture_of}
use Rattle.delivery.specs.Accepted.{step_with_nine, check_with_nine, NoAnswerChanged}
use Rattle.delivery.specs.Check.{Trial, trial, locked, Step, step, step_of, succeeds_on, begins_start, starts_too_early}
use Rattle.delivery.specs.Check.{found, refused, run_from, judged_of, unless_refused, check_of}
use Rattle.delivery.proofs.Exact.{Both, both-start, both-next}
use Rattle.delivery.proofs.Runs.{compared, step-done, done-step}

-- what the rule with 9 gives to a packet that the picture test lets pass: 8 where it is refused over zeros, whatever it gets over
-- 0xFF; 9 where it is refused over 0xFF only
module _ (password picture packet : List ℕ) (zeros ones : Trial) (tested : starts_too_early picture packet zeros ones ≡ false) where
  pub eight-due : succeeds_on password packet zeros ≡ false → step_with_nine password picture packet zeros ones ≡ step 8 zeros ones
  unfolding step_with_nine
  eight-due failed = rw (tested, failed) refl

  pub nine-due : succeeds_on password packet zeros ≡ true → succeeds_on password packet ones ≡ false
      → step_with_nine password picture packet zeros ones ≡ step 9 zeros ones
  unfolding step_with_nine
  nine-due ok failed = rw (tested, ok, failed) refl

-- a third test that never holds where the two before it do not
third-idle : {A : Type 0} (first second third : Bool) (x y z w : A) → (first ≡ false → second ≡ false → third ≡ false)
    → cond first x (cond second y (cond third z w)) ≡ cond first x (cond second y w)
third-idle true second third x y z w never = refl
third-idle false true third x y z w never = refl
third-idle false false third x y z w never = rw (never refl refl) refl

-- two choices by one test, whose first ways are alike where it holds
then-alike : {A : Type 0} (t : Bool) (x y z : A) → (t ≡ true → x ≡ y) → cond t x z ≡ cond t y z
then-alike true x y z alike = alike refl
then-alike false x y z alike = refl

module _ (password picture : List ℕ) where
  -- one packet, where the two runs are side by side
  rules-alike : (packet : List ℕ) (zeros ones : Trial) → Both zeros ones
      → step_with_nine password picture packet zeros ones ≡ step_of password picture packet zeros ones
  unfolding step_with_nine step_of
  rules-alike packet zeros ones b =
      third-idle (starts_too_early picture packet zeros ones) (not (succeeds_on password packet zeros)) (not (succeeds_on password packet ones))
      _ _ _ _
      (λ tested ok.
      let pictures = compared (begins_start packet) zeros.region ones.region picture tested in
      ap not (both-next password picture packet b (record { pictures = pictures; ok-zeros = not-false _ ok })).0)

  -- behind a packet that is not refused they still are
  still_both : (packet : List ℕ) (zeros ones : Trial) → Both zeros ones → eqb (step_of password picture packet zeros ones).fault 0 ≡ true
      → Both (step_of password picture packet zeros ones).zeros (step_of password picture packet zeros ones).ones
  still_both packet zeros ones b accepted =
      let done = step-done password picture packet zeros ones (eqb-true _ _ accepted) in
      subst (λ (s : Step). Both s.zeros s.ones) (sym (done-step password picture packet zeros ones done))
      (both-next password picture packet b done).1

  runs-alike : (packets : List (List ℕ)) (zeros ones : Trial) (at n : ℕ) (rest : List ℕ) → Both zeros ones
      → run_from (step_with_nine password picture) zeros ones at n rest packets
      ≡ run_from (step_of password picture) zeros ones at n rest packets
  unfolding run_from
  runs-alike [] zeros ones at n rest b = refl
  runs-alike (packet ∷ packets) zeros ones at n rest b =
      let s = step_of password picture packet zeros ones in
      let over = found (refused 11 at) n zeros ones in
      ap (λ (x : Step). cond (is_application zeros.loader.mode) over (cond (eqb x.fault 0)
      (run_from (step_with_nine password picture) x.zeros x.ones (at + length packet) (n + 1) rest packets)
      (found (refused x.fault at) n zeros ones)))
      (rules-alike packet zeros ones b)
      ∙ ap (cond (is_application zeros.loader.mode) over)
      (then-alike (eqb s.fault 0) _ _ _
      (λ accepted. runs-alike packets s.zeros s.ones (at + length packet) (n + 1) rest (still_both packet zeros ones b accepted)))

pub no-answer-changed : NoAnswerChanged
unfolding check_with_nine check_of
no-answer-changed script text password expected n zeros ones =
    let frames = frames_of (drop 5 script) in
    let over : ℕ → Trial = λ b. trial (locked expected) (replicate n b) in
    ap (unless_refused (judged_of script text password n (length zeros) (length ones)) zeros ones)
    (runs-alike password (picture_of n (image_of text)) frames.packets (over 0x00) (over 0xFF) 5 0 frames.rest (both-start expected n))
