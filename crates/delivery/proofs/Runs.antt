-- The checker's two runs, one packet at a time.
-- Assumes nothing.
use mathlib.Core.Path.{◌≡◌, refl, sym, ap, ◌∙◌}
use mathlib.Core.Bool.{Bool, true, false, cond, not, ◌&&◌, true≢false, false≢true}
use mathlib.Core.List.{List, [], ◌∷◌}
use Prim.Native.Nat.{ℕ, ◌+◌}
use native.Mathlib.Omega.{arith}
use borrow.Author.Tests.{eqb-true, not-false}
use lib.Dec.{eqb}
use lib.ListN.{length}
use Rattle.loader.specs.Loader.{is_application}
use Rattle.region.specs.Same.{same}
use Rattle.region.proofs.Sames.{same-eq, same_true}
use Rattle.test_laws.proofs.Tests.{both, on-cond}
use Rattle.delivery.specs.Check.{passed, refused, Checked, Trial, Step, step, step_of, end_of, found, is_empty, run_from}
use Rattle.delivery.specs.Check.{ran_on, succeeds_on, behind, begins_start, starts_too_early}
use Rattle.delivery.proofs.Step.{Ok}

-- a refusal is no pass
pub no-pass : {A : Type 0} (number place : ℕ) → refused number place ≡ passed → A
no-pass number place e = absurd cc

-- whether bytes are left, by their number
pub none_left : (l : List ℕ) → length l ≡ 0 → is_empty l ≡ true
none_left [] e = refl
none_left (x ∷ l) e = absurd (omega arith)

pub some_left : (l : List ℕ) → (length l ≡ 0 → ⊥) → is_empty l ≡ false
some_left [] some = absurd (some refl)
some_left (x ∷ l) some = refl

-- a packet that is not refused: both buffers are the picture where it begins a start, and it is a success over zeros
pub record Done (password picture packet : List ℕ) (zeros ones : Trial) : Type 0 where
  pub pictures : begins_start packet ≡ true → (zeros.region ≡ picture) × (ones.region ≡ picture)
  pub ok-zeros : Ok (ran_on password packet zeros)

-- the comparison that refuses no packet
pub compared : (begins : Bool) (z f picture : List ℕ) → begins && not (same z picture && same f picture) ≡ false → begins ≡ true → (z ≡ picture) × (f ≡ picture)
compared true z f picture e h =
    let t = both (same z picture) (same f picture) (not-false _ e) in
    (same-eq z picture t.0, same-eq f picture t.1)
compared false z f picture e h = absurd (false≢true h)

compares : (begins : Bool) (z f picture : List ℕ) → (begins ≡ true → (z ≡ picture) × (f ≡ picture)) → begins && not (same z picture && same f picture) ≡ false
compares true z f picture h = rw (same_true z picture (h refl).0, same_true f picture (h refl).1) refl
compares false z f picture h = refl

module _ (password picture packet : List ℕ) (zeros ones : Trial) where
  pub step-done : (step_of password picture packet zeros ones).fault ≡ 0 → Done password picture packet zeros ones
  unfolding step_of
  step-done =
      let P : Step → Type 0 = λ s. s.fault ≡ 0 → Done password picture packet zeros ones in
      on-cond P (starts_too_early picture packet zeros ones) _ _ (λ _ e. absurd (omega arith))
      (λ compare. on-cond P (not (succeeds_on password packet zeros)) _ _ (λ _ e. absurd (omega arith))
      (λ ok e. record { pictures = compared (begins_start packet) zeros.region ones.region picture compare; ok-zeros = not-false _ ok }))

  pub done-step : Done password picture packet zeros ones → step_of password picture packet zeros ones ≡ step 0 (behind password packet zeros) (behind password packet ones)
  unfolding step_of
  done-step d = rw (compares (begins_start packet) zeros.region ones.region picture d.pictures, d.ok-zeros, step_of) refl

  -- one that is refused leaves both runs as they were
  pub step-refused : eqb (step_of password picture packet zeros ones).fault 0 ≡ false
      → step_of password picture packet zeros ones ≡ step (step_of password picture packet zeros ones).fault zeros ones
  unfolding step_of
  step-refused =
      let P : Step → Type 0 = λ s. eqb s.fault 0 ≡ false → s ≡ step s.fault zeros ones in
      on-cond P (starts_too_early picture packet zeros ones) _ _ (λ _ e. refl)
      (λ _. on-cond P (not (succeeds_on password packet zeros)) _ _ (λ _ e. refl) (λ _ e. absurd (true≢false e)))

  module _ (at n : ℕ) (rest : List ℕ) (packets : List (List ℕ)) (inloader : is_application zeros.loader.mode ≡ false) where
    -- a packet that is not refused, and those behind it
    pub run-next : Done password picture packet zeros ones
        → run_from (step_of password picture) zeros ones at n rest (packet ∷ packets)
        ≡ run_from (step_of password picture) (behind password packet zeros) (behind password packet ones) (at + length packet) (n + 1) rest packets
    unfolding run_from
    run-next d = rw (inloader, done-step d, run_from) refl

    -- a refused one
    pub run-refused : (fault : ℕ) → (step_of password picture packet zeros ones).fault ≡ fault → eqb fault 0 ≡ false
        → run_from (step_of password picture) zeros ones at n rest (packet ∷ packets) ≡ found (refused fault at) n zeros ones
    unfolding run_from
    run-refused fault e some = rw (inloader, e, some, run_from) refl

    -- where there is a pass, the packet was not refused
    pub passed-done : (run_from (step_of password picture) zeros ones at n rest (packet ∷ packets)).answer ≡ passed → Done password picture packet zeros ones
    passed-done e = go (eqb (step_of password picture packet zeros ones).fault 0) refl
      where
        go : (t : Bool) → eqb (step_of password picture packet zeros ones).fault 0 ≡ t → Done password picture packet zeros ones
        go true h = step-done (eqb-true _ _ h)
        go false h = no-pass _ at (sym (ap (λ (c : Checked). c.answer) (run-refused _ refl h)) ∙ e)

module _ (password picture : List ℕ) (zeros ones : Trial) (at n : ℕ) (rest : List ℕ) where
  -- the end of a script that has started the firmware
  pub run-over : is_application zeros.loader.mode ≡ true → rest ≡ [] → (run_from (step_of password picture) zeros ones at n rest []).answer ≡ passed
  unfolding run_from end_of
  run-over started none = rw (started, none, run_from, end_of) refl

  -- before that there is no end that passes
  pub passed-not : is_application zeros.loader.mode ≡ false → (run_from (step_of password picture) zeros ones at n rest []).answer ≡ passed → ⊥
  unfolding run_from end_of
  passed-not inloader e = go (is_empty rest) (rw inloader at e)
    where
      go : (t : Bool) → cond t (refused 12 at) (refused 7 at) ≡ passed → ⊥
      go true e = no-pass 12 at e
      go false e = no-pass 7 at e

  -- and behind it only the end passes
  pub passed_over : (packets : List (List ℕ)) → is_application zeros.loader.mode ≡ true → (run_from (step_of password picture) zeros ones at n rest packets).answer ≡ passed
      → (packets ≡ []) × (rest ≡ [])
  unfolding run_from end_of
  passed_over [] started e = (refl, go rest (rw started at e))
    where
      go : (rest : List ℕ) → cond (is_empty rest) passed (refused 11 at) ≡ passed → rest ≡ []
      go [] e = refl
      go (b ∷ rest) e = no-pass 11 at e
  passed_over (packet ∷ packets) started e = no-pass 11 at (rw started at e)

  -- a packet behind the start
  pub run-started : (packet : List ℕ) (packets : List (List ℕ)) → is_application zeros.loader.mode ≡ true → (bytes : List ℕ) → is_empty bytes ≡ false
      → run_from (step_of password picture) zeros ones at n rest (packet ∷ packets) ≡ found (end_of true bytes at) n zeros ones
  unfolding run_from end_of
  run-started packet packets started bytes some = rw (started, some, run_from, end_of) refl

  -- it is refused
  pub run-behind : (packet : List ℕ) (packets : List (List ℕ)) → is_application zeros.loader.mode ≡ true
      → run_from (step_of password picture) zeros ones at n rest (packet ∷ packets) ≡ found (refused 11 at) n zeros ones
  unfolding run_from
  run-behind packet packets started = rw (started, run_from) refl
