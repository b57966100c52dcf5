-- A walk over a script's packets: what is left to run decides the whole.
-- Assumes nothing.
use mathlib.Core.Path.{◌≡◌, refl, sym, ap, ◌∙◌}
use mathlib.Core.Bool.{Bool, true, false, cond}
use mathlib.Core.List.{List, ◌∷◌}
use Prim.Native.Nat.{ℕ, ◌+◌, ◌-◌, ◌*◌, ◌≤◌, ◌<◌}
use native.Mathlib.Omega.{arith}
use borrow.Author.Tests.{ltb-true, ltb-false}
use Rattle.std.specs.Prelude.{Some, None}
use lib.Dec.{eqb, ltb}
use lib.ListN.{length, take, drop, replicate, length-drop, length-replicate}
use lib.Seq.{drop-drop, length-take-le}
use Rattle.delivery.specs.Check.{Said, refused, Checked, Trial, trial, locked, Step, step, step_of, end_of, found, run_from, run_at, run_of}
use Rattle.delivery.proofs.Exact.{both-start}
use Rattle.delivery.proofs.Runs.{step-done, done-step, step-refused, run-next, run-refused, run-started, some_left}
use Rattle.known_bits.specs.Known.{longest_map}
use Rattle.known_bits.proofs.Laws.{knows_start}
use Rattle.loader.specs.Loader.{is_application}
use Rattle.loader.specs.declared.Loader.{Loader}
use Rattle.script.specs.Script.{frame_length, front_of, frames_of}
use Rattle.script.proofs.Framing.{frames-end, frames-next, front_cut, front-inside, part-tail}
use Rattle.checker.specs.Answers.{Tells, Follows}

module _ (password picture : List ℕ) (zeros ones : Trial) (at n : ℕ) (bytes : List ℕ) where
  -- no packet is left
  run-unpacked : length bytes < frame_length bytes
      → run_at (step_of password picture) zeros ones at n (frames_of bytes) ≡ found
      (end_of (is_application zeros.loader.mode) bytes at) n zeros ones
  unfolding run_from
  run-unpacked cut = ap (run_at (step_of password picture) zeros ones at n) (frames-end bytes cut)

  -- the firmware started
  run-over : is_application zeros.loader.mode ≡ true
      → run_at (step_of password picture) zeros ones at n (frames_of bytes) ≡ found (end_of true bytes at) n zeros ones
  run-over started = go (ltb (length bytes) (frame_length bytes)) refl
    where
      go : (t : Bool) → ltb (length bytes) (frame_length bytes) ≡ t
          → run_at (step_of password picture) zeros ones at n (frames_of bytes) ≡ found (end_of true bytes at) n zeros ones
      go true h = run-unpacked (ltb-true _ _ h) ∙ ap (λ (t : Bool). found (end_of t bytes at) n zeros ones) started
      go false h =
          let whole = ltb-false (length bytes) (frame_length bytes) h in
          ap (run_at (step_of password picture) zeros ones at n) (frames-next bytes whole)
          ∙ run-started password picture zeros ones at n _ _ _ started bytes (some_left bytes (λ z. omega (arith, z)))

  -- the script ends, or ends inside a packet
  run-cut : is_application zeros.loader.mode ≡ false → front_of bytes ≡ None
      → run_at (step_of password picture) zeros ones at n (frames_of bytes) ≡ found (end_of false bytes at) n zeros ones
  run-cut inloader none = run-unpacked (front_cut bytes none) ∙ ap (λ (t : Bool). found (end_of t bytes at) n zeros ones) inloader

  module _ (k : ℕ) (is : k ≡ frame_length bytes) (whole : k ≤ length bytes) (inloader : is_application zeros.loader.mode ≡ false) where
    framed : run_at (step_of password picture) zeros ones at n (frames_of bytes)
        ≡ run_from (step_of password picture) zeros ones at n (frames_of (drop k bytes)).rest
        (take k bytes ∷ (frames_of (drop k bytes)).packets)
    framed = ap (run_at (step_of password picture) zeros ones at n) (rw is (frames-next bytes (rw is at whole)))

    -- a packet that is refused
    run-faulty : (fault : ℕ) (z o : Trial) → eqb fault 0 ≡ false → step fault z o ≡ step_of password picture (take k bytes) zeros ones
        → (run_at (step_of password picture) zeros ones at n (frames_of bytes) ≡ found (refused fault at) n z o)
    run-faulty fault z o some e =
        let same = ap (λ (s : Step). s.fault) (sym e) in
        let kept = e ∙ step-refused password picture (take k bytes) zeros ones (ap (λ (f : ℕ). eqb f 0) same ∙ some) in
        framed ∙ run-refused password picture (take k bytes) zeros ones at n _ _ inloader fault same some
        ∙ ap (λ (s : Step). found (refused fault at) n s.zeros s.ones) (sym kept)

    -- one that is a success in both runs
    run_on : (z o : Trial) → step 0 z o ≡ step_of password picture (take k bytes) zeros ones
        → run_at (step_of password picture) zeros ones at n (frames_of bytes) ≡ run_at (step_of password picture) z o (at + k) (n + 1)
        (frames_of (drop k bytes))
    run_on z o e =
        let done = step-done password picture (take k bytes) zeros ones (ap (λ (s : Step). s.fault) (sym e)) in
        let next = e ∙ done-step password picture (take k bytes) zeros ones done in
        framed ∙ run-next password picture (take k bytes) zeros ones at n _ _ inloader done
        ∙ ap
        (λ (s : Step). run_at (step_of password picture) s.zeros s.ones (at + length (take k bytes)) (n + 1) (frames_of (drop k bytes)))
        (sym next)
        ∙ ap (λ (l : ℕ). run_at (step_of password picture) z o (at + l) (n + 1) (frames_of (drop k bytes))) (length-take-le k bytes whole)

-- a packet that is run next: the firmware has not started, and it is the one at the front, whole
pub record Ahead (script : List ℕ) (at k : ℕ) (started : Bool) : Type 0 where
  pub not-started : started ≡ false
  pub is : k ≡ frame_length (drop at script)
  pub fits : at + k ≤ length script

pub ahead : (script : List ℕ) (at k : ℕ) (started : Bool) → at ≤ length script
    → cond started None (front_of (take (length script - at) (drop at script))) ≡ Some k → Ahead script at k started
ahead script at k true inside e = absurd cc
ahead script at k false inside e =
    let w = front-inside script at k inside e in
    record { not-started = refl; is = w.0; fits = w.1 }

-- a walk in one region that has come to a place: beside it stands a run over 0xFF, of which the bits tell, and what is left to run in
-- both gives the whole
pub record Stands (whole : Checked) (password picture script : List ℕ) (zeros : Trial) (known : List ℕ) (at n : ℕ) : Type 0 where
  pub ones : Trial
  pub tells : Tells zeros ones known
  pub left : run_at (step_of password picture) zeros ones at n (frames_of (drop at script)) ≡ whole

-- the walk's beginning
pub stand-begin : (script picture password : List ℕ) (expected n m : ℕ) (loader : Loader) (region known : List ℕ)
    → loader ≡ locked expected → n ≡ m * 8 → region ≡ replicate (m * 8) 0x00 → known ≡ replicate m 0x00 → m ≤ longest_map
    → Stands (run_of script picture password expected n) password picture script (trial loader region) known 5 0
stand-begin script picture password expected n m loader region known el en er ek short =
    rw (el, en, er, ek)
    (record {
      ones = trial (locked expected) (replicate (m * 8) 0xFF);
      tells = record { beside = both-start expected (m * 8); knows = knows_start m; short = rw (length-replicate {A = ℕ} m 0x00) short };
      left = refl;
    })

module _ (whole : Checked) (password picture script : List ℕ) (zeros : Trial) (known : List ℕ) (at n : ℕ)
    (s : Stands whole password picture script zeros known at n) where
  -- what is left of the script, as it is lent
  abbrev rest : List ℕ
  rest = take (length script - at) (drop at script)

  -- the firmware started
  stand-over : is_application zeros.loader.mode ≡ true → (a : Said) → a ≡ end_of true rest at → found a n zeros s.ones ≡ whole
  stand-over started a e =
      ap (λ (x : Said). found x n zeros s.ones) (e ∙ ap (λ (l : List ℕ). end_of true l at) (part-tail script at))
      ∙ sym (run-over password picture zeros s.ones at n (drop at script) started) ∙ s.left

  -- the script ends, or ends inside a packet
  stand-cut : is_application zeros.loader.mode ≡ false → front_of rest ≡ None → (a : Said) → a ≡ end_of false rest at
      → found a n zeros s.ones ≡ whole
  stand-cut inloader none a e =
      ap (λ (x : Said). found x n zeros s.ones) (e ∙ ap (λ (l : List ℕ). end_of false l at) (part-tail script at))
      ∙ sym (run-cut password picture zeros s.ones at n (drop at script) inloader (ap front_of (sym (part-tail script at)) ∙ none))
      ∙ s.left

  -- no packet is run any more
  pub stand-end : (started : Bool) → started ≡ is_application zeros.loader.mode → cond started None (front_of rest) ≡ None
      → (a : Said) → a ≡ end_of started rest at → found a n zeros s.ones ≡ whole
  stand-end true is none a e = stand-over (sym is) a e
  stand-end false is none a e = stand-cut (sym is) none a e

  module _ (k : ℕ) (started : Bool) (is : started ≡ is_application zeros.loader.mode) (w : Ahead script at k started) where
    -- the packet in both runs
    abbrev two : Step
    two = step_of password picture (take k (drop at script)) zeros s.ones

    as_step : (fault : ℕ) (z : Trial) (new : List ℕ) → Follows two fault z new → step fault z two.ones ≡ two
    as_step fault z new f = λ i. record { fault = sym f.faults i; zeros = sym f.runs i; ones = two.ones }

    inloader : is_application zeros.loader.mode ≡ false
    inloader = sym is ∙ w.not-started

    inside : k ≤ length (drop at script)
    inside = rw (length-drop at script) (omega (arith, w.fits))

    -- a packet is refused
    pub stand-refused : (fault : ℕ) (z : Trial) (new : List ℕ) → eqb fault 0 ≡ false → Follows two fault z new
        → found (refused fault at) n z two.ones ≡ whole
    stand-refused fault z new some f =
        sym
        (run-faulty password picture zeros s.ones at n (drop at script) k w.is inside inloader fault z two.ones some
        (as_step fault z new f)) ∙ s.left

    -- one packet more
    pub stand-next : (z : Trial) (new : List ℕ) → Follows two 0 z new → Stands whole password picture script z new (at + k) (n + 1)
    stand-next z new f = record {
      ones = two.ones;
      tells = f.tells;
      left =
          ap (λ (l : List ℕ). run_at (step_of password picture) z two.ones (at + k) (n + 1) (frames_of l)) (sym (drop-drop k at script))
          ∙ sym (run_on password picture zeros s.ones at n (drop at script) k w.is inside inloader z two.ones (as_step 0 z new f))
          ∙ s.left;
    }
