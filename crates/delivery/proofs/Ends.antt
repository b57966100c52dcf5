-- Where the checker's two runs end: their buffers stand side by side with any flash that got the packets that succeeded, and are the
-- picture where there is a pass.
-- Assumes nothing.
use mathlib.Core.Path.{◌≡◌, refl, sym, ap, ap₂, ◌∙◌, subst}
use mathlib.Core.Bool.{Bool, true, false, false≢true}
use mathlib.Core.List.{List, [], ◌∷◌}
use Prim.Native.Nat.{ℕ, suc, ◌+◌}
use native.Mathlib.Nat.{add-zero}
use native.Mathlib.Omega.{arith}
use borrow.Author.Tests.{eqb-true}
use lib.Dec.{eqb}
use lib.ListN.{length, take, drop, replicate, length-replicate}
use Rattle.loader.specs.Loader.{is_application, received_of}
use Rattle.loader.specs.declared.Loader.{Loader}
use Rattle.loader.proofs.Laws.{receive-keeps}
use Rattle.script.specs.Script.{frames_of}
use Rattle.delivery.specs.Beside.{Agree, Beside}
use Rattle.delivery.specs.Check.{passed, refused, Checked, Trial, trial, locked, step_of, found, ran_on, behind, run_from, run_of}
use Rattle.delivery.specs.Meaning.{behind_all}
use Rattle.delivery.specs.OneRegion.{flash_behind}
use Rattle.delivery.specs.Sending.{packets_in}
use Rattle.delivery.proofs.Step.{Kind, start, other, kind}
use Rattle.delivery.proofs.Runs.{no-pass, Done, step-done, run-next, run-refused, run-behind, passed-not}
use Rattle.delivery.proofs.Agree.{agree-start}
use Rattle.delivery.proofs.Exact.{beside-next}
use Rattle.delivery.proofs.Counts.{counts-right}

-- the end of two runs after n packets, of which some more succeeded: any third run behind those is side by side with them
record Ends (password picture : List ℕ) (packets : List (List ℕ)) (held : Trial) (n : ℕ) (c : Checked) : Type 0 where
  count : ℕ
  counted : n + count ≡ c.packets
  agree : Agree c.zeros c.ones (behind_all password (take count packets) held).region
  pictures : c.answer ≡ passed → (c.zeros ≡ picture) × (c.ones ≡ picture)

module _ (password picture : List ℕ) where
  -- both buffers are the picture once the firmware has started
  abbrev Pictured : (zeros ones : Trial) → Type 0
  Pictured zeros ones = is_application zeros.loader.mode ≡ true → (zeros.region ≡ picture) × (ones.region ≡ picture)

  -- a third run beside the two
  abbrev Third : (zeros ones held : Trial) → Type 0
  Third zeros ones held = Beside zeros ones held.loader held.region

  -- a refusal
  ends-refused : (number at n : ℕ) (packets : List (List ℕ)) (zeros ones held : Trial) → Third zeros ones held
      → Ends password picture packets held n (found (refused number at) n zeros ones)
  ends-refused number at n packets zeros ones held b =
      record { count = 0; counted = add-zero n; agree = b.agree; pictures = λ e. no-pass number at e }

  -- a packet that is not refused
  pictured-next : (packet : List ℕ) (zeros ones : Trial) → ones.loader ≡ zeros.loader → Done password picture packet zeros ones
      → Kind zeros.loader zeros.region packet (ran_on password packet zeros)
      → Pictured (behind password packet zeros) (behind password packet ones)
  pictured-next packet zeros ones state done (start begins unlocked started kept) e =
      let p = done.pictures begins in
      let alike = ap₂ (λ (l : Loader) (r : List ℕ). (received_of l r password packet).region) state (p.1 ∙ sym p.0) in
      (kept ∙ p.0, alike ∙ kept ∙ p.0)
  pictured-next packet zeros ones state done (other stays never) e = absurd (false≢true (sym stays ∙ e))

  -- the end of a script
  ends-over : (zeros ones held : Trial) (at n : ℕ) (rest : List ℕ) → Third zeros ones held → Pictured zeros ones
      → (t : Bool) → is_application zeros.loader.mode ≡ t
      → Ends password picture [] held n (run_from (step_of password picture) zeros ones at n rest [])
  unfolding run_from
  ends-over zeros ones held at n rest b p true started =
      record { count = 0; counted = add-zero n; agree = b.agree; pictures = λ _. p started }
  ends-over zeros ones held at n rest b p false inloader =
      record {
        count = 0;
        counted = add-zero n;
        agree = b.agree;
        pictures = λ e. absurd
            (passed-not password picture zeros ones at n rest inloader e);
      }

  -- one packet more
  ends_next : (packet : List ℕ) (packets : List (List ℕ)) (held : Trial) (n : ℕ) (c : Checked)
      → Ends password picture packets (behind password packet held) (n + 1) c → Ends password picture (packet ∷ packets) held n c
  ends_next packet packets held n c e =
      record { count = suc e.count; counted = omega (arith, e.counted); agree = e.agree; pictures = e.pictures }

  ends : (packets : List (List ℕ)) (zeros ones held : Trial) (at n : ℕ) (rest : List ℕ) → Third zeros ones held → Pictured zeros ones
      → Ends password picture packets held n (run_from (step_of password picture) zeros ones at n rest packets)
  ends [] zeros ones held at n rest b p = ends-over zeros ones held at n rest b p (is_application zeros.loader.mode) refl
  ends (packet ∷ packets) zeros ones held at n rest b p =
      by_mode (is_application zeros.loader.mode) refl
      (ends packets (behind password packet zeros) (behind password packet ones) (behind password packet held) (at + length packet)
      (n + 1) rest)
    where
      -- those behind it
      Later : Type 0
      Later = Third (behind password packet zeros) (behind password packet ones) (behind password packet held)
          → Pictured (behind password packet zeros) (behind password packet ones)
          → Ends password picture packets (behind password packet held) (n + 1)
          (run_from (step_of password picture) (behind password packet zeros) (behind password packet ones) (at + length packet)
          (n + 1) rest packets)

      -- what is to be shown
      Here : Checked → Type 0
      Here = Ends password picture (packet ∷ packets) held n

      by-fault : (t : Bool) → eqb (step_of password picture packet zeros ones).fault 0 ≡ t → is_application zeros.loader.mode ≡ false
          → Later
          → Here (run_from (step_of password picture) zeros ones at n rest (packet ∷ packets))
      by-fault true h inloader later =
          let done = step-done password picture packet zeros ones (eqb-true _ _ h) in
          let next = (beside-next password packet b (λ s. (done.pictures s).0 ∙ sym (done.pictures s).1) done.ok-zeros).1 in
          let pictured =
          pictured-next packet zeros ones b.ones_state done (kind zeros.loader zeros.region password packet inloader) in
          subst Here (sym (run-next password picture packet zeros ones at n rest packets inloader done))
          (ends_next packet packets held n _ (later next pictured))
      by-fault false h inloader later =
          subst Here (sym (run-refused password picture packet zeros ones at n rest packets inloader _ refl h))
          (ends-refused _ at n (packet ∷ packets) zeros ones held b)

      by_mode : (t : Bool) → is_application zeros.loader.mode ≡ t → Later
          → Here (run_from (step_of password picture) zeros ones at n rest (packet ∷ packets))
      by_mode true started later =
          subst Here (sym (run-behind password picture zeros ones at n rest packet packets started))
          (ends-refused 11 at n (packet ∷ packets) zeros ones held b)
      by_mode false inloader later = by-fault (eqb (step_of password picture packet zeros ones).fault 0) refl inloader later

module _ (script picture password : List ℕ) (expected n : ℕ) where
  abbrev run : Checked
  run = run_of script picture password expected n

  run_ends : (held : List ℕ) → length held ≡ n → Ends password picture (packets_in script) (trial (locked expected) held) 0 run
  run_ends held sized =
      ends password picture (packets_in script) (trial (locked expected) (replicate n 0x00)) (trial (locked expected) (replicate n 0xFF))
      (trial (locked expected) held) 5 0
      (frames_of (drop 5 script)).rest (record { ones_state = refl; other_state = refl; agree = agree-start n held sized })
      (λ started. absurd (false≢true started))

  -- the two buffers, and any flash behind the packets that succeeded
  pub run_agree : (held : List ℕ) → length held ≡ n
      → Agree run.zeros run.ones (flash_behind script password expected run.packets held)
  run_agree held sized =
      let e = run_ends held sized in
      let same : e.count ≡ run.packets = omega (arith, e.counted) in
      subst (λ (k : ℕ). Agree run.zeros run.ones (flash_behind script password expected k held)) same e.agree

  -- a pass leaves the picture in both
  pub run-pictures : run.answer ≡ passed → (run.zeros ≡ picture) × (run.ones ≡ picture)
  run-pictures = (run_ends (replicate n 0x00) (length-replicate n 0x00)).pictures

-- packets leave a buffer as long as it was
all-long : (password : List ℕ) (packets : List (List ℕ)) (t : Trial) → length (behind_all password packets t).region ≡ length t.region
all-long password [] t = refl
all-long password (packet ∷ packets) t =
    all-long password packets (behind password packet t) ∙ (receive-keeps t.loader t.region password packet).long

pub run_long : (script picture password : List ℕ) (expected n : ℕ) → length (run_of script picture password expected n).zeros ≡ n
run_long script picture password expected n =
    let c = counts-right script picture password expected n in
    let ran = take (run_of script picture password expected n).packets (packets_in script) in
    ap length c.over_zeros.holds ∙ all-long password ran (trial (locked expected) (replicate n 0x00)) ∙ length-replicate n 0x00
