-- The checker's number is that of the packets that succeeded in both runs, and its buffers hold what they left.
-- Assumes nothing.
use mathlib.Core.Path.{◌≡◌, refl, sym, subst}
use mathlib.Core.Bool.{Bool, true, false}
use mathlib.Core.List.{List, [], ◌∷◌}
use Prim.Native.Nat.{ℕ, suc, ◌+◌, ◌≤◌}
use native.Mathlib.Omega.{arith}
use borrow.Author.Tests.{eqb-true}
use lib.Dec.{eqb}
use lib.ListN.{length, take, drop, replicate}
use Rattle.loader.specs.Loader.{is_application}
use Rattle.script.specs.Script.{frames_of}
use Rattle.delivery.specs.Check.{refused, Checked, Trial, trial, locked, step_of, found, ran_on, behind, run_from, run_of}
use Rattle.delivery.specs.Sending.{packets_in}
use Rattle.delivery.specs.Meaning.{Left, CountsRight}
use Rattle.delivery.proofs.Step.{Ok}
use Rattle.delivery.proofs.Exact.{Both, both-start, both-next}
use Rattle.delivery.proofs.Runs.{step-done, run-next, run-refused}

-- so many packets more than n of those that were left succeeded in both runs
record More (password : List ℕ) (packets : List (List ℕ)) (zeros ones : Trial) (n : ℕ) (c : Checked) : Type 0 where
  count : ℕ
  counted : c.packets ≡ n + count
  few : count ≤ length packets
  over_zeros : Left password (take count packets) zeros c.zeros
  over_ones : Left password (take count packets) ones c.ones

module _ (password picture : List ℕ) where
  -- none more
  none_more : (packets : List (List ℕ)) (zeros ones : Trial) (n : ℕ) (c : Checked) → c.packets ≡ n → c.zeros ≡ zeros.region → c.ones ≡ ones.region
      → More password packets zeros ones n c
  none_more packets zeros ones n c counted z o =
      record { count = 0; counted = omega arith; few = omega arith; over_zeros = record { succeeded = tt; holds = z }; over_ones = record { succeeded = tt; holds = o } }

  -- one more, which succeeded in both
  one_more : (packet : List ℕ) (packets : List (List ℕ)) (zeros ones : Trial) (n : ℕ) (c : Checked) → Ok (ran_on password packet zeros) → Ok (ran_on password packet ones)
      → More password packets (behind password packet zeros) (behind password packet ones) (n + 1) c → More password (packet ∷ packets) zeros ones n c
  one_more packet packets zeros ones n c okz oko m =
      record {
        count = suc m.count;
        counted = omega (arith, m.counted);
        few = omega (arith, m.few);
        over_zeros = record { succeeded = (okz, m.over_zeros.succeeded); holds = m.over_zeros.holds };
        over_ones = record { succeeded = (oko, m.over_ones.succeeded); holds = m.over_ones.holds };
      }

  -- an end, or a packet behind the start
  stopped : (packets : List (List ℕ)) (zeros ones : Trial) (at n : ℕ) (rest : List ℕ) → is_application zeros.loader.mode ≡ true
      → More password packets zeros ones n (run_from (step_of password picture) zeros ones at n rest packets)
  unfolding run_from
  stopped [] zeros ones at n rest started = none_more [] zeros ones n _ refl refl refl
  stopped (packet ∷ packets) zeros ones at n rest started = rw started (none_more (packet ∷ packets) zeros ones n (found (refused 11 at) n zeros ones) refl refl refl)

  counts : (packets : List (List ℕ)) (zeros ones : Trial) (at n : ℕ) (rest : List ℕ) → Both zeros ones
      → More password packets zeros ones n (run_from (step_of password picture) zeros ones at n rest packets)
  unfolding run_from
  counts [] zeros ones at n rest b = none_more [] zeros ones n _ refl refl refl
  counts (packet ∷ packets) zeros ones at n rest b =
      by_mode (is_application zeros.loader.mode) refl
      (counts packets (behind password packet zeros) (behind password packet ones) (at + length packet) (n + 1) rest)
    where
      -- those behind it, where the two runs are still side by side
      Later : Type 0
      Later = Both (behind password packet zeros) (behind password packet ones)
          → More password packets (behind password packet zeros) (behind password packet ones) (n + 1)
          (run_from (step_of password picture) (behind password packet zeros) (behind password packet ones) (at + length packet) (n + 1) rest packets)

      by-fault : (t : Bool) → eqb (step_of password picture packet zeros ones).fault 0 ≡ t → is_application zeros.loader.mode ≡ false → Later
          → More password (packet ∷ packets) zeros ones n (run_from (step_of password picture) zeros ones at n rest (packet ∷ packets))
      by-fault true h inloader later =
          let done = step-done password picture packet zeros ones (eqb-true _ _ h) in
          let next = both-next password picture packet b done in
          subst (More password (packet ∷ packets) zeros ones n) (sym (run-next password picture packet zeros ones at n rest packets inloader done))
          (one_more packet packets zeros ones n _ done.ok-zeros next.0 (later next.1))
      by-fault false h inloader later =
          subst (More password (packet ∷ packets) zeros ones n) (sym (run-refused password picture packet zeros ones at n rest packets inloader _ refl h))
          (none_more (packet ∷ packets) zeros ones n _ refl refl refl)

      by_mode : (t : Bool) → is_application zeros.loader.mode ≡ t → Later
          → More password (packet ∷ packets) zeros ones n (run_from (step_of password picture) zeros ones at n rest (packet ∷ packets))
      by_mode true started later = stopped (packet ∷ packets) zeros ones at n rest started
      by_mode false inloader later = by-fault (eqb (step_of password picture packet zeros ones).fault 0) refl inloader later

pub counts-right : CountsRight
counts-right script picture password expected n =
    let zeros = trial (locked expected) (replicate n 0x00) in
    let ones = trial (locked expected) (replicate n 0xFF) in
    let m = counts password picture (packets_in script) zeros ones 5 0 (frames_of (drop 5 script)).rest (both-start expected n) in
    let all = run_of script picture password expected n in
    let same : m.count ≡ all.packets = omega (arith, m.counted) in
    record {
      few = omega (arith, m.counted, m.few);
      over_zeros = subst (λ (k : ℕ). Left password (take k (packets_in script)) zeros all.zeros) same m.over_zeros;
      over_ones = subst (λ (k : ℕ). Left password (take k (packets_in script)) ones all.ones) same m.over_ones;
    }
