-- The checker passes exactly the scripts that work: the runs over zeros, over 0xFF and over any other region, side by side.
-- Assumes nothing.
use mathlib.Core.Path.{◌≡◌, refl, sym, ap, ap₂, ◌∙◌, subst}
use mathlib.Core.Bool.{true, false, true≢false, false≢true}
use mathlib.Core.List.{List, [], ◌∷◌, cons≢nil}
use Prim.Native.Nat.{ℕ, suc, ◌+◌}
use lib.ListN.{length, replicate, length-replicate}
use Rattle.card.specs.Call.{with_loader}
use Rattle.card.specs.declared.Card.{Card}
use Rattle.loader.specs.Loader.{is_application, is_unlocked, received_of}
use Rattle.loader.specs.declared.Loader.{Loader}
use Rattle.loader.proofs.Laws.{receive-keeps}
use Rattle.region.specs.Size.{good_size}
use Rattle.sensor_values.specs.Reading.{record_of}
use Rattle.delivery.specs.Check.{passed, Checked, Trial, trial, locked, ran_on, behind, begins_start, step_of, run_from}
use Rattle.delivery.specs.Sending.{Roomy}
use Rattle.delivery.specs.Beside.{Beside}
use Rattle.delivery.proofs.Agree.{agree-start, agree-ones, agree-equal, length-other}
use Rattle.delivery.proofs.Step.{Ok, received-alike, Kind, start, other, kind}
use Rattle.delivery.proofs.Runs.{Done, run-next, passed-done, passed_over, passed-not, run-over}
use Rattle.delivery.proofs.Sent.{Sent, First, and-false, send-last, send-next, sent-first}

-- a packet that is a success over zeros is one in any other run, and they stay side by side
pub beside-next : (password packet : List ℕ) {zeros ones : Trial} {loader : Loader} {region : List ℕ} → Beside zeros ones loader region
    → (begins_start packet ≡ true → zeros.region ≡ ones.region) → Ok (ran_on password packet zeros)
    → Ok (received_of loader region password packet)
    × Beside (behind password packet zeros) (behind password packet ones) (received_of loader region password packet).loader (received_of loader region password packet).region
beside-next password packet {zeros} b equal ok =
    let ones = received-alike zeros.loader (agree-ones b.agree) password packet equal ok in
    let any = received-alike zeros.loader b.agree password packet equal ok in
    rw (b.ones_state, b.other_state) (any.ok, record { ones_state = ones.state; other_state = any.state; agree = any.agree })

-- the two trial runs side by side, whatever any other does
abbrev pub Both : (zeros ones : Trial) → Type 0
Both zeros ones = Beside zeros ones ones.loader ones.region

-- so they are at their beginning
pub both-start : (expected n : ℕ) → Both (trial (locked expected) (replicate n 0x00)) (trial (locked expected) (replicate n 0xFF))
both-start expected n = record { ones_state = refl; other_state = refl; agree = agree-start n (replicate n 0xFF) (length-replicate n 0xFF) }

-- and behind a packet that is not refused, which is a success over 0xFF too
pub both-next : (password picture packet : List ℕ) {zeros ones : Trial} → Both zeros ones → Done password picture packet zeros ones
    → Ok (ran_on password packet ones) × Both (behind password packet zeros) (behind password packet ones)
both-next password picture packet b done =
    beside-next password packet b (λ s. (done.pictures s).0 ∙ sym (done.pictures s).1) done.ok-zeros

-- some card with a loader's part
abbrev pub card_of : Loader → Card
card_of loader = record { loader = loader; version = record { xx = 0; yy = 0; zz = 0 }; «record» = record_of (replicate 64 0) }

module _ (n : ℕ) (good : good_size n ≡ true) (password : List ℕ) (wide : length password ≡ 256) (buffer : ℕ → List ℕ) (roomy : Roomy buffer) (picture : List ℕ) where
  -- these packets put the picture into a card
  abbrev Puts : ℕ → Card → List ℕ → List (List ℕ) → Type 0
  Puts = Sent n good password wide buffer roomy picture

  -- a script that passes works on any region
  pub passed-sent : (packets : List (List ℕ)) (at k i : ℕ) (zeros ones : Trial) (card : Card) (region rest : List ℕ)
      → is_application zeros.loader.mode ≡ false → length zeros.region ≡ n → Beside zeros ones card.loader region
      → (run_from (step_of password picture) zeros ones at k rest packets).answer ≡ passed → (rest ≡ []) × Puts i card region packets
  passed-sent [] at k i zeros ones card region rest inloader sized b e = absurd (passed-not password picture zeros ones at k rest inloader e)
  passed-sent (packet ∷ packets) at k i zeros ones card region rest inloader sized b e =
      by_kind (λ stays. passed-sent packets (at + length packet) (k + 1) (suc i) (behind password packet zeros) (behind password packet ones)
      (with_loader (received_of card.loader region password packet).loader card) (received_of card.loader region password packet).region rest stays
      ((receive-keeps zeros.loader zeros.region password packet).long ∙ sized) next.1 later)
      (kind zeros.loader zeros.region password packet inloader)
    where
      done : Done password picture packet zeros ones
      done = passed-done password picture packet zeros ones at k rest packets inloader e

      equal : begins_start packet ≡ true → zeros.region ≡ ones.region
      equal s = (done.pictures s).0 ∙ sym (done.pictures s).1

      next : Ok (received_of card.loader region password packet)
          × Beside (behind password packet zeros) (behind password packet ones) (received_of card.loader region password packet).loader (received_of card.loader region password packet).region
      next = beside-next password packet b equal done.ok-zeros

      later : (run_from (step_of password picture) (behind password packet zeros) (behind password packet ones) (at + length packet) (k + 1) rest packets).answer ≡ passed
      later = sym (ap (λ (c : Checked). c.answer) (run-next password picture packet zeros ones at k rest packets inloader done)) ∙ e

      mode : is_application card.loader.mode ≡ false
      mode = rw b.other_state inloader

      long : length region ≡ n
      long = length-other b.agree ∙ sized

      by_kind : (is_application (behind password packet zeros).loader.mode ≡ false
          → (rest ≡ []) × Puts (suc i) (with_loader (received_of card.loader region password packet).loader card) (received_of card.loader region password packet).region packets)
          → Kind zeros.loader zeros.region packet (ran_on password packet zeros) → (rest ≡ []) × Puts i card region (packet ∷ packets)
      by_kind more (start begins unlocked started kept) =
          let over = passed_over password picture (behind password packet zeros) (behind password packet ones) (at + length packet) (k + 1) rest packets started later in
          let holds = ap₂ (λ (l : Loader) (r : List ℕ). (received_of l r password packet).region) b.other_state (agree-equal b.agree (equal begins)) ∙ kept ∙ (done.pictures begins).0 in (
            over.1,
            subst (λ (p : List (List ℕ)). Puts i card region (packet ∷ p)) (sym over.0)
                (send-last n good password wide buffer roomy picture i card region packet mode long next.0 (rw b.other_state unlocked) (rw next.1.other_state started) holds),
          )
      by_kind more (other stays never) =
          let behind-it = more stays in
          (behind-it.0, send-next n good password wide buffer roomy picture i card region packet mode long packets next.0 (rw next.1.other_state stays) behind-it.1)

  -- a script that works over zeros and over 0xFF passes
  pub sent-passed : (packets : List (List ℕ)) (at k i : ℕ) (zeros ones : Trial)
      → is_application zeros.loader.mode ≡ false → is_application ones.loader.mode ≡ false → length zeros.region ≡ n → length ones.region ≡ n
      → Puts i (card_of zeros.loader) zeros.region packets → Puts i (card_of ones.loader) ones.region packets
      → (run_from (step_of password picture) zeros ones at k [] packets).answer ≡ passed
  sent-passed [] at k i zeros ones inz ino sz so pz po = absurd (pz.some_packet refl)
  sent-passed (packet ∷ packets) at k i zeros ones inz ino sz so pz po =
      by_kind packets (sent-passed packets (at + length packet) (k + 1) (suc i) (behind password packet zeros) (behind password packet ones))
      (sent-first n good password wide buffer roomy picture i (card_of zeros.loader) zeros.region packet inz sz packets pz)
      (sent-first n good password wide buffer roomy picture i (card_of ones.loader) ones.region packet ino so packets po)
      (kind zeros.loader zeros.region password packet inz) (kind ones.loader ones.region password packet ino)
    where
      by_kind : (packets : List (List ℕ))
          → (is_application (behind password packet zeros).loader.mode ≡ false → is_application (behind password packet ones).loader.mode ≡ false
          → length (behind password packet zeros).region ≡ n → length (behind password packet ones).region ≡ n
          → Puts (suc i) (card_of (behind password packet zeros).loader) (behind password packet zeros).region packets
          → Puts (suc i) (card_of (behind password packet ones).loader) (behind password packet ones).region packets
          → (run_from (step_of password picture) (behind password packet zeros) (behind password packet ones) (at + length packet) (k + 1) [] packets).answer ≡ passed)
          → First n good password wide buffer roomy picture i (card_of zeros.loader) zeros.region packet inz sz packets
          → First n good password wide buffer roomy picture i (card_of ones.loader) ones.region packet ino so packets
          → Kind zeros.loader zeros.region packet (ran_on password packet zeros) → Kind ones.loader ones.region packet (ran_on password packet ones)
          → (run_from (step_of password picture) zeros ones at k [] (packet ∷ packets)).answer ≡ passed
      by_kind [] more z o (start begins unlocked started kept) (start begins' unlocked' started' kept') =
          let done : Done password picture packet zeros ones = record { pictures = λ s. (sym kept ∙ z.holds, sym kept' ∙ o.holds); ok-zeros = z.ok } in
          ap (λ (c : Checked). c.answer) (run-next password picture packet zeros ones at k [] [] inz done)
          ∙ run-over password picture (behind password packet zeros) (behind password packet ones) (at + length packet) (k + 1) [] started refl
      by_kind (q ∷ packets) more z o (start begins unlocked started kept) (start begins' unlocked' started' kept') =
          let last : true ≡ false = sym (rw (unlocked, started) refl) ∙ z.last_starts in
          absurd (true≢false last)
      by_kind packets more z o (start begins unlocked started kept) (other stays never) = absurd (true≢false (sym begins ∙ never o.ok))
      by_kind packets more z o (other stays never) (start begins unlocked started kept) = absurd (true≢false (sym begins ∙ never z.ok))
      by_kind [] more z o (other stays never) (other stays' never') = absurd (false≢true (sym (and-false (is_unlocked zeros.loader.mode) stays) ∙ z.last_starts))
      by_kind (q ∷ packets) more z o (other stays never) (other stays' never') =
          let done : Done password picture packet zeros ones =
          record { pictures = λ s. absurd (true≢false (sym s ∙ never z.ok)); ok-zeros = z.ok } in
          ap (λ (c : Checked). c.answer) (run-next password picture packet zeros ones at k [] (q ∷ packets) inz done)
          ∙ more stays stays'
          ((receive-keeps zeros.loader zeros.region password packet).long ∙ sz) ((receive-keeps ones.loader ones.region password packet).long ∙ so)
          (record { some_packet = cons≢nil; succeed = z.succeed-behind; last_starts = z.starts-behind; holds = z.holds })
          (record { some_packet = cons≢nil; succeed = o.succeed-behind; last_starts = o.starts-behind; holds = o.holds })
