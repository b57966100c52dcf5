-- What a cut keeps, and the mode that a restart gives.
-- Assumes nothing.
use mathlib.Core.Path.{◌≡◌, refl, sym, ap, ◌∙◌, subst}
use mathlib.Core.Bool.{Bool, true, false, cond, not, ◌&&◌, false≢true, true≢false}
use mathlib.Core.List.{List, [], ◌∷◌}
use Prim.Native.Nat.{ℕ, ◌*◌, ◌≤◌}
use native.Mathlib.Omega.{arith}
use borrow.Author.Tests.{ltb-false, eq-eqb}
use lib.Dec.{eqb, ltb}
use lib.ListN.{length, take, drop, replicate}
use Rattle.card.specs.Call.{with_loader}
use Rattle.card.specs.Mains.{Ending, refused, done, Cut, cut_of, restarted, restart_of}
use Rattle.card.specs.declared.Card.{Card}
use Rattle.crc.specs.Crc.{checksum_of}
use Rattle.little_endian.specs.Bytes.{stored_at}
use Rattle.little_endian.proofs.AllBytes.{AllBytes, bytes_take, bytes_drop, bytes-filled, bytes-stored}
use Rattle.flash.specs.Flash.{inside, writable, written, write_of}
use Rattle.loader.specs.Loader.{Outcome, in_mode, is_unlocked, wants_unlocked, succeeded_of, done_of, write_done, obeyed_of, received_of}
use Rattle.power_cut.proofs.Cuts.{cut-none}
use Rattle.power_cut.specs.Cut.{command_work, work_of, left_by, left_of, restarted_of}
use Rattle.loader.specs.declared.Loader.{Loader}
use Rattle.loader.specs.declared.Mode.TheVariants.{Application, Locked}
use Rattle.loader.specs.declared.Reply.TheVariants.{Message}
use Rattle.packet.specs.Packet.{acknowledgement_of, core_of, command_of, address_of}
use Rattle.packet.specs.declared.Command.{Command}
use Rattle.packet.specs.declared.Command.TheVariants.{Password, Erase, Write, RangeChecksum, Start, Unknown}
use Rattle.region.specs.Same.{same}
use Rattle.region.specs.Size.{good_size}
use Rattle.test_laws.proofs.Tests.{both, on-cond}
use Rattle.recovery.proofs.Bytes.{writable-bytes}

is_refused : Ending → Bool
is_refused (refused n) = true
is_refused done = false

not_done : {A : Type 0} (n : ℕ) → refused n ≡ done → A
unfolding is_refused
not_done n e = absurd (true≢false (ap is_refused e))

-- a write's message that is a success
done-of : (t : Bool) → succeeded_of (Message (cond t 0x00 0x01)) ≡ true → t ≡ true
done-of true e = refl
done-of false e = absurd (false≢true e)

-- a write that was done writes what the old bytes allow
written-bytes : (new : List ℕ) (at : ℕ) (region : List ℕ) → AllBytes region → (write_of new at region).done ≡ true → AllBytes new
unfolding write_of
written-bytes new at region a =
    let old = take (length new) (drop at region) in
    on-cond (λ w. w.done ≡ true → AllBytes new) (inside at (length new) (length region) && writable old new) (written true (stored_at at new region)) (written false region)
    (λ e _. writable-bytes old new (bytes_take (length new) (drop at region) (bytes_drop at region a)) (both (inside at (length new) (length region)) (writable old new) e).1)
    (λ _ e. absurd (false≢true e))

module _ (loader : Loader) (region password : List ℕ) where
  abbrev Ok : Outcome → Type 0
  Ok o = succeeded_of o.reply ≡ true

  obeyed-ok : (core : List ℕ) → Ok (obeyed_of loader region password core) → Ok (done_of (command_of core) loader region password core)
  unfolding obeyed_of
  obeyed-ok core =
      on-cond (λ o. Ok o → Ok (done_of (command_of core) loader region password core)) (wants_unlocked (command_of core) && not (is_unlocked loader.mode)) _ _
      (λ _ e. absurd (false≢true e)) (λ _ e. e)

  -- a message that is a success had its command done
  received-ok : (message : List ℕ) → Ok (received_of loader region password message) → Ok (done_of (command_of (core_of message)) loader region password (core_of message))
  unfolding received_of
  received-ok message =
      let P : Outcome → Type 0 = λ o. Ok o → Ok (done_of (command_of (core_of message)) loader region password (core_of message)) in
      on-cond P (same message (0x31 ∷ [])) _ _ (λ _ e. absurd (false≢true e))
      (λ _. on-cond P (not (eqb (acknowledgement_of message) 0x00)) _ _ (λ _ e. absurd (false≢true e)) (λ _. obeyed-ok (core_of message)))

  -- what a part of the work leaves are bytes, as many as before
  pub record Kept (r : List ℕ) : Type 0 where
    pub long : length r ≡ length region
    pub bytes : AllBytes r

  module _ (a : AllBytes region) where
    stored-kept : (at : ℕ) (new : List ℕ) → AllBytes new → Kept (stored_at at new region)
    stored-kept at new b = record { long = (bytes-stored at new region b a).long; bytes = (bytes-stored at new region b a).bytes }

    left-kept : (c : Command) (core : List ℕ) (k : ℕ) → Ok (done_of c loader region password core) → k ≤ command_work c core (length region) → Kept (left_by c core k region)
    unfolding left_by command_work done_of write_done
    left-kept Password core k ok few = record { long = refl; bytes = a }
    left-kept Erase core k ok few = stored-kept 0 (replicate (k * 4096) 0xFF) (bytes-filled (k * 4096) 0xFF (omega arith))
    left-kept Write core k ok few =
        let new : AllBytes (drop 5 core) = written-bytes (drop 5 core) (address_of core) region a (done-of _ ok) in
        stored-kept (address_of core) (take k (drop 5 core)) (bytes_take k (drop 5 core) new)
    left-kept RangeChecksum core k ok few = record { long = refl; bytes = a }
    left-kept Start core k ok few = record { long = refl; bytes = a }
    left-kept Unknown core k ok few = record { long = refl; bytes = a }

    pub place_kept : (message : List ℕ) (k : ℕ) → k ≤ work_of loader region password message → Kept (left_of message k region)
    unfolding work_of
    place_kept message k few = go (succeeded_of (received_of loader region password message).reply) refl few
      where
        c : Command
        c = command_of (core_of message)

        go : (t : Bool) → succeeded_of (received_of loader region password message).reply ≡ t → k ≤ cond t (command_work c (core_of message) (length region)) 0 → Kept (left_of message k region)
        go true e few = left-kept c (core_of message) k (received-ok message e) few
        go false e few =
            let none : 0 ≡ k = omega (arith, few) in
            subst Kept (sym (ap (λ (j : ℕ). left_of message j region) (sym none) ∙ cut-none message region)) (record { long = refl; bytes = a })

module _ (card : Card) (size : ℕ) (region password message : List ℕ) (place : ℕ) (a : AllBytes region) where
  -- a cut that is not refused
  pub cut-kept : (cut_of card size region password message place).answer ≡ done
      → (length (cut_of card size region password message place).region ≡ length region) × AllBytes (cut_of card size region password message place).region
  unfolding cut_of
  cut-kept =
      let P : Cut → Type 0 = λ c. c.answer ≡ done → (length c.region ≡ length region) × AllBytes c.region in
      on-cond P (not (good_size size && eqb (length region) size)) _ _ (λ _. not_done 1)
      (λ _. on-cond P (not (eqb (length password) 256)) _ _ (λ _. not_done 2)
      (λ _. on-cond P (ltb (work_of card.loader region password message) place) _ _ (λ _. not_done 21)
      (λ few _.
      let k = place_kept card.loader region password a message place (ltb-false _ _ few) in
      (k.long, k.bytes))))

module _ (card : Card) (size : ℕ) (region : List ℕ) (good : good_size size ≡ true) (sized : length region ≡ size) where
  -- the mode that a restart gives
  pub restart-is : restart_of card size region ≡ restarted done (with_loader (in_mode (cond (eqb (checksum_of region) card.loader.expected) Application Locked) card.loader) card)
  unfolding restart_of restarted_of
  restart-is = rw (good, eq-eqb (length region) size sized) refl
