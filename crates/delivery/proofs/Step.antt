-- One packet: what a success over zeros says of every other run, and which packets start the firmware.
-- Assumes nothing.
use mathlib.Core.Path.{◌≡◌, refl, sym, ap, ◌∙◌}
use mathlib.Core.Bool.{Bool, true, false, cond, not, ◌&&◌, false≢true}
use mathlib.Core.List.{List, [], ◌∷◌}
use Prim.Native.Nat.{ℕ, ◌+◌}
use borrow.Author.Tests.{eq-eqb, leb-true, not-false}
use lib.Dec.{eqb}
use lib.ListN.{length, get_or, take, drop}
use Rattle.flash.specs.Flash.{inside, writable, written, write_of, range_of, starts_of}
use Rattle.std.specs.Prelude.{Some, None}
use Rattle.little_endian.specs.Bytes.{stored_at}
use Rattle.loader.specs.Loader.{Outcome, outcome, is_application, is_unlocked, in_mode, write_said, range_reply, password_of, write_done, range_done, start_of, done_of, wants_unlocked, obeyed_of, received_of, succeeded_of}
use Rattle.loader.specs.declared.Loader.{Loader}
use Rattle.loader.specs.declared.Mode.TheVariants.{Unlocked}
use Rattle.loader.specs.declared.Reply.TheVariants.{Byte, Message}
use Rattle.packet.specs.Packet.{acknowledgement_of, core_of, command_of, address_of, range_length_of}
use Rattle.packet.specs.declared.Command.{Command}
use Rattle.packet.specs.declared.Command.TheVariants.{Password, Erase, Write, RangeChecksum, Start, Unknown}
use Rattle.packet.proofs.Commands.{RowOf, command-row}
use Rattle.region.specs.Same.{same}
use Rattle.test_laws.proofs.Tests.{both, on-cond}
use Rattle.delivery.specs.Check.{begins_start}
use Rattle.delivery.specs.Beside.{Agree}
use Rattle.delivery.proofs.Agree.{agree_same, agree-ones, length-other, agree-take, agree-drop, agree-stored, agree-erased, agree-equal, writable_other}

-- a packet's outcome is a success
abbrev pub Ok : Outcome → Type 0
Ok o = succeeded_of o.reply ≡ true

-- ---- a success over zeros

-- the command is a start
abbrev pub is_start : Command → Bool
is_start Password = false
is_start Erase = false
is_start Write = false
is_start RangeChecksum = false
is_start Start = true
is_start Unknown = false

-- a start begins with its code
pub start-code : (core : List ℕ) (c : Command) → RowOf c core → is_start c ≡ true → get_or core 0 0 ≡ 0x27
start-code core Password row e = absurd (false≢true e)
start-code core Erase row e = absurd (false≢true e)
start-code core Write row e = absurd (false≢true e)
start-code core RangeChecksum row e = absurd (false≢true e)
start-code core Start row e = row.begins
start-code core Unknown row e = absurd (false≢true e)

-- what another run makes of a packet that is a success over zeros: a success too, with the same state, and the three still agree
pub record Alike (zeros ones other : Outcome) : Type 0 where
  pub ok : Ok other
  pub state : other.loader ≡ zeros.loader
  pub agree : Agree zeros.region ones.region other.region

module _ (loader : Loader) {z f r : List ℕ} (a : Agree z f r) where
  password-alike : (t : Bool) → Ok (cond t (outcome (in_mode Unlocked loader) z (Message 0x00)) (outcome loader z (Message 0x05)))
      → Alike (cond t (outcome (in_mode Unlocked loader) z (Message 0x00)) (outcome loader z (Message 0x05)))
      (cond t (outcome (in_mode Unlocked loader) f (Message 0x00)) (outcome loader f (Message 0x05)))
      (cond t (outcome (in_mode Unlocked loader) r (Message 0x00)) (outcome loader r (Message 0x05)))
  password-alike true ok = record { ok = refl; state = refl; agree = a }
  password-alike false ok = absurd (false≢true ok)

  -- a write that is a success was done
  pub write_done_lem : (t : Bool) (new : List ℕ) → Ok (write_said loader (cond t (written true new) (written false z))) → t ≡ true
  write_done_lem true new ok = refl
  write_done_lem false new ok = absurd (false≢true ok)

  write-alike : (new : List ℕ) (at : ℕ) → Ok (write_said loader (write_of new at z))
      → Alike (write_said loader (write_of new at z)) (write_said loader (write_of new at f)) (write_said loader (write_of new at r))
  unfolding write_of
  write-alike new at ok =
      let n = length new in
      let t = both (inside at n (length z)) (writable (take n (drop at z)) new) (write_done_lem _ (stored_at at new z) ok) in
      let part : Agree (take n (drop at z)) (take n (drop at f)) (take n (drop at r)) = agree-take n (agree-drop at a) in
      rw (length-other (agree-ones a), length-other a, t.0, t.1, writable_other (agree-ones part) new t.1, writable_other part new t.1)
      (record { ok = refl; state = refl; agree = agree-stored at new a (leb-true (at + n) (length z) t.0) })

  -- a range checksum that is a success is inside
  range-done : (t : Bool) (sum : ℕ) → Ok (outcome loader z (range_reply (cond t (Some sum) None))) → t ≡ true
  range-done true sum ok = refl
  range-done false sum ok = absurd (false≢true ok)

  range-alike : (at n : ℕ) → Ok (outcome loader z (range_reply (range_of at n z)))
      → Alike (outcome loader z (range_reply (range_of at n z))) (outcome loader f (range_reply (range_of at n f))) (outcome loader r (range_reply (range_of at n r)))
  unfolding range_of
  range-alike at n ok =
      let t : inside at n (length z) ≡ true = range-done _ _ ok in
      rw (length-other (agree-ones a), length-other a, t) (record { ok = refl; state = refl; agree = a })

  done-alike : (c : Command) (password core : List ℕ) → (is_start c ≡ true → z ≡ f) → Ok (done_of c loader z password core)
      → Alike (done_of c loader z password core) (done_of c loader f password core) (done_of c loader r password core)
  unfolding done_of password_of write_done range_done start_of
  done-alike Password password core equal ok = password-alike (same (drop 1 core) password) ok
  done-alike Erase password core equal ok = record { ok = refl; state = refl; agree = agree-erased a }
  done-alike Write password core equal ok = write-alike (drop 5 core) (address_of core) ok
  done-alike RangeChecksum password core equal ok = range-alike (address_of core) (range_length_of core) ok
  done-alike Start password core equal ok =
      rw (sym (equal refl), agree-equal a (equal refl)) (record { ok = ok; state = refl; agree = agree_same _ })
  done-alike Unknown password core equal ok = absurd (false≢true ok)

  obeyed-alike : (password core : List ℕ) → (eqb (get_or core 0 0) 0x27 ≡ true → z ≡ f) → Ok (obeyed_of loader z password core)
      → Alike (obeyed_of loader z password core) (obeyed_of loader f password core) (obeyed_of loader r password core)
  unfolding obeyed_of
  obeyed-alike password core equal ok = go (wants_unlocked c && not (is_unlocked loader.mode)) ok
    where
      c : Command
      c = command_of core

      go : (t : Bool) → Ok (cond t (outcome loader z (Message 0x04)) (done_of c loader z password core))
          → Alike (cond t (outcome loader z (Message 0x04)) (done_of c loader z password core))
          (cond t (outcome loader f (Message 0x04)) (done_of c loader f password core))
          (cond t (outcome loader r (Message 0x04)) (done_of c loader r password core))
      go true ok = absurd (false≢true ok)
      go false ok = done-alike c password core (λ e. equal (eq-eqb _ _ (start-code core c (command-row core) e))) ok

  pub received-alike : (password packet : List ℕ) → (begins_start packet ≡ true → z ≡ f) → Ok (received_of loader z password packet)
      → Alike (received_of loader z password packet) (received_of loader f password packet) (received_of loader r password packet)
  unfolding received_of
  received-alike password packet equal ok = go (same packet (0x31 ∷ [])) (not (eqb (acknowledgement_of packet) 0x00)) ok
    where
      core : List ℕ
      core = core_of packet

      fault : ℕ
      fault = acknowledgement_of packet

      go : (s t : Bool)
          → Ok (cond s (outcome loader z (Byte 0x01)) (cond t (outcome loader z (Byte fault)) (obeyed_of loader z password core)))
          → Alike (cond s (outcome loader z (Byte 0x01)) (cond t (outcome loader z (Byte fault)) (obeyed_of loader z password core)))
          (cond s (outcome loader f (Byte 0x01)) (cond t (outcome loader f (Byte fault)) (obeyed_of loader f password core)))
          (cond s (outcome loader r (Byte 0x01)) (cond t (outcome loader r (Byte fault)) (obeyed_of loader r password core)))
      go true t ok = absurd (false≢true ok)
      go false true ok = absurd (false≢true ok)
      go false false ok = obeyed-alike password core equal ok

-- ---- starting the firmware

-- a packet that starts it: its core begins with 0x27, the mode was unlocked and is application, and the region is as it was; any other leaves a loader mode, and where its core begins with 0x27 it is no success
pub data Kind (loader : Loader) (region packet : List ℕ) (o : Outcome) : Type 0 where
  start : begins_start packet ≡ true → is_unlocked loader.mode ≡ true → is_application o.loader.mode ≡ true → o.region ≡ region → Kind loader region packet o
  other : is_application o.loader.mode ≡ false → (Ok o → begins_start packet ≡ false) → Kind loader region packet o

-- a core with another code
other-code : (core : List ℕ) (code : ℕ) → get_or core 0 0 ≡ code → eqb code 0x27 ≡ false → eqb (get_or core 0 0) 0x27 ≡ false
other-code core code e n = ap (λ (b : ℕ). eqb b 0x27) e ∙ n

module _ (loader : Loader) (region password packet : List ℕ) (inloader : is_application loader.mode ≡ false) where
  abbrev core : List ℕ
  core = core_of packet

  -- what is no success and leaves the state
  refuses : (o : Outcome) → succeeded_of o.reply ≡ false → o.loader ≡ loader → Kind loader region packet o
  refuses o failed kept = other (rw kept inloader) (λ ok. absurd (false≢true (sym failed ∙ ok)))

  -- a command that is no start
  no_start : (o : Outcome) (code : ℕ) → is_application o.loader.mode ≡ false → get_or core 0 0 ≡ code → eqb code 0x27 ≡ false → Kind loader region packet o
  no_start o code mode begins another = other mode (λ ok. other-code core code begins another)

  done-kind : (c : Command) → RowOf c core → wants_unlocked c && not (is_unlocked loader.mode) ≡ false → Kind loader region packet (done_of c loader region password core)
  unfolding done_of password_of write_done range_done start_of
  done-kind Password row unheld =
      on-cond (Kind loader region packet) (same (drop 1 core) password) _ _
      (λ e. no_start (outcome (in_mode Unlocked loader) region (Message 0x00)) 0x21 refl row.begins refl)
      (λ e. refuses (outcome loader region (Message 0x05)) refl refl)
  done-kind Erase row unheld = no_start _ 0x15 inloader row.begins refl
  done-kind Write row unheld = no_start _ 0x20 inloader row.begins refl
  done-kind RangeChecksum row unheld = no_start _ 0x26 inloader row.begins refl
  done-kind Start row unheld =
      on-cond (Kind loader region packet) (starts_of (address_of core) loader.expected region) _ _
      (λ e. start (eq-eqb _ _ row.begins) (not-false _ unheld) refl refl)
      (λ e. refuses (outcome loader region (Message 0x01)) refl refl)
  done-kind Unknown row unheld = refuses (outcome loader region (Message 0x07)) refl refl

  obeyed-kind : Kind loader region packet (obeyed_of loader region password core)
  unfolding obeyed_of
  obeyed-kind =
      on-cond (Kind loader region packet) (wants_unlocked (command_of core) && not (is_unlocked loader.mode)) _ _
      (λ e. refuses (outcome loader region (Message 0x04)) refl refl)
      (λ e. done-kind (command_of core) (command-row core) e)

  pub kind : Kind loader region packet (received_of loader region password packet)
  unfolding received_of
  kind =
      on-cond (Kind loader region packet) (same packet (0x31 ∷ [])) _ _
      (λ e. refuses (outcome loader region (Byte 0x01)) refl refl)
      (λ e. on-cond (Kind loader region packet) (not (eqb (acknowledgement_of packet) 0x00)) _ _
      (λ e. refuses (outcome loader region (Byte (acknowledgement_of packet))) refl refl)
      (λ e. obeyed-kind))
