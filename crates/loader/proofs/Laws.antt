-- Laws of a message in the loader modes: the region keeps its length, and what is no success leaves state and region.
-- Assumes nothing.
use mathlib.Core.Path.{◌≡◌, refl, sym, ◌∙◌}
use mathlib.Core.Bool.{Bool, true, false, false≢true, cond, not, ◌&&◌}
use mathlib.Core.List.{List, [], ◌∷◌}
use Prim.Native.Nat.{ℕ}
use lib.Dec.{eqb}
use lib.ListN.{length, drop, length-replicate}
use Rattle.flash.specs.Flash.{Written, write_of, starts_of}
use Rattle.flash.proofs.Writing.{Leaves, write-leaves}
use Rattle.packet.specs.Packet.{acknowledgement_of, core_of, command_of, address_of}
use Rattle.packet.specs.declared.Command.{Command}
use Rattle.packet.specs.declared.Command.TheVariants.{Password, Erase, Write, RangeChecksum, Start, Unknown}
use Rattle.region.specs.Same.{same}
use Rattle.test_laws.proofs.Tests.{on-cond}
use Rattle.loader.specs.Loader.{Outcome, outcome, is_unlocked, wants_unlocked, in_mode, succeeded_of, write_said, password_of, erase_of, write_done, range_done, start_of, done_of, obeyed_of, received_of}
use Rattle.loader.specs.declared.Loader.{Loader}
use Rattle.loader.specs.declared.Mode.TheVariants.{Application, Unlocked}
use Rattle.loader.specs.declared.Reply.{Reply}
use Rattle.loader.specs.declared.Reply.TheVariants.{Nothing, Byte, Message}

-- what holds of every outcome
pub record Keeps (loader : Loader) (region : List ℕ) (o : Outcome) : Type 0 where
  -- the region's length never changes
  pub long : length o.region ≡ length region
  -- the expected checksum never changes
  pub expects : o.loader.expected ≡ loader.expected
  -- what is no success leaves the state
  pub state-kept : succeeded_of o.reply ≡ false → o.loader ≡ loader
  -- and the region
  pub region-kept : succeeded_of o.reply ≡ false → o.region ≡ region

-- a write's message is no success only if it was not done
not_done : (done : Bool) → succeeded_of (Message (cond done 0x00 0x01)) ≡ false → done ≡ false
not_done true e = absurd (false≢true (sym e))
not_done false e = refl

module _ (loader : Loader) (region : List ℕ) where
  -- an outcome that changes nothing
  unchanged : (reply : Reply) → Keeps loader region (outcome loader region reply)
  unchanged reply = record { long = refl; expects = refl; state-kept = λ e. refl; region-kept = λ e. refl }

  -- an outcome that is a success
  success : (o : Outcome) → length o.region ≡ length region → o.loader.expected ≡ loader.expected → succeeded_of o.reply ≡ true → Keeps loader region o
  success o long expects did =
      record { long = long; expects = expects; state-kept = λ not. absurd (false≢true (sym not ∙ did)); region-kept = λ not. absurd (false≢true (sym not ∙ did)) }

  write-said : (w : Written) → Leaves region w → Keeps loader region (write_said loader w)
  write-said w l = record { long = l.long; expects = refl; state-kept = λ e. refl; region-kept = λ e. l.kept (not_done w.done e) }

  done-keeps : (command : Command) (password core : List ℕ) → Keeps loader region (done_of command loader region password core)
  unfolding done_of password_of write_done range_done start_of
  done-keeps Password password core =
      on-cond (Keeps loader region) (same (drop 1 core) password) _ _
      (λ e. success (outcome (in_mode Unlocked loader) region (Message 0x00)) refl refl refl) (λ e. unchanged (Message 0x05))
  done-keeps Erase password core = success (erase_of loader region) (length-replicate (length region) 0xFF) refl refl
  done-keeps Write password core = write-said (write_of (drop 5 core) (address_of core) region) (write-leaves (drop 5 core) (address_of core) region)
  done-keeps RangeChecksum password core = unchanged _
  done-keeps Start password core =
      on-cond (Keeps loader region) (starts_of (address_of core) loader.expected region) _ _
      (λ e. success (outcome (in_mode Application loader) region Nothing) refl refl refl) (λ e. unchanged (Message 0x01))
  done-keeps Unknown password core = unchanged (Message 0x07)

  obeyed-keeps : (password core : List ℕ) → Keeps loader region (obeyed_of loader region password core)
  unfolding obeyed_of
  obeyed-keeps password core =
      on-cond (Keeps loader region) (wants_unlocked (command_of core) && not (is_unlocked loader.mode))
      (outcome loader region (Message 0x04)) (done_of (command_of core) loader region password core)
      (λ e. unchanged (Message 0x04)) (λ e. done-keeps (command_of core) password core)

  judged-keeps : (password message : List ℕ)
      → Keeps loader region (cond (not (eqb (acknowledgement_of message) 0x00)) (outcome loader region (Byte (acknowledgement_of message))) (obeyed_of loader region password (core_of message)))
  judged-keeps password message =
      on-cond (Keeps loader region) (not (eqb (acknowledgement_of message) 0x00))
      (outcome loader region (Byte (acknowledgement_of message))) (obeyed_of loader region password (core_of message))
      (λ e. unchanged (Byte (acknowledgement_of message))) (λ e. obeyed-keeps password (core_of message))

  pub receive-keeps : (password message : List ℕ) → Keeps loader region (received_of loader region password message)
  unfolding received_of
  receive-keeps password message =
      on-cond (Keeps loader region) (same message (0x31 ∷ [])) (outcome loader region (Byte 0x01)) _
      (λ e. unchanged (Byte 0x01)) (λ e. judged-keeps password message)
