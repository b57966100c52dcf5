-- A region's elements stay bytes: a write takes only what its old bytes allow.
-- Assumes nothing.
use mathlib.Core.Path.{◌≡◌, sym, subst}
use mathlib.Core.Bool.{Bool, true, false, cond, not, ◌&&◌, false≢true}
use mathlib.Core.List.{List, [], ◌∷◌}
use Prim.Native.Nat.{ℕ}
use native.Mathlib.Omega.{arith}
use borrow.Author.Tests.{eqb-true}
use lib.Bits.{bit_and, and_le_l}
use lib.Dec.{eqb}
use lib.ListN.{length, take, drop}
use Rattle.card.specs.Call.{call_of, in_loader}
use Rattle.card.specs.declared.Card.{Card}
use Rattle.card.proofs.Laws.{call-cases}
use Rattle.card.proofs.Mains.{requested}
use Rattle.flash.specs.Flash.{inside, writable, written, write_of, starts_of}
use Rattle.region.specs.Same.{same}
use Rattle.loader.specs.declared.Reply.{Reply}
use Rattle.loader.specs.declared.Reply.TheVariants.{Byte, Message}
use Rattle.little_endian.specs.Bytes.{stored_at}
use Rattle.little_endian.proofs.AllBytes.{AllBytes, bytes_take, bytes_drop, bytes-filled, bytes-stored}
use Rattle.loader.specs.Loader.{Outcome, outcome, done_of, password_of, write_done, range_done, start_of, obeyed_of, received_of, wants_unlocked, is_unlocked}
use Rattle.loader.specs.declared.Loader.{Loader}
use Rattle.packet.specs.Packet.{acknowledgement_of, core_of, command_of, address_of}
use Rattle.packet.specs.declared.Command.{Command}
use Rattle.packet.specs.declared.Command.TheVariants.{Password, Erase, Write, RangeChecksum, Start, Unknown}
use Rattle.test_laws.proofs.Tests.{both, on-cond}

-- what may be written over bytes are bytes
pub writable-bytes : (old new : List ℕ) → AllBytes old → writable old new ≡ true → AllBytes new
unfolding writable
writable-bytes old [] a h = tt
writable-bytes [] (d ∷ new) a h = absurd (false≢true h)
writable-bytes (o ∷ old) (d ∷ new) a h =
    let t = both (eqb d (bit_and o d)) (writable old new) h in
    let is : d ≡ bit_and o d = eqb-true d (bit_and o d) t.0 in
    (omega (arith, is, and_le_l o d, a.0), writable-bytes old new a.1 t.1)

pub write_bytes : (new : List ℕ) (at : ℕ) (region : List ℕ) → AllBytes region → AllBytes (write_of new at region).region
unfolding write_of
write_bytes new at region a =
    let old = take (length new) (drop at region) in
    on-cond (λ w. AllBytes w.region) (inside at (length new) (length region) && writable old new) (written true (stored_at at new region)) (written false region)
    (λ e. (bytes-stored at new region (writable-bytes old new (bytes_take (length new) (drop at region) (bytes_drop at region a)) (both (inside at (length new) (length region)) (writable old new) e).1) a).bytes)
    (λ e. a)

module _ (loader : Loader) (region password : List ℕ) (a : AllBytes region) where
  abbrev Fine : Outcome → Type 0
  Fine o = AllBytes o.region

  -- a choice between two outcomes that leave the region
  either : (t : Bool) (l m : Loader) (x y : Reply) → Fine (cond t (outcome l region x) (outcome m region y))
  either true l m x y = a
  either false l m x y = a

  done-bytes : (c : Command) (core : List ℕ) → Fine (done_of c loader region password core)
  unfolding done_of password_of write_done range_done start_of
  done-bytes Password core = either (same (drop 1 core) password) _ _ _ _
  done-bytes Erase core = bytes-filled (length region) 0xFF (omega arith)
  done-bytes Write core = write_bytes (drop 5 core) (address_of core) region a
  done-bytes RangeChecksum core = a
  done-bytes Start core = either (starts_of (address_of core) loader.expected region) _ _ _ _
  done-bytes Unknown core = a

  obeyed-bytes : (core : List ℕ) → Fine (obeyed_of loader region password core)
  unfolding obeyed_of
  obeyed-bytes core = on-cond Fine (wants_unlocked (command_of core) && not (is_unlocked loader.mode)) (outcome loader region (Message 0x04)) (done_of (command_of core) loader region password core) (λ e. a) (λ e. done-bytes (command_of core) core)

  pub received-bytes : (message : List ℕ) → Fine (received_of loader region password message)
  unfolding received_of
  received-bytes message =
      on-cond Fine (same message (0x31 ∷ [])) (outcome loader region (Byte 0x01)) _ (λ e. a)
      (λ e. on-cond Fine (not (eqb (acknowledgement_of message) 0x00)) (outcome loader region (Byte (acknowledgement_of message))) (obeyed_of loader region password (core_of message)) (λ e. a) (λ e. obeyed-bytes (core_of message)))

loader-bytes : (card : Card) (region password message buffer : List ℕ) → AllBytes region → AllBytes (in_loader card region password message buffer).region
unfolding in_loader
loader-bytes card region password message buffer a = received-bytes card.loader region password a message

pub call-bytes : (card : Card) (size : ℕ) (region password message buffer : List ℕ) → AllBytes region → AllBytes (call_of card size region password message buffer).region
call-bytes card size region password message buffer a =
    call-cases card size region password message buffer (λ r. AllBytes r.region) (λ n. a)
    (λ e fits. subst AllBytes (sym (requested card region message buffer)) a) (λ e fits. loader-bytes card region password message buffer a)
