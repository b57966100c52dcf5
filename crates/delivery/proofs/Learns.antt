-- What a packet that is a success makes known: after it, the bits again say where the runs over zeros and over 0xFF have the same byte.
-- Assumes nothing.
use mathlib.Core.Path.{◌≡◌, refl, ◌∙◌}
use mathlib.Core.Bool.{Bool, true, false, cond, not, ◌&&◌, false≢true}
use mathlib.Core.List.{List, [], ◌∷◌}
use Prim.Native.Nat.{ℕ, ◌+◌, ◌*◌, ◌≤◌}
use borrow.Author.Tests.{leb-true}
use lib.Dec.{eqb}
use lib.ListN.{length, take, drop, replicate, length-replicate}
use Rattle.flash.specs.Flash.{inside, writable, write_of, starts_of}
use Rattle.known_bits.specs.Known.{longest_map, WithRange, Knows}
use Rattle.known_bits.proofs.Laws.{knows-all, knows-written}
use Rattle.little_endian.specs.Bytes.{stored_at}
use Rattle.loader.specs.Loader.{Outcome, outcome, is_unlocked, write_said, password_of, write_done}
use Rattle.loader.specs.Loader.{range_done, start_of, done_of, wants_unlocked, obeyed_of, received_of}
use Rattle.loader.specs.declared.Loader.{Loader}
use Rattle.loader.specs.declared.Reply.TheVariants.{Byte, Message}
use Rattle.packet.specs.Packet.{acknowledgement_of, core_of, command_of, address_of}
use Rattle.packet.specs.declared.Command.{Command}
use Rattle.packet.specs.declared.Command.TheVariants.{Password, Erase, Write, RangeChecksum, Start, Unknown}
use Rattle.region.specs.Same.{same}
use Rattle.test_laws.proofs.Tests.{both, on-cond}
use Rattle.delivery.specs.Beside.{Agree, Learns}
use Rattle.delivery.proofs.Agree.{agree-take, agree-drop, writable_other}
use Rattle.delivery.proofs.Step.{Ok, write_done_lem}

-- the password leaves the region
password-leaves : (loader : Loader) (region password core : List ℕ) → (password_of loader region password core).region ≡ region
unfolding password_of
password-leaves loader region password core =
    on-cond (λ (o : Outcome). o.region ≡ region) (same (drop 1 core) password) _ _ (λ _. refl) (λ _. refl)

-- and so does a start
start-leaves : (loader : Loader) (region core : List ℕ) → (start_of loader region core).region ≡ region
unfolding start_of
start-leaves loader region core =
    on-cond (λ (o : Outcome). o.region ≡ region) (starts_of (address_of core) loader.expected region) _ _ (λ _. refl) (λ _. refl)

module _ (loader : Loader) {z f : List ℕ} (a : Agree z f f) (bits new : List ℕ) (short : length bits ≤ longest_map)
    (k : Knows z f bits) where
  -- what leaves both regions
  leaves : (z' f' : List ℕ) → z' ≡ z → f' ≡ f → new ≡ bits → Knows z' f' new
  leaves z' f' ez ef e = rw (ez, ef, e) k

  erased : new ≡ replicate (length bits) 0xFF → Knows (replicate (length z) 0xFF) (replicate (length f) 0xFF) new
  erased e =
      let long : length {A = ℕ} (replicate (length z) 0xFF) ≡ length bits * 8 = length-replicate {A = ℕ} (length z) 0xFF ∙ k.sized in
      rw (e, k.beside) (knows-all (length bits) (replicate (length z) 0xFF) long)

  put : (data' : List ℕ) (at : ℕ) → Ok (write_said loader (write_of data' at z)) → WithRange at (length data') bits new
      → Knows (write_of data' at z).region (write_of data' at f).region new
  unfolding write_of
  put data' at ok learnt =
      let n = length data' in
      let t = both (inside at n (length z)) (writable (take n (drop at z)) data') (write_done_lem loader a _ (stored_at at data' z) ok) in
      let fits : at + n ≤ length z = leb-true (at + n) (length z) t.0 in
      let part : Agree (take n (drop at z)) (take n (drop at f)) (take n (drop at f)) = agree-take n (agree-drop at a) in
      let may : writable (take n (drop at f)) data' ≡ true = writable_other part data' t.1 in
      rw (k.beside, t.0, t.1, may) (knows-written at data' z f bits new fits (rw k.beside fits) k short learnt)

  done-knows : (c : Command) (password core : List ℕ) → Ok (done_of c loader z password core) → Learns c core bits new
      → Knows (done_of c loader z password core).region (done_of c loader f password core).region new
  unfolding done_of write_done range_done
  done-knows Password password core ok e = leaves _ _ (password-leaves loader z password core) (password-leaves loader f password core) e
  done-knows Erase password core ok e = erased e
  done-knows Write password core ok e = put (drop 5 core) (address_of core) ok e
  done-knows RangeChecksum password core ok e = leaves z f refl refl e
  done-knows Start password core ok e = leaves _ _ (start-leaves loader z core) (start-leaves loader f core) e
  done-knows Unknown password core ok e = leaves z f refl refl e

  obeyed-knows : (password core : List ℕ) → Ok (obeyed_of loader z password core) → Learns (command_of core) core bits new
      → Knows (obeyed_of loader z password core).region (obeyed_of loader f password core).region new
  unfolding obeyed_of
  obeyed-knows password core ok e = go (wants_unlocked (command_of core) && not (is_unlocked loader.mode)) ok
    where
      c : Command
      c = command_of core

      go : (t : Bool) → Ok (cond t (outcome loader z (Message 0x04)) (done_of c loader z password core))
          → Knows (cond t (outcome loader z (Message 0x04)) (done_of c loader z password core)).region
          (cond t (outcome loader f (Message 0x04)) (done_of c loader f password core)).region new
      go true ok = absurd (false≢true ok)
      go false ok = done-knows c password core ok e

  pub received-knows : (password packet : List ℕ) → Ok (received_of loader z password packet)
      → Learns (command_of (core_of packet)) (core_of packet) bits new
      → Knows (received_of loader z password packet).region (received_of loader f password packet).region new
  unfolding received_of
  received-knows password packet ok e = go (same packet (0x31 ∷ [])) (not (eqb (acknowledgement_of packet) 0x00)) ok
    where
      core : List ℕ
      core = core_of packet

      fault : ℕ
      fault = acknowledgement_of packet

      go : (s t : Bool)
          → Ok (cond s (outcome loader z (Byte 0x01)) (cond t (outcome loader z (Byte fault)) (obeyed_of loader z password core)))
          → Knows (cond s (outcome loader z (Byte 0x01)) (cond t (outcome loader z (Byte fault)) (obeyed_of loader z password core))).region
          (cond s (outcome loader f (Byte 0x01)) (cond t (outcome loader f (Byte fault)) (obeyed_of loader f password core))).region new
      go true t ok = absurd (false≢true ok)
      go false true ok = absurd (false≢true ok)
      go false false ok = obeyed-knows password core ok e
