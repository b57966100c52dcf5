-- T-08: two trial runs behind any packets that begin no start. The region over zeros has no byte but zeros until an
-- erase, and behind an erase the two are the same.
-- Assumes nothing.
use mathlib.Core.Path.{◌≡◌, refl, sym, ap, ap₂, ◌∙◌}
use mathlib.Core.Bool.{Bool, true, false, cond, not, ◌&&◌, true≢false, false≢true}
use mathlib.Core.List.{List, [], ◌∷◌}
use Prim.Native.Nat.{ℕ, zero, suc, ◌+◌, ◌-◌, ◌≤◌}
use native.Mathlib.Omega.{arith}
use borrow.Author.Tests.{eqb-true, eq-eqb, leb-true}
use lib.Bits.{bit_and}
use lib.Dec.{eqb}
use lib.ListN.{length, get_or, take, drop, replicate, length-replicate}
use Rattle.flash.specs.Flash.{inside, writable, allows_of, Written, write_of}
use Rattle.flash.proofs.Writing.{write-leaves}
use Rattle.std.proofs.lemmas.List.{take-replicate, drop-replicate}
use Rattle.little_endian.proofs.Stored.{stored_same}
use Rattle.loader.specs.Loader.{Outcome, outcome, is_unlocked, in_mode, wants_unlocked, obeyed_of, received_of}
use Rattle.loader.specs.Loader.{password_of, write_done, range_done, start_of, done_of}
use Rattle.loader.specs.declared.Loader.{Loader}
use Rattle.loader.specs.declared.Mode.TheVariants.{Unlocked}
use Rattle.loader.specs.declared.Reply.TheVariants.{Byte, Message}
use Rattle.packet.specs.Packet.{acknowledgement_of, core_of, command_of, address_of}
use Rattle.packet.specs.declared.Command.{Command}
use Rattle.packet.specs.declared.Command.TheVariants.{Password, Erase, Write, RangeChecksum, Start, Unknown}
use Rattle.packet.proofs.Commands.{command-row}
use Rattle.region.specs.Same.{same}
use Rattle.test_laws.proofs.Tests.{both, on-cond}
use Rattle.delivery.specs.Accepted.{NoStart, AcceptedToo, ZerosDecide}
use Rattle.delivery.specs.Beside.{Agree}
use Rattle.delivery.specs.Check.{Trial, trial, locked, ran_on, behind, begins_start}
use Rattle.delivery.specs.Meaning.{behind_all}
use Rattle.delivery.proofs.Agree.{agree-start}
use Rattle.delivery.proofs.Step.{Ok, is_start, start-code, received-alike}
use Rattle.delivery.proofs.Runs.{compared}

-- ---- writes over zeros

-- so many bytes 0x00
abbrev cleared : ℕ → List ℕ
cleared n = replicate n 0x00

-- over zeros only zeros may be written
zeros-only : (k : ℕ) (new : List ℕ) → writable (cleared k) new ≡ true → new ≡ replicate (length new) 0x00
unfolding writable
zeros-only k [] h = refl
zeros-only zero (d ∷ new) h = absurd (false≢true h)
zeros-only (suc k) (d ∷ new) h =
    let t = both (eqb d (bit_and 0x00 d)) (writable (cleared k) new) h in
    ap₂ ◌∷◌ (eqb-true d 0 t.0) (zeros-only k new t.1)

-- a part of zeros
part-zeros : (at m n : ℕ) → at + m ≤ n → take m (drop at (cleared n)) ≡ cleared m
part-zeros at m n fits = ap (take m) (drop-replicate at n 0x00) ∙ take-replicate m (n - at) 0x00 (omega (arith, fits))

-- a write leaves zeros as they are
write-zeros : (new : List ℕ) (at n : ℕ) → (write_of new at (cleared n)).region ≡ cleared n
unfolding write_of
write-zeros new at n =
    on-cond (λ (w : Written). w.region ≡ cleared n) (allows_of new at (cleared n)) _ _
    (λ allowed.
    let t = both (inside at (length new) (length (cleared n))) (writable (take (length new) (drop at (cleared n))) new) allowed in
    let fits = leb-true (at + length new) (length (cleared n)) t.0 in
    let long : length (cleared n) ≡ n = length-replicate n 0x00 in
    let part = part-zeros at (length new) n (omega (arith, fits, long)) in
    let zeros = zeros-only (length new) new (ap (λ (l : List ℕ). writable l new) (sym part) ∙ t.1) in
    stored_same at new (cleared n) fits (part ∙ sym zeros))
    (λ _. refl)

-- ---- the two runs

-- the one region has no byte but zeros, or the two are the same
data Apart (n : ℕ) (zeros ones : List ℕ) : Type 0 where
  blank : zeros ≡ cleared n → length ones ≡ n → Apart n zeros ones
  alike : zeros ≡ ones → Apart n zeros ones

-- two trial runs in the same state, whose regions are such
record Together (n : ℕ) (zeros ones : Trial) : Type 0 where
  state : ones.loader ≡ zeros.loader
  regions : Apart n zeros.region ones.region

-- a trial run where an outcome left it
abbrev left : Outcome → Trial
left o = trial o.loader o.region

module _ (loader : Loader) (n : ℕ) (z f : List ℕ) (zeros : z ≡ cleared n) (long : length f ≡ n) where
  -- both regions stay
  stay : (next : Loader) → Together n (trial next z) (trial next f)
  stay next = record { state = refl; regions = blank zeros long }

  password-together : (t : Bool)
      → Together n (left (cond t (outcome (in_mode Unlocked loader) z (Message 0x00)) (outcome loader z (Message 0x05))))
      (left (cond t (outcome (in_mode Unlocked loader) f (Message 0x00)) (outcome loader f (Message 0x05))))
  password-together true = stay (in_mode Unlocked loader)
  password-together false = stay loader

  done-together : (c : Command) (password core : List ℕ) → is_start c ≡ false
      → Together n (left (done_of c loader z password core)) (left (done_of c loader f password core))
  unfolding done_of password_of write_done range_done start_of
  done-together Password password core other = password-together (same (drop 1 core) password)
  done-together Erase password core other =
      record { state = refl; regions = alike (ap (λ (k : ℕ). replicate k 0xFF) (ap length zeros ∙ length-replicate n 0x00 ∙ sym long)) }
  done-together Write password core other =
      let new = drop 5 core in
      let at = address_of core in
      record {
        state = refl;
        regions = blank (ap (λ (l : List ℕ). (write_of new at l).region) zeros ∙ write-zeros new at n) ((write-leaves new at f).long ∙ long);
      }
  done-together RangeChecksum password core other = stay loader
  done-together Start password core other = absurd (true≢false other)
  done-together Unknown password core other = stay loader

  obeyed-together : (password core : List ℕ) → eqb (get_or core 0 0) 0x27 ≡ false
      → Together n (left (obeyed_of loader z password core)) (left (obeyed_of loader f password core))
  unfolding obeyed_of
  obeyed-together password core other = go (wants_unlocked c && not (is_unlocked loader.mode))
    where
      c : Command
      c = command_of core

      no_start : (t : Bool) → is_start c ≡ t → t ≡ false
      no_start true e = absurd (true≢false (sym (eq-eqb _ _ (start-code core c (command-row core) e)) ∙ other))
      no_start false e = refl

      go : (t : Bool) → Together n (left (cond t (outcome loader z (Message 0x04)) (done_of c loader z password core)))
          (left (cond t (outcome loader f (Message 0x04)) (done_of c loader f password core)))
      go true = stay loader
      go false = done-together c password core (no_start (is_start c) refl)

  received-together : (password packet : List ℕ) → begins_start packet ≡ false
      → Together n (left (received_of loader z password packet)) (left (received_of loader f password packet))
  unfolding received_of
  received-together password packet other = go (same packet (0x31 ∷ [])) (not (eqb (acknowledgement_of packet) 0x00))
    where
      core : List ℕ
      core = core_of packet

      fault : ℕ
      fault = acknowledgement_of packet

      go : (s t : Bool) → Together n
          (left (cond s (outcome loader z (Byte 0x01)) (cond t (outcome loader z (Byte fault)) (obeyed_of loader z password core))))
          (left (cond s (outcome loader f (Byte 0x01)) (cond t (outcome loader f (Byte fault)) (obeyed_of loader f password core))))
      go true t = stay loader
      go false true = stay loader
      go false false = obeyed-together password core other

module _ (password : List ℕ) (n : ℕ) where
  -- one packet more, accepted or refused
  one-together : (packet : List ℕ) (zeros ones : Trial) → begins_start packet ≡ false → Together n zeros ones
      → Together n (behind password packet zeros) (behind password packet ones)
  one-together packet zeros ones other t = by-regions t.regions
    where
      by-regions : Apart n zeros.region ones.region → Together n (behind password packet zeros) (behind password packet ones)
      by-regions (blank e long) =
          rw t.state (received-together zeros.loader n zeros.region ones.region e long password packet other)
      by-regions (alike e) = rw (t.state, e) (record { state = refl; regions = alike refl })

  all-together : (packets : List (List ℕ)) (zeros ones : Trial) → NoStart packets → Together n zeros ones
      → Together n (behind_all password packets zeros) (behind_all password packets ones)
  all-together [] zeros ones none t = t
  all-together (packet ∷ packets) zeros ones none t =
      all-together packets (behind password packet zeros) (behind password packet ones) none.1
      (one-together packet zeros ones none.0 t)

  -- what is accepted over zeros is accepted over 0xFF
  accepted-too : (picture packet : List ℕ) (zeros ones : Trial) → Together n zeros ones → AcceptedToo password picture packet zeros ones
  accepted-too picture packet zeros ones t tested ok = by-regions (begins_start packet) refl t.regions
    where
      same_region : zeros.region ≡ ones.region → Ok (ran_on password packet ones)
      same_region e = rw (t.state, ← e) ok

      by-regions : (s : Bool) → begins_start packet ≡ s → Apart n zeros.region ones.region → Ok (ran_on password packet ones)
      by-regions s begins (alike e) = same_region e
      by-regions true begins (blank e long) =
          let p = compared (begins_start packet) zeros.region ones.region picture tested begins in
          same_region (p.0 ∙ sym p.1)
      by-regions false begins (blank e long) =
          let a : Agree zeros.region (replicate n 0xFF) ones.region = rw e (agree-start n ones.region long) in
          rw t.state (received-alike zeros.loader a password packet (λ s. absurd (true≢false (sym s ∙ begins))) ok).ok

pub zeros-decide : ZerosDecide
zeros-decide password picture packet expected n packets none =
    let zeros = trial (locked expected) (replicate n 0x00) in
    let ones = trial (locked expected) (replicate n 0xFF) in
    accepted-too password n picture packet (behind_all password packets zeros) (behind_all password packets ones)
    (all-together password n packets zeros ones none (record { state = refl; regions = blank refl (length-replicate n 0xFF) }))
