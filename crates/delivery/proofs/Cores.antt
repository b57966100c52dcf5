-- What an unlocked loader makes of the packets of the page's own scripts, and a locked one of the first.
-- Assumes nothing.
use mathlib.Core.Path.{◌≡◌, refl, ◌∙◌}
use mathlib.Core.Bool.{true, false}
use mathlib.Core.List.{List, [], ◌∷◌, ◌++◌}
use Prim.Native.Nat.{ℕ, suc, ◌+◌, ◌<◌, ◌≤◌}
use native.Mathlib.Omega.{arith}
use borrow.Author.Tests.{eq-eqb, le-leb, lt-ltb}
use lib.ListN.{length, take, drop, replicate}
use Rattle.crc.specs.Crc.{checksum_of}
use Rattle.flash.specs.Flash.{writable, write_of, range_of, starts_of}
use Rattle.little_endian.specs.Bytes.{number_at, little_endian, stored_at}
use Rattle.loader.specs.Loader.{outcome, in_mode, password_of, write_done, range_done, start_of, done_of, obeyed_of, received_of}
use Rattle.loader.specs.declared.Loader.{Loader}
use Rattle.loader.specs.declared.Mode.TheVariants.{Application, Unlocked}
use Rattle.loader.specs.declared.Reply.TheVariants.{Nothing, Message, Data}
use Rattle.packet.specs.Packet.{packet_of, longest_core, in_row, command_of, address_of, range_length_of}
use Rattle.packet.specs.declared.Command.TheVariants.{Write}
use Rattle.packet.proofs.Written.{core-again, no-fault}
use Rattle.region.specs.Same.{same}
use Rattle.region.proofs.Sames.{same_true}
use Rattle.script.specs.Page.{addressed, write_core, Range, range_core}

-- a packet is not the single byte 0x31
no-status : (core : List ℕ) → same (packet_of core) (0x31 ∷ []) ≡ false
unfolding same packet_of
no-status core = refl

-- the packet around a core brings the core to the loader
packet-obeyed : (loader : Loader) (region password core : List ℕ) → 1 ≤ length core → length core ≤ longest_core
    → received_of loader region password (packet_of core) ≡ obeyed_of loader region password core
unfolding received_of
packet-obeyed loader region password core some small = rw (no-status core, no-fault core some small, core-again core (omega arith)) refl

-- an address is read back from a core
address-again : (code a : ℕ) (bytes : List ℕ) → a < 4294967296 → address_of (addressed code a ++ bytes) ≡ a
unfolding number_at
address-again code a bytes small = omega arith

-- so is the length of a range
count-again : (r : Range) → r.count < 65536 → range_length_of (range_core r) ≡ r.count
unfolding number_at
count-again r short = omega arith

-- the core of a write with 1 to 256 bytes is a write's
write-command : (a : ℕ) (new : List ℕ) → 1 ≤ length new → length new ≤ 256 → command_of (write_core a new) ≡ Write
unfolding command_of in_row
write-command a new some few =
    let n = suc (suc (suc (suc (suc (length new))))) in
    rw (le-leb 6 n (omega arith), le-leb n 261 (omega arith)) refl

-- an unlocked loader that expects a checksum
abbrev pub unlocked : ℕ → Loader
unlocked expected = record { mode = Unlocked; expected = expected }

module _ (expected : ℕ) (region password : List ℕ) where
  pub sent-password : (loader : Loader) → loader.expected ≡ expected → length password ≡ 256
      → received_of loader region password (packet_of (0x21 ∷ password)) ≡ outcome (unlocked expected) region (Message 0x00)
  unfolding obeyed_of done_of password_of command_of in_row
  sent-password loader e wide =
      packet-obeyed loader region password (0x21 ∷ password) (omega arith) (omega arith)
      ∙ rw (wide, same_true password password refl, e) refl

  pub sent-erase : received_of (unlocked expected) region password (packet_of (0x15 ∷ [])) ≡ outcome (unlocked expected) (replicate (length region) 0xFF) (Message 0x00)
  unfolding obeyed_of done_of command_of in_row
  sent-erase = packet-obeyed (unlocked expected) region password (0x15 ∷ []) (omega arith) (omega arith)

  pub sent-write : (a : ℕ) (new : List ℕ) → a < 4294967296 → 1 ≤ length new → length new ≤ 256 → a + length new ≤ length region
      → writable (take (length new) (drop a region)) new ≡ true
      → received_of (unlocked expected) region password (packet_of (write_core a new)) ≡ outcome (unlocked expected) (stored_at a new region) (Message 0x00)
  unfolding obeyed_of done_of write_done write_of
  sent-write a new small some few fits may =
      packet-obeyed (unlocked expected) region password (write_core a new) (omega arith) (omega arith)
      ∙ rw (write-command a new some few, address-again 0x20 a new small, le-leb (a + length new) (length region) fits, may) refl

  pub sent-range : (r : Range) → r.address < 4294967296 → r.count < 65536 → r.address + r.count ≤ length region
      → received_of (unlocked expected) region password (packet_of (range_core r)) ≡ outcome (unlocked expected) region (Data (checksum_of (take r.count (drop r.address region))))
  unfolding obeyed_of done_of range_done range_of command_of in_row
  sent-range r small short fits =
      packet-obeyed (unlocked expected) region password (range_core r) (omega arith) (omega arith)
      ∙ rw (address-again 0x26 r.address (little_endian 2 r.count) small, count-again r short, le-leb (r.address + r.count) (length region) fits) refl

  pub sent-start : (a : ℕ) → a < 4294967296 → a < length region → checksum_of region ≡ expected
      → received_of (unlocked expected) region password (packet_of (addressed 0x27 a)) ≡ outcome (in_mode Application (unlocked expected)) region Nothing
  unfolding obeyed_of done_of start_of starts_of command_of in_row
  sent-start a small inside sum =
      packet-obeyed (unlocked expected) region password (addressed 0x27 a) (omega arith) (omega arith)
      ∙ rw (address-again 0x27 a [] small, lt-ltb a (length region) inside, eq-eqb (checksum_of region) expected sum) refl
