-- What a message does in the loader modes (document 01, "The loader").
-- Assumes nothing.
use Rattle.std.specs.Prelude.{Bool, true, false, cond, not, ◌&&◌, Option, Some, None, List, [], ◌∷◌, ℕ, eqb, length, drop, replicate}
use Rattle.flash.specs.Flash.{Written, write_of, range_of, starts_of}
use Rattle.packet.specs.Packet.{acknowledgement_of, core_of, command_of, address_of, range_length_of}
use Rattle.packet.specs.declared.Command.{Command}
use Rattle.packet.specs.declared.Command.TheVariants.{Password, Erase, Write, RangeChecksum, Start, Unknown}
use Rattle.region.specs.Same.{same}
use Rattle.loader.specs.declared.Loader.{Loader}
use Rattle.loader.specs.declared.Mode.{Mode}
use Rattle.loader.specs.declared.Mode.TheVariants.{Application, Locked, Unlocked}
use Rattle.loader.specs.declared.Reply.{Reply}
use Rattle.loader.specs.declared.Reply.TheVariants.{Nothing, Byte, Message, Data}

-- what a message leaves of the loader's part of the state and of the region, and the reply to it
pub record Outcome : Type 0 where
  pub loader : Loader
  pub region : List ℕ
  pub reply : Reply

-- the three together
abbrev pub outcome : Loader → List ℕ → Reply → Outcome
outcome loader region reply = record { loader = loader; region = region; reply = reply }

-- the mode is application
abbrev pub is_application : Mode → Bool
is_application Application = true
is_application Locked = false
is_application Unlocked = false

-- the mode is loader unlocked
abbrev pub is_unlocked : Mode → Bool
is_unlocked Application = false
is_unlocked Locked = false
is_unlocked Unlocked = true

-- the loader's part of the state in another mode
abbrev pub in_mode : Mode → Loader → Loader
in_mode mode loader = record { mode = mode; expected = loader.expected }

-- password: mode becomes unlocked, message 0; a wrong one is 0x05, and the mode stays
unfoldable pub password_of : Loader → List ℕ → List ℕ → List ℕ → Outcome
password_of loader region password core =
    cond (same (drop 1 core) password)
    (outcome (in_mode Unlocked loader) region (Message 0x00))
    (outcome loader region (Message 0x05))

-- erase: all bytes become 0xFF, message 0
abbrev pub erase_of : Loader → List ℕ → Outcome
erase_of loader region = outcome loader (replicate (length region) 0xFF) (Message 0x00)

-- the outcome of a write that was done or not: message 0, or message 0x01
abbrev pub write_said : Loader → Written → Outcome
write_said loader w = outcome loader w.region (Message (cond w.done 0x00 0x01))

-- write: the data bytes at the address
unfoldable pub write_done : Loader → List ℕ → List ℕ → Outcome
write_done loader region core = write_said loader (write_of (drop 5 core) (address_of core) region)

-- the reply to a range checksum: the checksum, or message 0x01
abbrev pub range_reply : Option ℕ → Reply
range_reply None = Message 0x01
range_reply (Some sum) = Data sum

-- range checksum: of so many bytes from the address on
unfoldable pub range_done : Loader → List ℕ → List ℕ → Outcome
range_done loader region core = outcome loader region (range_reply (range_of (address_of core) (range_length_of core) region))

-- start: mode becomes application and no byte is answered, or message 0x01
unfoldable pub start_of : Loader → List ℕ → List ℕ → Outcome
start_of loader region core =
    cond (starts_of (address_of core) loader.expected region)
    (outcome (in_mode Application loader) region Nothing)
    (outcome loader region (Message 0x01))

-- a command that the lock does not hold back; an unknown one, or one of wrong core length, is 0x07
unfoldable pub done_of : Command → Loader → List ℕ → List ℕ → List ℕ → Outcome
done_of Password loader region password core = password_of loader region password core
done_of Erase loader region password core = erase_of loader region
done_of Write loader region password core = write_done loader region core
done_of RangeChecksum loader region password core = range_done loader region core
done_of Start loader region password core = start_of loader region core
done_of Unknown loader region password core = outcome loader region (Message 0x07)

-- the commands that a locked loader holds back: the known ones but the password
abbrev pub wants_unlocked : Command → Bool
wants_unlocked Password = false
wants_unlocked Erase = true
wants_unlocked Write = true
wants_unlocked RangeChecksum = true
wants_unlocked Start = true
wants_unlocked Unknown = false

-- the core of a packet: locked and not the password command is 0x04
unfoldable pub obeyed_of : Loader → List ℕ → List ℕ → List ℕ → Outcome
obeyed_of loader region password core =
    cond (wants_unlocked (command_of core) && not (is_unlocked loader.mode))
    (outcome loader region (Message 0x04))
    (done_of (command_of core) loader region password core)

-- a message: 0x31 alone is answered 0x01; else the first fault; else the packet's core is obeyed
unfoldable pub received_of : Loader → List ℕ → List ℕ → List ℕ → Outcome
received_of loader region password message =
    cond (same message (0x31 ∷ [])) (outcome loader region (Byte 0x01))
    (cond (not (eqb (acknowledgement_of message) 0x00)) (outcome loader region (Byte (acknowledgement_of message)))
    (obeyed_of loader region password (core_of message)))

-- document 01's success: message 0, a data reply, or a start that ends in application, which alone answers no byte
abbrev pub succeeded_of : Reply → Bool
succeeded_of Nothing = true
succeeded_of (Byte b) = false
succeeded_of (Message m) = eqb m 0
succeeded_of (Data sum) = true
