-- What a power cut leaves of a message's work, and a restart (document 02, T-07).
-- Assumes nothing.
use Rattle.std.specs.Prelude.{cond, List, ℕ, ◌*◌, ◌/◌, eqb, length, take, drop, replicate}
use Rattle.crc.specs.Crc.{checksum_of}
use Rattle.little_endian.specs.Bytes.{stored_at}
use Rattle.packet.specs.Packet.{core_of, command_of, address_of}
use Rattle.packet.specs.declared.Command.{Command}
use Rattle.packet.specs.declared.Command.TheVariants.{Password, Erase, Write, RangeChecksum, Start, Unknown}
use Rattle.loader.specs.Loader.{Outcome, in_mode, received_of, succeeded_of}
use Rattle.loader.specs.declared.Loader.{Loader}
use Rattle.loader.specs.declared.Mode.TheVariants.{Application, Locked}

-- the work of a command that is done, over a region of so many bytes: the number of data bytes of a write, the number of
-- blocks of 4,096 of an erase, of any other 0
unfoldable pub command_work : Command → (core : List ℕ) → (size : ℕ) → ℕ
command_work Password core size = 0
command_work Erase core size = size / 4096
command_work Write core size = length (drop 5 core)
command_work RangeChecksum core size = 0
command_work Start core size = 0
command_work Unknown core size = 0

-- the work of a command, by its outcome: one that is no success has none
abbrev pub work_by : Command → (core region : List ℕ) → Outcome → ℕ
work_by command core region o = cond (succeeded_of o.reply) (command_work command core (length region)) 0

-- the work of a message, the last place at which it can be cut; one that would be refused can only be cut before it, at 0
unfoldable pub work_of : Loader → (region password message : List ℕ) → ℕ
work_of loader region password message =
    work_by (command_of (core_of message)) (core_of message) region (received_of loader region password message)

-- what so much of a command's work leaves: the first new bytes in address order, or the first blocks at 0xFF, and the old bytes after
unfoldable pub left_by : Command → (core : List ℕ) → (place : ℕ) → (region : List ℕ) → List ℕ
left_by Password core place region = region
left_by Erase core place region = stored_at 0 (replicate (place * 4096) 0xFF) region
left_by Write core place region = stored_at (address_of core) (take place (drop 5 core)) region
left_by RangeChecksum core place region = region
left_by Start core place region = region
left_by Unknown core place region = region

-- the region that is left when a message is cut at a place of its work; whether the place is one is not judged here
abbrev pub left_of : (message : List ℕ) → (place : ℕ) → (region : List ℕ) → List ℕ
left_of message place region = left_by (command_of (core_of message)) (core_of message) place region

-- a restart: application if the region's checksum is the expected one, otherwise locked; the rest of the state stays
unfoldable pub restarted_of : Loader → (region : List ℕ) → Loader
restarted_of loader region = in_mode (cond (eqb (checksum_of region) loader.expected) Application Locked) loader
