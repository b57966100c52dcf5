-- `crc::checksum` meets its contract: the bytes left, from the register so far, give the register behind all of them.
-- Assumes nothing.
use mathlib.Core.Path.{◌≡◌}
use lib.ListN.{drop}
use Rattle.crc.specs.Crc.{register_of}
use Rattle.crc.proofs.checksum.Given as goal

abbrev pub invariant-loop-byte : goal.invariant-loop-byte
invariant-loop-byte l = register_of l.r (drop l.byte-index l.bytes) ≡ register_of l.start l.bytes
