-- `number_at` of `u64` meets its contract: the bytes from the place on, each by its worth.
-- Assumes nothing.
use native.Mathlib.Omega.{arith}
use Rattle.little_endian.specs.Bytes.{number_at}
use Rattle.little_endian.proofs.U64Number.number_at.Goals as goal

pub returns : goal.returns
unfolding number_at
returns c = omega (arith, rw c.array_at.ensures at c.from_le_bytes.ensures)
