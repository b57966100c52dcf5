-- `crc::bit_in` meets its contract, by what `shift` ensures.
-- Assumes nothing.
use Rattle.crc.specs.Crc.{bit_in}
use Rattle.crc.proofs.bit_in.Goals as goal

pub returns : goal.returns
unfolding bit_in
returns c = c.shift.ensures
