-- The worked numbers of document 01 hold.
-- Assumes nothing.
use mathlib.Core.Path.{refl}
use Rattle.crc.specs.Crc.{register, bit_string, bits_of, bits_in, bit_in, shifted}
use Rattle.little_endian.specs.Bytes.{number_at}
use Rattle.packet.specs.Packet.{acknowledgement_of}
use Rattle.worked.specs.Worked.{AllHold, rows}

pub worked : AllHold rows
unfolding register bit_string bits_of bits_in bit_in shifted number_at acknowledgement_of
worked = (refl, (refl, (refl, (refl, (refl, (refl, (refl, (refl, (refl, (refl, (refl, (refl, tt))))))))))))
