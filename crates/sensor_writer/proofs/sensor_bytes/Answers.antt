-- `sensor_writer::sensor_bytes` meets its contract: the stores are computed.
-- Assumes nothing.
use Rattle.std.proofs.Common.{rules}
use Rattle.little_endian.specs.Bytes.{stored_at}
use Rattle.sensor_values.specs.Layout.{input_bytes, sensor_bytes}
use Rattle.sensor_writer.proofs.sensor_bytes.Goals as goal

pub returns : goal.returns
unfolding sensor_bytes input_bytes stored_at
returns c = search rules
