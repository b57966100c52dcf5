-- The sensor record that 64 bytes hold, by the offsets and bits of source document 004, and the bytes that keep the rule.
-- Assumes nothing.
use Rattle.std.specs.Prelude.{Bool, true, ◌&&◌, List, [], ◌∷◌, ◌≡◌, ℕ, ◌+◌, ◌-◌, ◌/◌, ◌%◌, ◌^◌, eqb, length, get_or}
use Rattle.little_endian.specs.Bytes.{number_at}
use Rattle.temperature.specs.Temperature.{temperature_of}
use Rattle.sensor_values.specs.Layout.{bytes_of}
use Rattle.sensor_values.specs.Rule.{zeros, sound}
use Rattle.sensor_values.specs.declared.BoardStatus.{BoardStatus}
use Rattle.sensor_values.specs.declared.FlashControl.{FlashControl}
use Rattle.sensor_values.specs.declared.SecurityStatus.{SecurityStatus}
use Rattle.sensor_values.specs.declared.InputSensor.{InputSensor}
use Rattle.sensor_values.specs.declared.BoardSensors.{BoardSensors}
use Rattle.sensor_values.specs.declared.DeviceStatus.{DeviceStatus}
use Rattle.sensor_values.specs.declared.ErrorCounters.{ErrorCounters}
use Rattle.sensor_values.specs.declared.Device.{Device}
use Rattle.sensor_values.specs.declared.ModuleStatus.{ModuleStatus}
use Rattle.sensor_values.specs.declared.NetworkModule.{NetworkModule}
use Rattle.sensor_values.specs.declared.SensorRecord.{SensorRecord}

-- some bits of a number, named as source document 004 does: the highest, then the lowest
infixl 70 ◌bits◌to◌
abbrev pub ◌bits◌to◌ : ℕ → ℕ → ℕ → ℕ
◌bits◌to◌ n high low = n / 2 ^ low % 2 ^ (high - low + 1)

-- one bit of a number
infixl 70 ◌bit◌
abbrev pub ◌bit◌ : ℕ → ℕ → ℕ
◌bit◌ n place = n bits place to place

-- board status information
unfoldable pub status_of : ℕ → BoardStatus
status_of n = record {
  tcrit = n bits 3 to 0;
  power_good = n bits 7 to 4;
  twarn = n bits 11 to 8;
  hbm_cattrip = n bits 15 to 12;
  module0_present = n bit 16;
  module1_present = n bit 17;
  aux_cable = n bit 18;
  flash_writes = n bits 26 to 19;
}

-- the control of a flash, from a bit up: recovery, two bits of mode, write enable
abbrev pub flash_of : ℕ → ℕ → FlashControl
flash_of low n = record { recovery = n bit low; mode = n bits (low + 2) to (low + 1); write_enable = n bit (low + 3) }

-- board security status information
unfoldable pub security_of : ℕ → SecurityStatus
security_of n = record {
  spi_device = n bit 0;
  flash1 = flash_of 1 n;
  flash2 = flash_of 6 n;
  authentication = n bits 14 to 11;
  jtag = n bit 15;
}

-- a device's status information
unfoldable pub device_status_of : ℕ → DeviceStatus
device_status_of n = record {
  done = n bit 0;
  init_b = n bit 1;
  error_out = n bit 2;
  error_status = n bit 3;
  keep_alive = n bits 7 to 4;
}

-- a network module's status
unfoldable pub module_status_of : ℕ → ModuleStatus
module_status_of n = record {
  present = n bit 0;
  interrupt = n bit 1;
  low_power = n bit 2;
  rate_select = n bits 6 to 3;
  rx_loss = n bits 8 to 7;
  tx_disable = n bits 10 to 9;
  tx_fault = n bits 12 to 11;
  power_enable = n bit 13;
  over_current = n bit 14;
}

-- the input sensor at an offset
unfoldable pub input_of : ℕ → List ℕ → InputSensor
input_of at b = record { current = number_at 2 at b; voltage = number_at 2 (at + 2) b }

-- the board's sensors
unfoldable pub sensors_of : List ℕ → BoardSensors
sensors_of b = record {
  inlet = temperature_of (get_or b 8 0);
  outlet = temperature_of (get_or b 9 0);
  input_3v3 = input_of 10 b;
  input_12v = input_of 14 b;
  input_aux = input_of 18 b;
  total_power = number_at 2 22 b;
}

-- a device's advanced error counters at an offset
unfoldable pub errors_of : ℕ → List ℕ → ErrorCounters
errors_of at b = record {
  ddr_uncorrectable = number_at 2 at b;
  ddr_correctable = number_at 2 (at + 2) b;
  pcie_uncorrectable = number_at 2 (at + 4) b;
  pcie_correctable = number_at 4 (at + 6) b;
}

-- the device at an offset
unfoldable pub device_of : ℕ → List ℕ → Device
device_of at b = record {
  status = device_status_of (get_or b at 0);
  fpga_temperature = temperature_of (get_or b (at + 1) 0);
  hbm_temperature = temperature_of (get_or b (at + 2) 0);
  errors = errors_of (at + 3) b;
}

-- the network module at an offset
unfoldable pub module_of : ℕ → List ℕ → NetworkModule
module_of at b = record { temperature = temperature_of (get_or b at 0); status = module_status_of (number_at 2 (at + 1) b) }

-- the record in 64 bytes
unfoldable pub record_of : List ℕ → SensorRecord
record_of b = record {
  status = status_of (number_at 4 0 b);
  security = security_of (number_at 4 4 b);
  sensors = sensors_of b;
  device1 = device_of 24 b;
  device2 = device_of 37 b;
  module0 = module_of 50 b;
  module1 = module_of 53 b;
}

-- the reserved bits: of both status words of the board, of the two modules' status, and the last 8 bytes
abbrev pub reserved : List ℕ → List ℕ
reserved b =
    number_at 4 0 b bits 31 to 27 ∷ number_at 4 4 b bit 5 ∷ number_at 4 4 b bit 10 ∷ number_at 4 4 b bits 31 to 16
    ∷ number_at 2 51 b bit 15 ∷ number_at 2 54 b bit 15 ∷ number_at 4 56 b ∷ number_at 4 60 b ∷ []

-- every reserved bit is 0
unfoldable pub reserved_zero : List ℕ → Bool
reserved_zero b = zeros (reserved b)

-- 64 bytes that keep document 01's rule
unfoldable pub sound_bytes : List ℕ → Bool
sound_bytes b = eqb (length b) 64 && (reserved_zero b && sound (record_of b))

-- bytes are a record: those of some values that keep document 01's rule
pub record IsRecord (b : List ℕ) : Type 0 where
  pub values : SensorRecord
  pub kept : sound values ≡ true
  pub written : b ≡ bytes_of values
