-- The values of a sensor record (source document 004) that 87 bytes hold, by the places that the layout gives them.
-- Assumes nothing.
use Rattle.std.specs.Prelude.{List, ℕ, ◌+◌, get_or}
use Rattle.little_endian.specs.Bytes.{number_at}
use Rattle.temperature.specs.Temperature.{temperature_of}
use Rattle.sensor_values.specs.Reading.{input_of, errors_of}
use Rattle.sensor_values.specs.declared.BoardStatus.{BoardStatus}
use Rattle.sensor_values.specs.declared.FlashControl.{FlashControl}
use Rattle.sensor_values.specs.declared.SecurityStatus.{SecurityStatus}
use Rattle.sensor_values.specs.declared.BoardSensors.{BoardSensors}
use Rattle.sensor_values.specs.declared.DeviceStatus.{DeviceStatus}
use Rattle.sensor_values.specs.declared.Device.{Device}
use Rattle.sensor_values.specs.declared.ModuleStatus.{ModuleStatus}
use Rattle.sensor_values.specs.declared.NetworkModule.{NetworkModule}
use Rattle.sensor_values.specs.declared.SensorRecord.{SensorRecord}

-- board status information
unfoldable pub status_in : List ℕ → BoardStatus
status_in b = record {
  tcrit = get_or b 0 0;
  power_good = get_or b 1 0;
  twarn = get_or b 2 0;
  hbm_cattrip = get_or b 3 0;
  module0_present = get_or b 4 0;
  module1_present = get_or b 5 0;
  aux_cable = get_or b 6 0;
  flash_writes = get_or b 7 0;
}

-- a flash's control at a place
abbrev pub flash_in : ℕ → List ℕ → FlashControl
flash_in at b = record { recovery = get_or b at 0; mode = get_or b (at + 1) 0; write_enable = get_or b (at + 2) 0 }

-- board security status information
unfoldable pub security_in : List ℕ → SecurityStatus
security_in b = record {
  spi_device = get_or b 8 0;
  flash1 = flash_in 9 b;
  flash2 = flash_in 12 b;
  authentication = get_or b 15 0;
  jtag = get_or b 16 0;
}

-- the board's sensors
unfoldable pub sensors_in : List ℕ → BoardSensors
sensors_in b = record {
  inlet = temperature_of (get_or b 17 0);
  outlet = temperature_of (get_or b 18 0);
  input_3v3 = input_of 19 b;
  input_12v = input_of 23 b;
  input_aux = input_of 27 b;
  total_power = number_at 2 31 b;
}

-- a device's status information at a place
abbrev pub device_status_in : ℕ → List ℕ → DeviceStatus
device_status_in at b = record {
  done = get_or b at 0;
  init_b = get_or b (at + 1) 0;
  error_out = get_or b (at + 2) 0;
  error_status = get_or b (at + 3) 0;
  keep_alive = get_or b (at + 4) 0;
}

-- the device at a place
unfoldable pub device_in : ℕ → List ℕ → Device
device_in at b = record {
  status = device_status_in at b;
  fpga_temperature = temperature_of (get_or b (at + 5) 0);
  hbm_temperature = temperature_of (get_or b (at + 6) 0);
  errors = errors_of (at + 7) b;
}

-- a network module's status at a place
abbrev pub module_status_in : ℕ → List ℕ → ModuleStatus
module_status_in at b = record {
  present = get_or b at 0;
  interrupt = get_or b (at + 1) 0;
  low_power = get_or b (at + 2) 0;
  rate_select = get_or b (at + 3) 0;
  rx_loss = get_or b (at + 4) 0;
  tx_disable = get_or b (at + 5) 0;
  tx_fault = get_or b (at + 6) 0;
  power_enable = get_or b (at + 7) 0;
  over_current = get_or b (at + 8) 0;
}

-- the network module at a place
unfoldable pub module_in : ℕ → List ℕ → NetworkModule
module_in at b = record { temperature = temperature_of (get_or b at 0); status = module_status_in (at + 1) b }

-- the values in 87 bytes
unfoldable pub values_in : List ℕ → SensorRecord
values_in b = record {
  status = status_in b;
  security = security_in b;
  sensors = sensors_in b;
  device1 = device_in 33 b;
  device2 = device_in 50 b;
  module0 = module_in 67 b;
  module1 = module_in 77 b;
}
