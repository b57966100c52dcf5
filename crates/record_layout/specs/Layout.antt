-- The 87 bytes of a sensor record's values, for programs in C and Rust: the values of source document 004 in the order of the structs.
-- Assumes nothing.
use Rattle.std.specs.Prelude.{List, [], ◌∷◌, ◌++◌, ℕ}
use Rattle.temperature.specs.Temperature.{byte_of}
use Rattle.sensor_values.specs.Layout.{sensor_bytes, error_bytes}
use Rattle.sensor_values.specs.declared.BoardStatus.{BoardStatus}
use Rattle.sensor_values.specs.declared.FlashControl.{FlashControl}
use Rattle.sensor_values.specs.declared.SecurityStatus.{SecurityStatus}
use Rattle.sensor_values.specs.declared.DeviceStatus.{DeviceStatus}
use Rattle.sensor_values.specs.declared.Device.{Device}
use Rattle.sensor_values.specs.declared.ModuleStatus.{ModuleStatus}
use Rattle.sensor_values.specs.declared.NetworkModule.{NetworkModule}
use Rattle.sensor_values.specs.declared.SensorRecord.{SensorRecord}

-- the 8 bytes of board status information
unfoldable pub status_values : BoardStatus → List ℕ
status_values s =
    s.tcrit ∷ s.power_good ∷ s.twarn ∷ s.hbm_cattrip
    ∷ s.module0_present ∷ s.module1_present ∷ s.aux_cable ∷ s.flash_writes ∷ []

-- the 3 bytes of a flash's control
abbrev pub flash_values : FlashControl → List ℕ
flash_values f = f.recovery ∷ f.mode ∷ f.write_enable ∷ []

-- the 9 bytes of board security status information
unfoldable pub security_values : SecurityStatus → List ℕ
security_values s =
    s.spi_device ∷ (flash_values s.flash1 ++ (flash_values s.flash2 ++ (s.authentication ∷ s.jtag ∷ [])))

-- the 5 bytes of a device's status information
abbrev pub device_status_values : DeviceStatus → List ℕ
device_status_values s = s.done ∷ s.init_b ∷ s.error_out ∷ s.error_status ∷ s.keep_alive ∷ []

-- the 17 bytes of a device: status, FPGA and HBM temperature, and the 10 bytes of its error counters, as in the card's record
unfoldable pub device_values : Device → List ℕ
device_values d =
    device_status_values d.status
    ++ (byte_of d.fpga_temperature ∷ byte_of d.hbm_temperature ∷ error_bytes d.errors)

-- the 9 bytes of a network module's status
abbrev pub module_status_values : ModuleStatus → List ℕ
module_status_values s =
    s.present ∷ s.interrupt ∷ s.low_power ∷ s.rate_select ∷ s.rx_loss
    ∷ s.tx_disable ∷ s.tx_fault ∷ s.power_enable ∷ s.over_current ∷ []

-- the 10 bytes of a network module: temperature, status
unfoldable pub module_values : NetworkModule → List ℕ
module_values m = byte_of m.temperature ∷ module_status_values m.status

-- the 87 bytes: status at 0, security at 8, the sensors' 16 bytes at 17 as in the card's record, devices at 33 and 50, modules at 67 and 77
unfoldable pub value_bytes : SensorRecord → List ℕ
value_bytes r =
    status_values r.status ++ (security_values r.security ++ (sensor_bytes r.sensors
    ++ (device_values r.device1 ++ (device_values r.device2
    ++ (module_values r.module0 ++ module_values r.module1)))))
