-- The sensor record's 64 bytes (source document 004, "Critical Sensor Data Record"; document 01, "Sensor record").
-- Assumes nothing.
use Rattle.std.specs.Prelude.{List, [], ◌∷◌, ◌++◌, ℕ, ◌+◌, ◌*◌, ◌^◌}
use Rattle.little_endian.specs.Bytes.{little_endian}
use Rattle.temperature.specs.Temperature.{byte_of}
use Rattle.sensor_values.specs.declared.BitField.{BitField}
use Rattle.sensor_values.specs.declared.BoardStatus.{BoardStatus}
use Rattle.sensor_values.specs.declared.SecurityStatus.{SecurityStatus}
use Rattle.sensor_values.specs.declared.InputSensor.{InputSensor}
use Rattle.sensor_values.specs.declared.BoardSensors.{BoardSensors}
use Rattle.sensor_values.specs.declared.DeviceStatus.{DeviceStatus}
use Rattle.sensor_values.specs.declared.ErrorCounters.{ErrorCounters}
use Rattle.sensor_values.specs.declared.Device.{Device}
use Rattle.sensor_values.specs.declared.ModuleStatus.{ModuleStatus}
use Rattle.sensor_values.specs.declared.NetworkModule.{NetworkModule}
use Rattle.sensor_values.specs.declared.SensorRecord.{SensorRecord}

-- 4 wide v: a field of four bits with the value v
infixl 70 ◌wide◌
abbrev pub ◌wide◌ : ℕ → ℕ → BitField
◌wide◌ w v = record { width = w; value = v }

-- bit fields in one number, from bit 0 up
abbrev pub packed : List BitField → ℕ
packed [] = 0
packed (f ∷ fs) = f.value + 2 ^ f.width * packed fs

-- board status information, from bit 0 up; bits 31 to 27 are reserved
abbrev pub status_bits : BoardStatus → List BitField
status_bits s =
    4 wide s.tcrit ∷ 4 wide s.power_good ∷ 4 wide s.twarn ∷ 4 wide s.hbm_cattrip
    ∷ 1 wide s.module0_present ∷ 1 wide s.module1_present ∷ 1 wide s.aux_cable
    ∷ 8 wide s.flash_writes ∷ 5 wide 0 ∷ []

-- board security status information, from bit 0 up; bits 5, 10 and 31 to 16 are reserved
abbrev pub security_bits : SecurityStatus → List BitField
security_bits s =
    1 wide s.spi_device
    ∷ 1 wide s.flash1.recovery ∷ 2 wide s.flash1.mode ∷ 1 wide s.flash1.write_enable ∷ 1 wide 0
    ∷ 1 wide s.flash2.recovery ∷ 2 wide s.flash2.mode ∷ 1 wide s.flash2.write_enable ∷ 1 wide 0
    ∷ 4 wide s.authentication ∷ 1 wide s.jtag ∷ 16 wide 0 ∷ []

-- a device's status information, from bit 0 up
abbrev pub device_status_bits : DeviceStatus → List BitField
device_status_bits s =
    1 wide s.done ∷ 1 wide s.init_b ∷ 1 wide s.error_out ∷ 1 wide s.error_status ∷ 4 wide s.keep_alive ∷ []

-- a network module's status, from bit 0 up; bit 15 is reserved
abbrev pub module_status_bits : ModuleStatus → List BitField
module_status_bits s =
    1 wide s.present ∷ 1 wide s.interrupt ∷ 1 wide s.low_power ∷ 4 wide s.rate_select ∷ 2 wide s.rx_loss
    ∷ 2 wide s.tx_disable ∷ 2 wide s.tx_fault ∷ 1 wide s.power_enable ∷ 1 wide s.over_current ∷ 1 wide 0 ∷ []

-- the 4 bytes of an input sensor: current before voltage
unfoldable pub input_bytes : InputSensor → List ℕ
input_bytes i = little_endian 2 i.current ++ little_endian 2 i.voltage

-- the 16 bytes of the board's sensors, at the offsets 8, 9, 10, 14, 18 and 22 of the record
unfoldable pub sensor_bytes : BoardSensors → List ℕ
sensor_bytes s =
    (byte_of s.inlet ∷ byte_of s.outlet ∷ [])
    ++ input_bytes s.input_3v3 ++ input_bytes s.input_12v ++ input_bytes s.input_aux
    ++ little_endian 2 s.total_power

-- the 10 bytes of a device's advanced error counters
unfoldable pub error_bytes : ErrorCounters → List ℕ
error_bytes e =
    little_endian 2 e.ddr_uncorrectable ++ little_endian 2 e.ddr_correctable
    ++ little_endian 2 e.pcie_uncorrectable ++ little_endian 4 e.pcie_correctable

-- the 13 bytes of a device: status, FPGA and HBM temperature, error counters
unfoldable pub device_bytes : Device → List ℕ
device_bytes d =
    little_endian 1 (packed (device_status_bits d.status))
    ++ (byte_of d.fpga_temperature ∷ byte_of d.hbm_temperature ∷ []) ++ error_bytes d.errors

-- the 3 bytes of a network module: temperature, status
unfoldable pub module_bytes : NetworkModule → List ℕ
module_bytes m = byte_of m.temperature ∷ little_endian 2 (packed (module_status_bits m.status))

-- the 64 bytes: status at 0, security at 4, sensors at 8, devices at 24 and 37, modules at 50 and 53, and 8 reserved ones
unfoldable pub bytes_of : SensorRecord → List ℕ
bytes_of r =
    little_endian 4 (packed (status_bits r.status)) ++ little_endian 4 (packed (security_bits r.security))
    ++ sensor_bytes r.sensors ++ device_bytes r.device1 ++ device_bytes r.device2
    ++ module_bytes r.module0 ++ module_bytes r.module1 ++ little_endian 8 0
