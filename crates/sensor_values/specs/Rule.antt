-- The rule that a sensor record keeps (document 01, "Sensor record"): what holds of every card's, and what the U30 leaves 0.
-- Assumes nothing.
use Rattle.std.specs.Prelude.{Bool, true, not, ◌&&◌, List, [], ◌∷◌, ℕ, ◌^◌, ltb, eqb, ℤ}
use Rattle.std.specs.Int.Signed.{mag}
use Rattle.temperature.specs.Temperature.{byte_of}
use Rattle.sensor_values.specs.declared.BitField.{BitField}
use Rattle.sensor_values.specs.Layout.{◌wide◌, status_bits, security_bits, device_status_bits, module_status_bits}
use Rattle.sensor_values.specs.declared.BoardStatus.{BoardStatus}
use Rattle.sensor_values.specs.declared.SecurityStatus.{SecurityStatus}
use Rattle.sensor_values.specs.declared.InputSensor.{InputSensor}
use Rattle.sensor_values.specs.declared.BoardSensors.{BoardSensors}
use Rattle.sensor_values.specs.declared.ErrorCounters.{ErrorCounters}
use Rattle.sensor_values.specs.declared.Device.{Device}
use Rattle.sensor_values.specs.declared.NetworkModule.{NetworkModule}
use Rattle.sensor_values.specs.declared.SensorRecord.{SensorRecord}

-- each value fits its bits
abbrev pub fitting : List BitField → Bool
fitting [] = true
fitting (f ∷ fs) = ltb f.value (2 ^ f.width) && fitting fs

-- a temperature is from -128 to 127; `mag` is n both of n and of -(n + 1)
abbrev pub in_range : ℤ → Bool
in_range t = ltb (mag t) 128

-- each value is 0
abbrev pub zeros : List ℕ → Bool
zeros [] = true
zeros (n ∷ ns) = eqb n 0 && zeros ns

-- the board status fits
unfoldable pub status_fits : BoardStatus → Bool
status_fits s = fitting (status_bits s)

-- the security status fits, and the two flash modes are not 3
unfoldable pub security_fits : SecurityStatus → Bool
security_fits s = fitting (security_bits s) && not (eqb s.flash1.mode 3) && not (eqb s.flash2.mode 3)

-- an input sensor fits
unfoldable pub input_fits : InputSensor → Bool
input_fits i = fitting (16 wide i.current ∷ 16 wide i.voltage ∷ [])

-- the board's sensors fit
unfoldable pub sensors_fit : BoardSensors → Bool
sensors_fit s =
    in_range s.inlet && in_range s.outlet && input_fits s.input_3v3 && input_fits s.input_12v && input_fits s.input_aux
    && fitting (16 wide s.total_power ∷ [])

-- a device's error counters fit
unfoldable pub errors_fit : ErrorCounters → Bool
errors_fit e =
    fitting
    (16 wide e.ddr_uncorrectable ∷ 16 wide e.ddr_correctable
    ∷ 16 wide e.pcie_uncorrectable ∷ 32 wide e.pcie_correctable ∷ [])

-- a device fits
unfoldable pub device_fits : Device → Bool
device_fits d =
    fitting (device_status_bits d.status) && in_range d.fpga_temperature && in_range d.hbm_temperature && errors_fit d.errors

-- a network module fits
unfoldable pub module_fits : NetworkModule → Bool
module_fits m = in_range m.temperature && fitting (module_status_bits m.status)

-- what holds of every card: each value fits its bits, and no flash mode is 3
unfoldable pub fields : SensorRecord → Bool
fields r =
    status_fits r.status && security_fits r.security && sensors_fit r.sensors
    && device_fits r.device1 && device_fits r.device2 && module_fits r.module0 && module_fits r.module1

-- bits 18 to 8 of the board status
unfoldable pub status_unused : BoardStatus → Bool
status_unused s = zeros (s.twarn ∷ s.hbm_cattrip ∷ s.module0_present ∷ s.module1_present ∷ s.aux_cable ∷ [])

-- the 3.3 V and AUX fields
unfoldable pub sensors_unused : BoardSensors → Bool
sensors_unused s =
    zeros (s.input_3v3.current ∷ s.input_3v3.voltage ∷ s.input_aux.current ∷ s.input_aux.voltage ∷ [])

-- status bits 3 and 2 of device 1, and both HBM bytes
unfoldable pub devices_unused : Device → Device → Bool
devices_unused one two =
    zeros
    (one.status.error_status ∷ one.status.error_out ∷ byte_of one.hbm_temperature ∷ byte_of two.hbm_temperature ∷ [])

-- a network module: three of the bytes 50 to 55
unfoldable pub module_unused : NetworkModule → Bool
module_unused m =
    zeros
    (byte_of m.temperature ∷ m.status.present ∷ m.status.interrupt ∷ m.status.low_power ∷ m.status.rate_select
    ∷ m.status.rx_loss ∷ m.status.tx_disable ∷ m.status.tx_fault ∷ m.status.power_enable
    ∷ m.status.over_current ∷ [])

-- what the U30 leaves 0
unfoldable pub unused : SensorRecord → Bool
unused r =
    status_unused r.status && sensors_unused r.sensors
    && devices_unused r.device1 r.device2 && module_unused r.module0 && module_unused r.module1

-- document 01's rule for the U30
unfoldable pub sound : SensorRecord → Bool
sound r = fields r && unused r
