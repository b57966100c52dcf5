-- Values are read back from their 87 bytes, and any 87 bytes are written again from the values that they hold.
-- Assumes nothing.
use mathlib.Core.Path.{◌≡◌, sym, ◌∙◌}
use mathlib.Core.List.{List, [], ◌∷◌, ◌++◌}
use Prim.Native.Nat.{ℕ, ◌^◌, ◌<◌}
use lib.ListN.{length, get_or}
use lib.Signed.{mag}
use Rattle.little_endian.specs.Bytes.{Bytes, number_at, stretch}
use Rattle.little_endian.proofs.Numbers.{number-again, stretched, bytes-again}
use Rattle.temperature.specs.Temperature.{temperature_of, byte_of}
use Rattle.temperature.proofs.Laws.{temperature-again, byte-again}
use Rattle.sensor_values.specs.Layout.{input_bytes, sensor_bytes, error_bytes}
use Rattle.sensor_values.specs.Reading.{input_of, errors_of}
use Rattle.sensor_values.proofs.ValuesAgain.{InputHeld, ErrorsHeld, input-again, errors-again}
use Rattle.sensor_values.proofs.BytesAgain as written
use Rattle.sensor_values.specs.declared.BoardSensors.{BoardSensors}
use Rattle.sensor_values.specs.declared.Device.{Device}
use Rattle.sensor_values.specs.declared.SensorRecord.{SensorRecord}
use Rattle.record_layout.specs.Layout.{status_values, security_values, device_values, module_values, value_bytes}
use Rattle.record_layout.specs.Reading.{status_in, security_in, sensors_in, device_in, module_in, values_in}

-- numbers that fit their bytes, and temperatures that fit one: so do those of every record that a program holds
abbrev pub SensorsHeld : BoardSensors → Type 0
SensorsHeld s =
    (mag s.inlet < 128) × (mag s.outlet < 128)
    × InputHeld s.input_3v3 × InputHeld s.input_12v × InputHeld s.input_aux × (s.total_power < 256 ^ 2)

abbrev pub DeviceHeld : Device → Type 0
DeviceHeld d = (mag d.fpga_temperature < 128) × (mag d.hbm_temperature < 128) × ErrorsHeld d.errors

abbrev pub Held : SensorRecord → Type 0
Held r =
    SensorsHeld r.sensors × DeviceHeld r.device1 × DeviceHeld r.device2
    × (mag r.module0.temperature < 128) × (mag r.module1.temperature < 128)

device-again : (d : Device) → DeviceHeld d → device_in 0 (device_values d) ≡ d
unfolding device_in device_values errors_of error_bytes number_at
device-again d (fpga, hbm, errors) = λ i. record {
  status = d.status;
  fpga_temperature = temperature-again d.fpga_temperature fpga i;
  hbm_temperature = temperature-again d.hbm_temperature hbm i;
  errors = errors-again d.errors errors i;
}

-- the values are read back
pub values-again : (r : SensorRecord) → Held r → values_in (value_bytes r) ≡ r
unfolding values_in status_in security_in sensors_in device_in module_in input_of errors_of number_at
    value_bytes status_values security_values sensor_bytes input_bytes device_values error_bytes module_values
values-again r ((inlet, outlet, low, main, aux, power), one, two, lower, upper) = λ i. record {
  status = r.status;
  security = r.security;
  sensors = record {
    inlet = temperature-again r.sensors.inlet inlet i;
    outlet = temperature-again r.sensors.outlet outlet i;
    input_3v3 = input-again r.sensors.input_3v3 low i;
    input_12v = input-again r.sensors.input_12v main i;
    input_aux = input-again r.sensors.input_aux aux i;
    total_power = number-again 2 r.sensors.total_power power i;
  };
  device1 = device-again r.device1 one i;
  device2 = device-again r.device2 two i;
  module0 = record { temperature = temperature-again r.module0.temperature lower i; status = r.module0.status };
  module1 = record { temperature = temperature-again r.module1.temperature upper i; status = r.module1.status };
}

module _ (b : List ℕ) (bytes : Bytes b) where
  degrees : (at : ℕ) → byte_of (temperature_of (get_or b at 0)) ≡ get_or b at 0
  degrees at = byte-again (get_or b at 0) (bytes at)

  sensor-bytes : sensor_bytes (sensors_in b) ≡ stretch 16 17 b
  unfolding sensor_bytes sensors_in
  sensor-bytes = λ i.
      (degrees 17 i ∷ degrees 18 i ∷ []) ++ written.input-again b bytes 19 i ++ written.input-again b bytes 23 i
      ++ written.input-again b bytes 27 i ++ bytes-again b bytes 2 31 i

  -- the bytes are written again
  pub values-written : length b ≡ 87 → value_bytes (values_in b) ≡ b
  unfolding value_bytes values_in status_values status_in security_values security_in device_values device_in module_values module_in
  values-written l =
      (λ i.
      stretch 17 0 b ++ (sensor-bytes i
      ++ ((stretch 5 33 b ++ (degrees 38 i ∷ degrees 39 i ∷ written.errors-again b bytes 40 i))
      ++ ((stretch 5 50 b ++ (degrees 55 i ∷ degrees 56 i ∷ written.errors-again b bytes 57 i))
      ++ ((degrees 67 i ∷ stretch 9 68 b) ++ (degrees 77 i ∷ stretch 9 78 b))))))
      ∙ sym (stretched b 0 87 l)
