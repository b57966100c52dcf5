-- The values of a record that fit their bits are read back from its bytes, whose reserved bits are 0.
-- Assumes nothing.
use mathlib.Core.Path.{◌≡◌, refl, ap, ◌∙◌}
use mathlib.Core.Bool.{true, not}
use mathlib.Core.List.{[], ◌∷◌}
use Prim.Native.Nat.{◌<◌, ◌^◌}
use native.Mathlib.Nat.{mod-eq_of_lt}
use borrow.Author.Tests.{ltb-true}
use lib.Dec.{eqb}
use lib.ListN.{length}
use Rattle.little_endian.specs.Bytes.{number_at}
use Rattle.little_endian.proofs.Numbers.{number-again}
use Rattle.temperature.proofs.Laws.{temperature-again}
use Rattle.sensor_values.specs.Layout.{◌wide◌, packed, status_bits, security_bits, device_status_bits, module_status_bits, input_bytes}
use Rattle.sensor_values.specs.Layout.{sensor_bytes, error_bytes, device_bytes, module_bytes, bytes_of}
use Rattle.sensor_values.specs.Rule.{fitting, in_range, status_fits, security_fits, input_fits, sensors_fit, errors_fit, device_fits}
use Rattle.sensor_values.specs.Rule.{module_fits, fields}
use Rattle.sensor_values.specs.Reading.{status_of, security_of, device_status_of, module_status_of, input_of, sensors_of, errors_of}
use Rattle.sensor_values.specs.Reading.{device_of, module_of, record_of, reserved, reserved_zero}
use Rattle.sensor_values.specs.declared.BoardStatus.{BoardStatus}
use Rattle.sensor_values.specs.declared.SecurityStatus.{SecurityStatus}
use Rattle.sensor_values.specs.declared.InputSensor.{InputSensor}
use Rattle.sensor_values.specs.declared.DeviceStatus.{DeviceStatus}
use Rattle.sensor_values.specs.declared.ErrorCounters.{ErrorCounters}
use Rattle.sensor_values.specs.declared.Device.{Device}
use Rattle.sensor_values.specs.declared.ModuleStatus.{ModuleStatus}
use Rattle.sensor_values.specs.declared.NetworkModule.{NetworkModule}
use Rattle.sensor_values.specs.declared.SensorRecord.{SensorRecord}
use Rattle.sensor_values.proofs.Fields.{All, all, Fit, fit, zero-all, packed_lt, bits_from, field}

status-again : (s : BoardStatus) → Fit (status_bits s) → status_of (packed (status_bits s)) ≡ s
unfolding status_of
status-again s h = λ i. record {
  tcrit = field (status_bits s) 0 h i;
  power_good = field (status_bits s) 1 h i;
  twarn = field (status_bits s) 2 h i;
  hbm_cattrip = field (status_bits s) 3 h i;
  module0_present = field (status_bits s) 4 h i;
  module1_present = field (status_bits s) 5 h i;
  aux_cable = field (status_bits s) 6 h i;
  flash_writes = field (status_bits s) 7 h i;
}

security-again : (s : SecurityStatus) → Fit (security_bits s) → security_of (packed (security_bits s)) ≡ s
unfolding security_of
security-again s h = λ i. record {
  spi_device = field (security_bits s) 0 h i;
  flash1 = record {
    recovery = field (security_bits s) 1 h i;
    mode = field (security_bits s) 2 h i;
    write_enable = field (security_bits s) 3 h i;
  };
  flash2 = record {
    recovery = field (security_bits s) 5 h i;
    mode = field (security_bits s) 6 h i;
    write_enable = field (security_bits s) 7 h i;
  };
  authentication = field (security_bits s) 9 h i;
  jtag = field (security_bits s) 10 h i;
}

device-status-again : (s : DeviceStatus) → Fit (device_status_bits s) → device_status_of (packed (device_status_bits s)) ≡ s
unfolding device_status_of
device-status-again s h = λ i. record {
  done = field (device_status_bits s) 0 h i;
  init_b = field (device_status_bits s) 1 h i;
  error_out = field (device_status_bits s) 2 h i;
  error_status = field (device_status_bits s) 3 h i;
  keep_alive = field (device_status_bits s) 4 h i;
}

module-status-again : (s : ModuleStatus) → Fit (module_status_bits s) → module_status_of (packed (module_status_bits s)) ≡ s
unfolding module_status_of
module-status-again s h = λ i. record {
  present = field (module_status_bits s) 0 h i;
  interrupt = field (module_status_bits s) 1 h i;
  low_power = field (module_status_bits s) 2 h i;
  rate_select = field (module_status_bits s) 3 h i;
  rx_loss = field (module_status_bits s) 4 h i;
  tx_disable = field (module_status_bits s) 5 h i;
  tx_fault = field (module_status_bits s) 6 h i;
  power_enable = field (module_status_bits s) 7 h i;
  over_current = field (module_status_bits s) 8 h i;
}

-- the numbers of an input sensor fit their bytes
abbrev pub InputHeld : InputSensor → Type 0
InputHeld i = (i.current < 256 ^ 2) × (i.voltage < 256 ^ 2)

input-held : (i : InputSensor) → input_fits i ≡ true → InputHeld i
unfolding input_fits
input-held i e = let f = fit (16 wide i.current ∷ 16 wide i.voltage ∷ []) e in (f.0, f.1.0)

pub input-again : (i : InputSensor) → InputHeld i → input_of 0 (input_bytes i) ≡ i
unfolding input_of input_bytes number_at
input-again s (current, voltage) = λ i. record {
  current = number-again 2 s.current current i;
  voltage = number-again 2 s.voltage voltage i;
}

sensors-again : (r : SensorRecord) → sensors_fit r.sensors ≡ true → sensors_of (bytes_of r) ≡ r.sensors
unfolding sensors_fit sensors_of input_of number_at bytes_of sensor_bytes input_bytes device_bytes error_bytes module_bytes
sensors-again r e =
    let s = r.sensors in
    let f = all (in_range s.inlet)
    (in_range s.outlet ∷ input_fits s.input_3v3 ∷ input_fits s.input_12v ∷ input_fits s.input_aux
    ∷ fitting (16 wide s.total_power ∷ []) ∷ []) e in
    λ i. record {
      inlet = temperature-again s.inlet (ltb-true _ _ f.0) i;
      outlet = temperature-again s.outlet (ltb-true _ _ f.1.0) i;
      input_3v3 = input-again s.input_3v3 (input-held s.input_3v3 f.1.1.0) i;
      input_12v = input-again s.input_12v (input-held s.input_12v f.1.1.1.0) i;
      input_aux = input-again s.input_aux (input-held s.input_aux f.1.1.1.1.0) i;
      total_power = number-again 2 s.total_power (fit (16 wide s.total_power ∷ []) f.1.1.1.1.1.0).0 i;
    }

-- the numbers of a device's error counters fit their bytes
abbrev pub ErrorsHeld : ErrorCounters → Type 0
ErrorsHeld e =
    (e.ddr_uncorrectable < 256 ^ 2) × (e.ddr_correctable < 256 ^ 2)
    × (e.pcie_uncorrectable < 256 ^ 2) × (e.pcie_correctable < 256 ^ 4)

errors-held : (e : ErrorCounters) → errors_fit e ≡ true → ErrorsHeld e
unfolding errors_fit
errors-held e h =
    let f = fit
    (16 wide e.ddr_uncorrectable ∷ 16 wide e.ddr_correctable
    ∷ 16 wide e.pcie_uncorrectable ∷ 32 wide e.pcie_correctable ∷ []) h in
    (f.0, f.1.0, f.1.1.0, f.1.1.1.0)

pub errors-again : (e : ErrorCounters) → ErrorsHeld e → errors_of 0 (error_bytes e) ≡ e
unfolding errors_of error_bytes number_at
errors-again e (first, second, third, fourth) = λ i. record {
  ddr_uncorrectable = number-again 2 e.ddr_uncorrectable first i;
  ddr_correctable = number-again 2 e.ddr_correctable second i;
  pcie_uncorrectable = number-again 2 e.pcie_uncorrectable third i;
  pcie_correctable = number-again 4 e.pcie_correctable fourth i;
}

device-again : (d : Device) → device_fits d ≡ true → device_of 0 (device_bytes d) ≡ d
unfolding device_fits device_of device_bytes errors_of error_bytes number_at
device-again d e =
    let bits = device_status_bits d.status in
    let f = all (fitting bits) (in_range d.fpga_temperature ∷ in_range d.hbm_temperature ∷ errors_fit d.errors ∷ []) e in
    let h = fit bits f.0 in
    λ i. record {
      status = (ap device_status_of (mod-eq_of_lt (packed_lt bits h)) ∙ device-status-again d.status h) i;
      fpga_temperature = temperature-again d.fpga_temperature (ltb-true _ _ f.1.0) i;
      hbm_temperature = temperature-again d.hbm_temperature (ltb-true _ _ f.1.1.0) i;
      errors = errors-again d.errors (errors-held d.errors f.1.1.1.0) i;
    }

module-fit : (m : NetworkModule) → module_fits m ≡ true → Fit (module_status_bits m.status)
unfolding module_fits
module-fit m e = let bits = module_status_bits m.status in fit bits (all (in_range m.temperature) (fitting bits ∷ []) e).1.0

module-again : (m : NetworkModule) → module_fits m ≡ true → module_of 0 (module_bytes m) ≡ m
unfolding module_fits module_of module_bytes number_at
module-again m e =
    let bits = module_status_bits m.status in
    let f = all (in_range m.temperature) (fitting bits ∷ []) e in
    let h = fit bits f.1.0 in
    λ i. record {
      temperature = temperature-again m.temperature (ltb-true _ _ f.0) i;
      status = (ap module_status_of (number-again 2 (packed bits) (packed_lt bits h)) ∙ module-status-again m.status h) i;
    }

module _ (r : SensorRecord) (e : fields r ≡ true) where
  parts : All (status_fits r.status ∷ security_fits r.security ∷ sensors_fit r.sensors
      ∷ device_fits r.device1 ∷ device_fits r.device2 ∷ module_fits r.module0 ∷ module_fits r.module1 ∷ [])
  unfolding fields
  parts = all (status_fits r.status)
      (security_fits r.security ∷ sensors_fit r.sensors
      ∷ device_fits r.device1 ∷ device_fits r.device2 ∷ module_fits r.module0 ∷ module_fits r.module1 ∷ []) e

  status-fit : Fit (status_bits r.status)
  unfolding status_fits
  status-fit = fit (status_bits r.status) parts.0

  security-fit : Fit (security_bits r.security)
  unfolding security_fits
  security-fit =
      let s = r.security in
      fit (security_bits s) (all (fitting (security_bits s)) (not (eqb s.flash1.mode 3) ∷ not (eqb s.flash2.mode 3) ∷ []) parts.1.0).0

  status-word : number_at 4 0 (bytes_of r) ≡ packed (status_bits r.status)
  unfolding number_at bytes_of
  status-word = number-again 4 (packed (status_bits r.status)) (packed_lt (status_bits r.status) status-fit)

  security-word : number_at 4 4 (bytes_of r) ≡ packed (security_bits r.security)
  unfolding number_at bytes_of
  security-word = number-again 4 (packed (security_bits r.security)) (packed_lt (security_bits r.security) security-fit)

  first : device_of 24 (bytes_of r) ≡ r.device1
  unfolding device_of errors_of number_at bytes_of sensor_bytes input_bytes device_bytes error_bytes module_bytes
  first = device-again r.device1 parts.1.1.1.0

  second : device_of 37 (bytes_of r) ≡ r.device2
  unfolding device_of errors_of number_at bytes_of sensor_bytes input_bytes device_bytes error_bytes module_bytes
  second = device-again r.device2 parts.1.1.1.1.0

  lower : module_of 50 (bytes_of r) ≡ r.module0
  unfolding module_of number_at bytes_of sensor_bytes input_bytes device_bytes error_bytes module_bytes
  lower = module-again r.module0 parts.1.1.1.1.1.0

  upper : module_of 53 (bytes_of r) ≡ r.module1
  unfolding module_of number_at bytes_of sensor_bytes input_bytes device_bytes error_bytes module_bytes
  upper = module-again r.module1 parts.1.1.1.1.1.1.0

  -- the values are read back
  pub values-again : record_of (bytes_of r) ≡ r
  unfolding record_of
  values-again = λ i. record {
    status = (ap status_of status-word ∙ status-again r.status status-fit) i;
    security = (ap security_of security-word ∙ security-again r.security security-fit) i;
    sensors = sensors-again r parts.1.1.0 i;
    device1 = first i;
    device2 = second i;
    module0 = lower i;
    module1 = upper i;
  }

  lower_word : number_at 2 51 (bytes_of r) ≡ packed (module_status_bits r.module0.status)
  unfolding number_at bytes_of sensor_bytes input_bytes device_bytes error_bytes module_bytes
  lower_word =
      let bits = module_status_bits r.module0.status in
      number-again 2 (packed bits) (packed_lt bits (module-fit r.module0 parts.1.1.1.1.1.0))

  upper-word : number_at 2 54 (bytes_of r) ≡ packed (module_status_bits r.module1.status)
  unfolding number_at bytes_of sensor_bytes input_bytes device_bytes error_bytes module_bytes
  upper-word =
      let bits = module_status_bits r.module1.status in
      number-again 2 (packed bits) (packed_lt bits (module-fit r.module1 parts.1.1.1.1.1.1.0))

  -- the last 8 bytes are 0
  last-words : (number_at 4 56 (bytes_of r) ≡ 0) × (number_at 4 60 (bytes_of r) ≡ 0)
  unfolding number_at bytes_of sensor_bytes input_bytes device_bytes error_bytes module_bytes
  last-words = (refl, refl)

  -- the reserved bits are 0
  pub reserved-clear : reserved_zero (bytes_of r) ≡ true
  unfolding reserved_zero
  reserved-clear =
      let status = status_bits r.status in
      let security = security_bits r.security in
      let lower = module_status_bits r.module0.status in
      let upper = module_status_bits r.module1.status in
      zero-all (reserved (bytes_of r)) (
        ap (bits_from 27 5) status-word ∙ field status 8 status-fit,
        (
          ap (bits_from 5 1) security-word ∙ field security 4 security-fit,
          (
            ap (bits_from 10 1) security-word ∙ field security 8 security-fit,
            (
              ap (bits_from 16 16) security-word ∙ field security 11 security-fit,
              (
                ap (bits_from 15 1) lower_word ∙ field lower 9 (module-fit r.module0 parts.1.1.1.1.1.0),
                (
                  ap (bits_from 15 1) upper-word ∙ field upper 9 (module-fit r.module1 parts.1.1.1.1.1.1.0),
                  (last-words.0, (last-words.1, tt)),
                ),
              ),
            ),
          ),
        ),
      )

-- a record has 64 bytes
pub bytes-length : (r : SensorRecord) → length (bytes_of r) ≡ 64
unfolding bytes_of sensor_bytes input_bytes device_bytes error_bytes module_bytes
bytes-length r = refl
