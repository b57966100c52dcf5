-- 64 bytes whose reserved bits are 0 are written again from the values that they hold.
-- Assumes nothing.
use mathlib.Core.Path.{◌≡◌, refl, sym, ap, ◌∙◌}
use mathlib.Core.Bool.{true}
use mathlib.Core.List.{List, [], ◌∷◌, ◌++◌}
use Prim.Native.Nat.{ℕ, ◌+◌, ◌%◌}
use native.Mathlib.Nat.{mod-eq_of_lt}
use lib.ListN.{length, get_or}
use Rattle.little_endian.specs.Bytes.{Bytes, number_at, little_endian, stretch}
use Rattle.little_endian.proofs.Numbers.{stretched, bytes-again, number_lt}
use Rattle.temperature.proofs.Laws.{byte-again}
use Rattle.sensor_values.specs.Layout.{packed, status_bits, security_bits, device_status_bits, module_status_bits, input_bytes}
use Rattle.sensor_values.specs.Layout.{sensor_bytes, error_bytes, device_bytes, module_bytes, bytes_of}
use Rattle.sensor_values.specs.Reading.{◌bits◌to◌, ◌bit◌, status_of, security_of, device_status_of, module_status_of, input_of, sensors_of}
use Rattle.sensor_values.specs.Reading.{errors_of, device_of, module_of, record_of, reserved, reserved_zero}
use Rattle.sensor_values.proofs.Fields.{zero-each, word}

module _ (b : List ℕ) (bytes : Bytes b) where
  status-again : number_at 4 0 b bits 31 to 27 ≡ 0 → packed (status_bits (status_of (number_at 4 0 b))) ≡ number_at 4 0 b
  unfolding status_of
  status-again z =
      word (status_bits (status_of (number_at 4 0 b))) (number_at 4 0 b)
      (refl, (refl, (refl, (refl, (refl, (refl, (refl, (refl, (sym z, tt))))))))) (number_lt b bytes 4 0)

  security-again : number_at 4 4 b bit 5 ≡ 0 → number_at 4 4 b bit 10 ≡ 0 → number_at 4 4 b bits 31 to 16 ≡ 0
      → packed (security_bits (security_of (number_at 4 4 b))) ≡ number_at 4 4 b
  unfolding security_of
  security-again x y z =
      word (security_bits (security_of (number_at 4 4 b))) (number_at 4 4 b)
      (refl, (refl, (refl, (refl, (sym x, (refl, (refl, (refl, (sym y, (refl, (refl, (sym z, tt)))))))))))) (number_lt b bytes 4 4)

  device-status-again : (at : ℕ) → packed (device_status_bits (device_status_of (get_or b at 0))) % 256 ≡ get_or b at 0
  unfolding device_status_of
  device-status-again at =
      ap (λ (n : ℕ). n % 256)
      (word (device_status_bits (device_status_of (get_or b at 0))) (get_or b at 0) (refl, (refl, (refl, (refl, (refl, tt))))) (bytes at))
      ∙ mod-eq_of_lt (bytes at)

  module-status-again : (at : ℕ) → number_at 2 at b bit 15 ≡ 0
      → packed (module_status_bits (module_status_of (number_at 2 at b))) ≡ number_at 2 at b
  unfolding module_status_of
  module-status-again at z =
      word (module_status_bits (module_status_of (number_at 2 at b))) (number_at 2 at b)
      (refl, (refl, (refl, (refl, (refl, (refl, (refl, (refl, (refl, (sym z, tt)))))))))) (number_lt b bytes 2 at)

  pub input-again : (at : ℕ) → input_bytes (input_of at b) ≡ stretch 2 at b ++ stretch 2 (at + 2) b
  unfolding input_of input_bytes
  input-again at = λ i. bytes-again b bytes 2 at i ++ bytes-again b bytes 2 (at + 2) i

  sensors-again : sensor_bytes (sensors_of b) ≡ stretch 16 8 b
  unfolding sensor_bytes sensors_of
  sensors-again = λ i.
      (byte-again (get_or b 8 0) (bytes 8) i ∷ byte-again (get_or b 9 0) (bytes 9) i ∷ [])
      ++ input-again 10 i ++ input-again 14 i ++ input-again 18 i ++ bytes-again b bytes 2 22 i

  pub errors-again : (at : ℕ)
      → error_bytes (errors_of at b) ≡ stretch 2 at b ++ stretch 2 (at + 2) b ++ stretch 2 (at + 4) b ++ stretch 4 (at + 6) b
  unfolding errors_of error_bytes
  errors-again at = λ i.
      bytes-again b bytes 2 at i ++ bytes-again b bytes 2 (at + 2) i ++ bytes-again b bytes 2 (at + 4) i ++ bytes-again b bytes 4 (at + 6) i

  device-again : (at : ℕ)
      → device_bytes (device_of at b)
      ≡ (get_or b at 0 ∷ get_or b (at + 1) 0 ∷ get_or b (at + 2) 0 ∷ [])
      ++ (stretch 2 (at + 3) b ++ stretch 2 (at + 3 + 2) b ++ stretch 2 (at + 3 + 4) b ++ stretch 4 (at + 3 + 6) b)
  unfolding device_of device_bytes
  device-again at = λ i.
      (device-status-again at i
      ∷ byte-again (get_or b (at + 1) 0) (bytes (at + 1)) i ∷ byte-again (get_or b (at + 2) 0) (bytes (at + 2)) i ∷ [])
      ++ errors-again (at + 3) i

  module-again : (at : ℕ) → number_at 2 (at + 1) b bit 15 ≡ 0 → module_bytes (module_of at b) ≡ get_or b at 0 ∷ stretch 2 (at + 1) b
  unfolding module_of module_bytes
  module-again at z = λ i.
      byte-again (get_or b at 0) (bytes at) i ∷ (ap (little_endian 2) (module-status-again (at + 1) z) ∙ bytes-again b bytes 2 (at + 1)) i

  -- the bytes are written again
  pub record-again : length b ≡ 64 → reserved_zero b ≡ true → bytes_of (record_of b) ≡ b
  unfolding reserved_zero record_of bytes_of
  record-again l e =
      let z = zero-each (reserved b) e in
      let status = ap (little_endian 4) (status-again z.0) ∙ bytes-again b bytes 4 0 in
      let security = ap (little_endian 4) (security-again z.1.0 z.1.1.0 z.1.1.1.0) ∙ bytes-again b bytes 4 4 in
      let first = ap (little_endian 4) (sym z.1.1.1.1.1.1.0) ∙ bytes-again b bytes 4 56 in
      let second = ap (little_endian 4) (sym z.1.1.1.1.1.1.1.0) ∙ bytes-again b bytes 4 60 in
      (λ i.
      status i ++ security i ++ sensors-again i ++ device-again 24 i ++ device-again 37 i
      ++ module-again 50 z.1.1.1.1.0 i ++ module-again 53 z.1.1.1.1.1.0 i ++ (first i ++ second i))
      ∙ sym (stretched b 0 64 l)
