-- `sensor_writer::module` meets its contract: temperature and status are stored in turn.
-- Assumes nothing.
use mathlib.Core.List.{List, [], ◌∷◌}
use mathlib.Core.Path.{◌≡◌, ap, ◌∙◌}
use Prim.Native.Nat.{ℕ, ◌<◌, ◌+◌, ◌*◌, ◌%◌, ◌/◌}
use native.Mathlib.Nat.{add-mul-mod_self_left}
use native.Mathlib.Omega.{arith}
use lib.Signed.{mag}
use Rattle.little_endian.specs.Bytes.{little_endian, stored_at}
use Rattle.little_endian.proofs.Stored.{in-turn}
use Rattle.temperature.specs.Temperature.{byte_of}
use Rattle.temperature.proofs.Laws.{machine-again}
use Rattle.sensor_values.specs.Layout.{packed, module_status_bits, module_bytes}
use Rattle.sensor_writer.proofs.module.Goals as goal

-- the two low bytes of a number are those of its two low bytes
low-two : (n : ℕ) → little_endian 2 (n % 65536) ≡ little_endian 2 n
low-two n =
    let low : n % 65536 % 256 ≡ n % 256 = omega arith in
    let rest : n / 256 ≡ n % 65536 / 256 + 256 * (n / 65536) = omega arith in
    let high : n % 65536 / 256 % 256 ≡ n / 256 % 256 = rw (rest, add-mul-mod_self_left) in
    rw (low, high)

pub returns : goal.returns
unfolding module_bytes
returns c =
    let a = c.args in
    let m = a.m in
    let warm : mag m.temperature < 128 = omega (arith, c.well_formed) in
    let status = little_endian 2 (packed (module_status_bits m.status)) in
    let word = c.packed in
    let two = low-two word.result ∙ ap (little_endian 2) (word.ensures ∙ ap packed c.bits.ensures) in
    c.store_at.ensures
    ∙ ap (λ (l : List ℕ). stored_at (a.at + 1) l c.store.new.out) two
    ∙ ap (stored_at (a.at + 1) status)
    (c.store.ensures
    ∙ ap (λ (t : ℕ). stored_at a.at (t ∷ []) a.out.now) (c.to_byte.ensures ∙ ap byte_of (machine-again m.temperature warm)))
    ∙ in-turn a.at ((byte_of m.temperature ∷ []) ∷ status ∷ []) a.out.now c.requires
