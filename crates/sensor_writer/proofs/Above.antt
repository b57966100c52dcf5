-- The fields above a place make a smaller number, which is shifted past the field there.
-- Assumes nothing.
use mathlib.Core.Path.{◌≡◌, refl, sym, ap, ◌∙◌}
use mathlib.Core.Bool.{Bool, true, false, cond}
use mathlib.Core.List.{List, [], ◌∷◌}
use Prim.Native.Nat.{ℕ, zero, suc, ◌+◌, ◌-◌, ◌*◌, ◌%◌, ◌^◌, ◌≤◌, ◌<◌}
use native.Mathlib.Nat.{mod-eq_of_lt, mul_comm}
use native.Mathlib.Omega.{arith}
use borrow.Author.Tests.{ltb-false}
use lib.Dec.{ltb}
use lib.ListN.{length, get_or, drop}
use lib.Seq.{drop-cons}
use lib.Pow.{pow_pos}
use Rattle.std.proofs.Math.Pow.{pow_mono}
use Rattle.sensor_values.specs.declared.BitField.{BitField}
use Rattle.sensor_values.specs.Layout.{packed}

-- a part of a product is no greater
grown : (w n : ℕ) → n ≤ 2 ^ w * n
grown w n = grind (arith, pow_pos w)

pub behind_le : (at : ℕ) (fs : List BitField) → packed (drop at fs) ≤ packed fs
behind_le zero fs = omega arith
behind_le (suc at) [] = omega arith
behind_le (suc at) (f ∷ fs) = omega (arith, behind_le at fs, grown f.width (packed fs))

-- a number shifted past so many bits, if it fits 32 bits then
shifted : (w n : ℕ) → 2 ^ w * n < 2 ^ 32 → cond (ltb w 32) ((n * 2 ^ w) % 2 ^ 32) 0 ≡ 2 ^ w * n
shifted w n h = go (ltb w 32) refl n h
  where
    go : (t : Bool) → ltb w 32 ≡ t → (n : ℕ) → 2 ^ w * n < 2 ^ 32 → cond t ((n * 2 ^ w) % 2 ^ 32) 0 ≡ 2 ^ w * n
    go true e n h = rw (mul_comm n (2 ^ w)) (mod-eq_of_lt h)
    go false e zero h = omega arith
    go false e (suc n) h =
        let wide : 2 ^ 32 ≤ 2 ^ w = pow_mono (ltb-false w 32 e) in
        let more : 2 ^ w ≤ 2 ^ w * suc n = grind arith in
        absurd (omega (arith, h, wide, more))

-- the number of the fields from the next one down: what the fields above make, shifted past it, and its value
pub one-more : (fs : List BitField) (i n : ℕ) → i < length fs → packed fs < 2 ^ 32 → n ≡ packed (drop (length fs - i) fs)
    → (get_or fs (length fs - 1 - i) (record { width = 0; value = 0 })).value
    + cond (ltb (get_or fs (length fs - 1 - i) (record { width = 0; value = 0 })).width 32)
    ((n * 2 ^ (get_or fs (length fs - 1 - i) (record { width = 0; value = 0 })).width) % 2 ^ 32) 0
    ≡ packed (drop (length fs - (i + 1)) fs)
one-more fs i n h fits e =
    let at = length fs - 1 - i in
    let f = get_or fs at (record { width = 0; value = 0 }) in
    let place : length fs - (i + 1) ≡ at = omega arith in
    let above : suc at ≡ length fs - i = omega (arith, h) in
    let whole : packed (drop at fs) ≡ f.value + 2 ^ f.width * n =
    ap packed (drop-cons fs at (record { width = 0; value = 0 }) (omega (arith, h)))
    ∙ ap (λ (k : ℕ). f.value + 2 ^ f.width * packed (drop k fs)) above
    ∙ ap (λ (k : ℕ). f.value + 2 ^ f.width * k) (sym e) in
    ap (λ (k : ℕ). f.value + k) (shifted f.width n (omega (arith, fits, whole, behind_le at fs)))
    ∙ sym whole
    ∙ ap (λ (k : ℕ). packed (drop k fs)) (sym place)
