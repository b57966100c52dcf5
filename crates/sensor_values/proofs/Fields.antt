-- Laws of bit fields, once for every list of them: what is packed is read back, and what is read packs again.
-- Assumes nothing.
use mathlib.Core.Path.{◌≡◌, refl, sym, ◌∙◌}
use mathlib.Core.Bool.{Bool, true, ◌&&◌}
use mathlib.Core.List.{List, [], ◌∷◌}
use Prim.Native.Nat.{ℕ, zero, suc, ◌+◌, ◌*◌, ◌/◌, ◌%◌, ◌^◌, ◌<◌}
use native.Mathlib.Nat.{div-one, mod-one, add-mul-mod_self_left, mod-eq_of_lt, add-mul-div_left, div-eq_of_lt, zero-add, mul_comm, add_comm}
use native.Mathlib.Omega.{arith}
use borrow.Author.Tests.{ltb-true, eqb-true}
use lib.Arith.{digits_lt}
use lib.Dec.{ltb, eqb}
use lib.Pow.{pow_pos, pow-add, shr-shr, mod-pow-add}
use Rattle.test_laws.proofs.Tests.{both}
use Rattle.sensor_values.specs.declared.BitField.{BitField}
use Rattle.sensor_values.specs.Layout.{packed}
use Rattle.sensor_values.specs.Rule.{fitting, zeros}

-- every test of a list holds
abbrev pub All : List Bool → Type 0
All [] = Unit {0}
All (b ∷ bs) = (b ≡ true) × All bs

-- a conjunction as `a && b && c` nests it
abbrev pub conjunction : Bool → List Bool → Bool
conjunction a [] = a
conjunction a (b ∷ bs) = conjunction (a && b) bs

pub all : (a : Bool) (bs : List Bool) → conjunction a bs ≡ true → All (a ∷ bs)
all a [] e = (e, tt)
all a (b ∷ bs) e =
    let h = all (a && b) bs e in
    let p = both a b h.0 in
    (p.0, (p.1, h.1))

-- each field fits, as facts
abbrev pub Fit : List BitField → Type 0
Fit [] = Unit {0}
Fit (f ∷ fs) = (f.value < 2 ^ f.width) × Fit fs

pub fit : (fs : List BitField) → fitting fs ≡ true → Fit fs
fit [] e = tt
fit (f ∷ fs) e = let p = both (ltb f.value (2 ^ f.width)) (fitting fs) e in (ltb-true _ _ p.0, fit fs p.1)

-- each number is 0, as facts
abbrev pub Zero : List ℕ → Type 0
Zero [] = Unit {0}
Zero (n ∷ ns) = (n ≡ 0) × Zero ns

pub zero-each : (ns : List ℕ) → zeros ns ≡ true → Zero ns
zero-each [] e = tt
zero-each (n ∷ ns) e = let p = both (eqb n 0) (zeros ns) e in (eqb-true _ _ p.0, zero-each ns p.1)

pub zero-all : (ns : List ℕ) → Zero ns → zeros ns ≡ true
zero-all [] h = refl
zero-all (n ∷ ns) h = rw (h.0, zero-all ns h.1)

-- the bits of all fields
abbrev pub total : List BitField → ℕ
total [] = 0
total (f ∷ fs) = f.width + total fs

pub packed_lt : (fs : List BitField) → Fit fs → packed fs < 2 ^ total fs
packed_lt [] h = omega arith
packed_lt (f ∷ fs) h =
    omega (
      arith,
      digits_lt (packed_lt fs h.1) h.0,
      mul_comm (packed fs) (2 ^ f.width),
      mul_comm (2 ^ total fs) (2 ^ f.width),
      pow-add 2 f.width (total fs),
    )

-- so many bits of a number from one up
abbrev pub bits_from : ℕ → ℕ → ℕ → ℕ
bits_from low width n = n / 2 ^ low % 2 ^ width

-- the k-th field: its lowest bit, its width and its value
abbrev pub low_at : List BitField → ℕ → ℕ
low_at [] k = 0
low_at (f ∷ fs) zero = 0
low_at (f ∷ fs) (suc k) = f.width + low_at fs k

abbrev pub width_at : List BitField → ℕ → ℕ
width_at [] k = 0
width_at (f ∷ fs) zero = f.width
width_at (f ∷ fs) (suc k) = width_at fs k

abbrev pub value_at : List BitField → ℕ → ℕ
value_at [] k = 0
value_at (f ∷ fs) zero = f.value
value_at (f ∷ fs) (suc k) = value_at fs k

above : (w v m : ℕ) → v < 2 ^ w → (v + 2 ^ w * m) / 2 ^ w ≡ m
above w v m h = rw (add-mul-div_left v m (pow_pos w), div-eq_of_lt h, zero-add)

-- a packed field is read back
pub field : (fs : List BitField) (k : ℕ) → Fit fs → bits_from (low_at fs k) (width_at fs k) (packed fs) ≡ value_at fs k
field [] k h = refl
field (f ∷ fs) zero h = rw (div-one, add-mul-mod_self_left) (mod-eq_of_lt h.0)
field (f ∷ fs) (suc k) h =
    rw (← shr-shr (packed (f ∷ fs)) f.width (low_at fs k), above f.width f.value (packed fs) h.0)
    (field fs k h.1)

-- the fields are those of the number n from bit low up
abbrev pub Taken : List BitField → ℕ → ℕ → Type 0
Taken [] low n = Unit {0}
Taken (f ∷ fs) low n = (f.value ≡ bits_from low f.width n) × Taken fs (low + f.width) n

repacked : (fs : List BitField) (low n : ℕ) → Taken fs low n → packed fs ≡ n / 2 ^ low % 2 ^ total fs
repacked [] low n h = sym (mod-one (n / 2 ^ low))
repacked (f ∷ fs) low n h =
    rw (
      add_comm f.width (total fs),
      mod-pow-add (n / 2 ^ low) (total fs) f.width,
      shr-shr n low f.width,
      ← repacked fs (low + f.width) n h.1,
      ← h.0,
    )
    (omega (arith, mul_comm (packed fs) (2 ^ f.width)))

-- fields that are all of a number's bits pack to that number
pub word : (fs : List BitField) (n : ℕ) → Taken fs 0 n → n < 2 ^ total fs → packed fs ≡ n
word fs n t h = repacked fs 0 n t ∙ rw div-one (mod-eq_of_lt h)
