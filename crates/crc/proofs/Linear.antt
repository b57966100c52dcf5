-- The register is linear at every width and polynomial, and joins two parts that ran from one start.
-- Assumes nothing.
use mathlib.Core.Path.{◌≡◌, refl, sym, ap, ap₂, ◌∙◌}
use mathlib.Core.List.{List, [], ◌∷◌, ◌++◌}
use Prim.Native.Nat.{ℕ, zero, suc, ◌-◌, ◌*◌, ◌/◌, ◌%◌, ◌^◌, ◌<◌}
use native.Mathlib.Nat.{mod-lt, zero-mul}
use native.Mathlib.Omega.{arith}
use lib.Bits.{bit_xor, xor_shr, xor_mod, xor_self, xor_zero_l, xor_zero_r}
use lib.Dec.{lit<}
use lib.ListN.{length, replicate, length-replicate}
use Rattle.crc.specs.Crc.{shifted, bit_in, bits_in, bits_of, bit_string, register, joined}
use Rattle.crc.specs.Laws.{Linear, Joins, xor_each}
use Rattle.crc.proofs.Laws.{continues}
use Rattle.crc.proofs.Xor.{by_bit, xor-back, xor-swap, xor-shl}

-- a bit of an exclusive or is the exclusive or of the bits
bit_at : (k b c : ℕ) → bit_xor b c / 2 ^ k % 2 ≡ bit_xor (b / 2 ^ k % 2) (c / 2 ^ k % 2)
bit_at k b c = ap (λ (x : ℕ). x % 2) (xor_shr b c k) ∙ xor_mod (b / 2 ^ k) (c / 2 ^ k) 1

bits_each : (n b c : ℕ) → bits_of n (bit_xor b c) ≡ xor_each (bits_of n b) (bits_of n c)
unfolding bits_of xor_each
bits_each zero b c = refl
bits_each (suc n) b c = ap₂ (λ (d : ℕ) (ds : List ℕ). d ∷ ds) (bit_at n b c) (bits_each n b c)

bits-length : (n b : ℕ) → length (bits_of n b) ≡ n
unfolding bits_of
bits-length zero b = refl
bits-length (suc n) b = ap suc (bits-length n b)

each-joined : (x y u v : List ℕ) → length x ≡ length y → xor_each (x ++ u) (y ++ v) ≡ xor_each x y ++ xor_each u v
unfolding xor_each
each-joined [] [] u v h = refl
each-joined [] (e ∷ y) u v h = absurd (omega arith)
each-joined (d ∷ x) [] u v h = absurd (omega arith)
each-joined (d ∷ x) (e ∷ y) u v h = ap (λ (l : List ℕ). bit_xor d e ∷ l) (each-joined x y u v (omega arith))

-- the bits of an exclusive or of bytes are the exclusive or of their bits
string-each : (x y : List ℕ) → length x ≡ length y → bit_string (xor_each x y) ≡ xor_each (bit_string x) (bit_string y)
unfolding bit_string xor_each
string-each [] [] h = refl
string-each [] (c ∷ y) h = absurd (omega arith)
string-each (b ∷ x) [] h = absurd (omega arith)
string-each (b ∷ x) (c ∷ y) h =
    ap₂ (λ (l m : List ℕ). l ++ m) (bits_each 8 b c) (string-each x y (omega arith))
    ∙ sym (each-joined (bits_of 8 b) (bits_of 8 c) (bit_string x) (bit_string y) (bits-length 8 b ∙ sym (bits-length 8 c)))

string-length : (x : List ℕ) → length (bit_string x) ≡ 8 * length x
unfolding bit_string bits_of
string-length [] = refl
string-length (b ∷ x) = omega (arith, string-length x)

-- zeros change nothing
zeros-each : (y : List ℕ) → xor_each (replicate (length y) 0) y ≡ y
unfolding xor_each
zeros-each [] = refl
zeros-each (c ∷ y) = ap₂ (λ (d : ℕ) (l : List ℕ). d ∷ l) (xor_zero_l c) (zeros-each y)

module _ (w p : ℕ) where
  -- the polynomial, taken once or not at all
  polynomial-linear : (s t : ℕ) → s < 2 → t < 2 → bit_xor s t * p ≡ bit_xor (s * p) (t * p)
  polynomial-linear s t hs ht =
      by_bit (λ (s : ℕ). bit_xor s t * p ≡ bit_xor (s * p) (t * p)) (sym (ap (λ (x : ℕ). bit_xor x (t * p)) (zero-mul p)))
      (by_bit (λ (t : ℕ). bit_xor 1 t * p ≡ bit_xor (1 * p) (t * p))
      (sym (ap (bit_xor (1 * p)) (zero-mul p) ∙ xor_zero_r (1 * p)))
      (zero-mul p ∙ sym (xor_self (1 * p))) t ht) s hs

  shifted-linear : (a b : ℕ) → shifted w p (bit_xor a b) ≡ bit_xor (shifted w p a) (shifted w p b)
  unfolding shifted
  shifted-linear a b =
      let top = 2 ^ (w - 1) in
      let s = a / top % 2 in
      let t = b / top % 2 in
      ap₂ bit_xor
      (ap (λ (x : ℕ). x % 2 ^ w) (xor-shl 1 a b) ∙ xor_mod (a * 2) (b * 2) w)
      (ap (λ (x : ℕ). x * p) (bit_at (w - 1) a b)
      ∙ polynomial-linear s t (mod-lt (a / top) (lit< tt)) (mod-lt (b / top) (lit< tt)))
      ∙ xor-swap (a * 2 % 2 ^ w) (b * 2 % 2 ^ w) (s * p) (t * p)

  bit-linear : (a b d e : ℕ) → bit_in w p (bit_xor a b) (bit_xor d e) ≡ bit_xor (bit_in w p a d) (bit_in w p b e)
  unfolding bit_in
  bit-linear a b d e =
      let top = 2 ^ (w - 1) in
      ap (λ (x : ℕ). shifted w p (bit_xor (bit_xor a b) x)) (xor-shl (w - 1) d e)
      ∙ ap (shifted w p) (xor-swap a b (d * top) (e * top))
      ∙ shifted-linear (bit_xor a (d * top)) (bit_xor b (e * top))

  bits-linear : (a b : ℕ) (x y : List ℕ) → length x ≡ length y
      → bits_in w p (bit_xor a b) (xor_each x y) ≡ bit_xor (bits_in w p a x) (bits_in w p b y)
  unfolding bits_in xor_each
  bits-linear a b [] [] h = refl
  bits-linear a b [] (e ∷ y) h = absurd (omega arith)
  bits-linear a b (d ∷ x) [] h = absurd (omega arith)
  bits-linear a b (d ∷ x) (e ∷ y) h =
      ap (λ (r : ℕ). bits_in w p r (xor_each x y)) (bit-linear a b d e)
      ∙ bits-linear (bit_in w p a d) (bit_in w p b e) x y (omega arith)

  register-linear : (a b : ℕ) (x y : List ℕ) → length x ≡ length y
      → bit_xor (register w p a x) (register w p b y) ≡ register w p (bit_xor a b) (xor_each x y)
  unfolding register
  register-linear a b x y h =
      sym (ap (bits_in w p (bit_xor a b)) (string-each x y h)
      ∙ bits-linear a b (bit_string x) (bit_string y) (omega (arith, string-length x, string-length y)))

pub linear : Linear
linear = register-linear

-- the difference of the starts runs over zeros, and the second part's register takes it in
pub joins : Joins
unfolding joined
joins w p start x y =
    let met = register w p start x in
    linear w p (bit_xor met start) start (replicate (length y) 0) y (length-replicate (length y) 0)
    ∙ ap₂ (register w p) (xor-back met start) (zeros-each y)
    ∙ continues w p start x y
