-- Laws of the register at every width and polynomial: one bit more, one part and then another, one byte more, and that it
-- keeps its width.
-- Assumes nothing.
use mathlib.Core.Path.{◌≡◌, refl, sym, ap, ◌∙◌}
use mathlib.Core.List.{List, [], ◌∷◌, ◌++◌, append-nil, append_assoc}
use Prim.Native.Nat.{ℕ, zero, suc, ◌+◌, ◌-◌, ◌*◌, ◌/◌, ◌%◌, ◌^◌, ◌<◌}
use native.Mathlib.Nat.{mod-lt}
use native.Mathlib.Numerals.{add-one}
use native.Mathlib.Omega.{arith}
use lib.Bits.{bit_xor, xor_lt}
use lib.ListN.{length, get_or, drop}
use lib.Pow.{pow_pos}
use lib.Seq.{drop-cons}
use Rattle.crc.specs.Crc.{shifted, bit_in, bits_in, bits_of, bit_string, register, checksum_of}
use Rattle.crc.specs.Laws.{Continues}

-- joined bytes have the bits of the one part and then those of the other
string-joined : (x y : List ℕ) → bit_string (x ++ y) ≡ bit_string x ++ bit_string y
unfolding bit_string
string-joined [] y = refl
string-joined (b ∷ x) y =
    ap (λ (l : List ℕ). bits_of 8 b ++ l) (string-joined x y) ∙ sym (append_assoc (bits_of 8 b) (bit_string x) (bit_string y))

module _ (w p : ℕ) where
  -- of the n - i bits left the highest goes first
  pub bits-next : (r b n i : ℕ) → i < n
      → bits_in w p r (bits_of (n - i) b) ≡ bits_in w p (bit_in w p r (b / 2 ^ (n - 1 - i) % 2)) (bits_of (n - (i + 1)) b)
  unfolding bits_in bits_of
  bits-next r b n i h =
      let left : n - i ≡ suc (n - (i + 1)) = omega arith in
      let place : n - 1 - i ≡ n - (i + 1) = omega arith in
      rw (left, place)

  -- running over one string of bits and then another gives what the joined bits give
  bits-joined : (r : ℕ) (x y : List ℕ) → bits_in w p r (x ++ y) ≡ bits_in w p (bits_in w p r x) y
  unfolding bits_in
  bits-joined r [] y = refl
  bits-joined r (d ∷ x) y = bits-joined (bit_in w p r d) x y

  -- one byte is its eight bits
  pub register-byte : (r b : ℕ) → register w p r (b ∷ []) ≡ bits_in w p r (bits_of 8 b)
  unfolding register bit_string
  register-byte r b = ap (bits_in w p r) (append-nil (bits_of 8 b))

  -- running over one string of bytes and then another gives what the joined bytes give
  register-joined : (r : ℕ) (x y : List ℕ) → register w p (register w p r x) y ≡ register w p r (x ++ y)
  unfolding register
  register-joined r x y = sym (ap (bits_in w p r) (string-joined x y) ∙ bits-joined r (bit_string x) (bit_string y))

  -- one byte more
  pub register-next : (r : ℕ) (s : List ℕ) (i : ℕ) → i < length s
      → register w p r (drop i s) ≡ register w p (register w p r (get_or s i 0 ∷ [])) (drop (i + 1) s)
  register-next r s i h =
      ap (register w p r) (rw (add-one, drop-cons s i 0)) ∙ sym (register-joined r (get_or s i 0 ∷ []) (drop (i + 1) s))

pub continues : Continues
continues = register-joined

-- a number taken once or not at all
once-lt : (bit n bound : ℕ) → bit < 2 → n < bound → bit * n < bound
once-lt zero n bound b h = omega arith
once-lt (suc zero) n bound b h = omega arith
once-lt (suc (suc bit)) n bound b h = absurd (omega arith)

-- a register whose width holds the polynomial keeps that width
module _ (w p : ℕ) (fits : p < 2 ^ w) where
  shifted-lt : (r : ℕ) → shifted w p r < 2 ^ w
  unfolding shifted
  shifted-lt r = xor_lt w _ _ (mod-lt (r * 2) (pow_pos w)) (once-lt (r / 2 ^ (w - 1) % 2) p (2 ^ w) (omega arith) fits)

  bits-lt : (r : ℕ) → r < 2 ^ w → (bits : List ℕ) → bits_in w p r bits < 2 ^ w
  unfolding bits_in bit_in
  bits-lt r h [] = h
  bits-lt r h (d ∷ bits) = bits-lt (bit_in w p r d) (shifted-lt (bit_xor r (d * 2 ^ (w - 1)))) bits

  pub register-lt : (r : ℕ) → r < 2 ^ w → (bytes : List ℕ) → register w p r bytes < 2 ^ w
  unfolding register
  register-lt r h bytes = bits-lt r h (bit_string bytes)

pub checksum-lt : (bytes : List ℕ) → checksum_of bytes < 65536
checksum-lt = register-lt 16 0x1021 (omega arith) 0xFFFF (omega arith)
