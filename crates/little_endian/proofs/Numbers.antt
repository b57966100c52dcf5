-- Laws of numbers as bytes: what is written is read back, and what is read is written again.
-- Assumes nothing.
use mathlib.Core.Path.{◌≡◌, refl, sym, ap, ◌∙◌}
use mathlib.Core.Bool.{Bool, true, false}
use mathlib.Core.List.{List, [], ◌∷◌, ◌++◌}
use Prim.Native.Nat.{ℕ, zero, suc, ◌+◌, ◌*◌, ◌/◌, ◌%◌, ◌^◌, ◌<◌, ◌≤◌}
use native.Mathlib.Nat.{pow-succ'}
use native.Mathlib.Numerals.{add-one}
use native.Mathlib.Omega.{arith}
use borrow.Author.Tests.{ltb-true, ltb-false}
use lib.Dec.{ltb}
use lib.ListN.{length, get_or, take, drop, replicate, get_or-eq_default, drop_of_length-le}
use lib.Seq.{drop-cons, drop-length}
use Rattle.little_endian.specs.Bytes.{Bytes, number_at, stretch, little_endian}

-- past the end there is no number but 0
pub number_past : (count at : ℕ) (b : List ℕ) → length b ≤ at → number_at count at b ≡ 0
unfolding number_at
number_past zero at b h = refl
number_past (suc count) at b h = omega (arith, get_or-eq_default b 0 h, number_past count (at + 1) b (omega arith))

-- the number of four bytes is made of those of two
pub number-halves : (at : ℕ) (b : List ℕ) → number_at 4 at b ≡ number_at 2 at b + 65536 * number_at 2 (at + 2) b
unfolding number_at
number-halves at b = let place : at + 1 + 1 ≡ at + 2 = omega arith in rw place (omega arith)

-- the number of all bytes of a list
abbrev pub whole : List ℕ → ℕ
whole [] = 0
whole (x ∷ xs) = x + 256 * whole xs

-- a number that fits so many bytes is the number of those bytes
pub number-again : (count n : ℕ) → n < 256 ^ count → whole (little_endian count n) ≡ n
number-again zero n h = omega arith
number-again (suc count) n h =
    let power : 256 ^ suc count ≡ 256 * 256 ^ count = pow-succ' 256 count in
    let rest : n / 256 < 256 ^ count = omega arith in
    omega (arith, number-again count (n / 256) rest)

-- the elements from a place to the end
pub stretched : (b : List ℕ) (at count : ℕ) → length b ≡ at + count → drop at b ≡ stretch count at b
stretched b at zero h = let e : at ≡ length b = omega arith in rw (e, drop-length)
stretched b at (suc count) h =
    let inside : at < length b = omega arith in
    let rest : length b ≡ at + 1 + count = omega arith in
    drop-cons b at 0 inside
    ∙ ap (λ (l : List ℕ). get_or b at 0 ∷ l) (ap (λ (n : ℕ). drop n b) (sym (add-one at)) ∙ stretched b (at + 1) count rest)

past : (count at : ℕ) (b : List ℕ) → length b ≤ at → stretch count at b ≡ replicate count 0
past zero at b h = refl
past (suc count) at b h = rw (get_or-eq_default b 0 h, past count (at + 1) b (omega arith)) refl

-- they are what a list has of them, and zeros behind it
pub padded : (count at : ℕ) (b : List ℕ)
    → take count (drop at b) ++ drop (length (take count (drop at b))) (replicate count 0) ≡ stretch count at b
padded zero at b = refl
padded (suc count) at b = go (padded count (at + 1) b) (ltb at (length b)) refl
  where
    go : take count (drop (at + 1) b) ++ drop (length (take count (drop (at + 1) b))) (replicate count 0) ≡ stretch count (at + 1) b
        → (t : Bool) → ltb at (length b) ≡ t
        → take (suc count) (drop at b) ++ drop (length (take (suc count) (drop at b))) (replicate (suc count) 0) ≡ stretch (suc count) at b
    go rest true e = rw (drop-cons b at 0 (ltb-true _ _ e), ← add-one at) (ap (λ (l : List ℕ). get_or b at 0 ∷ l) rest)
    go rest false e = let h : length b ≤ at = ltb-false _ _ e in rw (drop_of_length-le b h) (sym (past (suc count) at b h))

module _ (b : List ℕ) (bytes : Bytes b) where
  -- the bytes of a number are those that it was read from
  pub bytes-again : (count at : ℕ) → little_endian count (number_at count at b) ≡ stretch count at b
  unfolding number_at
  bytes-again zero at = refl
  bytes-again (suc count) at =
      let x = get_or b at 0 in
      let n = number_at count (at + 1) b in
      let small : x < 256 = bytes at in
      let low : (x + 256 * n) % 256 ≡ x = omega arith in
      let high : (x + 256 * n) / 256 ≡ n = omega arith in
      rw (low, high, bytes-again count (at + 1))

  pub number_lt : (count at : ℕ) → number_at count at b < 256 ^ count
  unfolding number_at
  number_lt zero at = omega arith
  number_lt (suc count) at = omega (arith, pow-succ' 256 count, number_lt count (at + 1), bytes at)
