-- The ones of a word are those of its bytes.
-- Assumes nothing.
use mathlib.Core.Bool.{Bool, true, false}
use borrow.Author.Tests.{ltb-true, ltb-false}
use lib.Dec.{ltb}
use mathlib.Core.Path.{◌≡◌, refl, ap, ◌∙◌, subst}
use mathlib.Core.List.{List}
use Prim.Native.Nat.{ℕ, zero, suc, ◌+◌, ◌*◌, ◌<◌, ◌≤◌}
use native.Mathlib.Nat.{mul_comm, add_comm}
use native.Mathlib.Omega.{arith}
use lib.Count.{ones, ones_cat, ones-le}
use lib.ListN.{length, get_or, drop, drop_of_length-le}
use Rattle.little_endian.specs.Bytes.{Bytes, number_at}
use Rattle.little_endian.proofs.Numbers.{number_past}
use Rattle.std.proofs.lemmas.List.{get_or_default}
use Rattle.std.specs.List.{sum_by}
use Rattle.std.specs.Simd.{first_chunks}
use Rattle.std.proofs.lemmas.List.Sums.{sum_by-cons, sum_by-take-drop, sum_by-drop_more, sum_by-le}
use lib.Seq.{drop-drop}
use lib.ListN.{take}
use Rattle.known_bits.specs.Known.{count_of}

-- a byte in front of a number
ones-byte : (x n : ℕ) → x < 256 → ones (x + 256 * n) ≡ ones n + ones x
ones-byte x n small = ap ones (add_comm x (256 * n) ∙ ap (λ (m : ℕ). m + x) (mul_comm 256 n)) ∙ ones_cat 8 n x small

-- past the end there is nothing to count
pub count_past : (b : List ℕ) (at : ℕ) → length b ≤ at → count_of (drop at b) ≡ 0
count_past b at past = ap count_of (drop_of_length-le b {i = at} past)

-- the bits of so many words, and of the bytes behind them, are all
pub words-count : (k : ℕ) (b : List ℕ) → sum_by count_of (first_chunks 8 k b) + count_of (drop (k * 8) b) ≡ count_of b
words-count zero b = omega arith
words-count (suc k) b =
    let next : suc k * 8 ≡ 8 + k * 8 = omega arith in
    let behind = ap count_of (drop-drop (k * 8) 8 b) in
    rw next
    (omega
    (arith, words-count k (drop 8 b), behind, sum_by-cons count_of (take 8 b) (first_chunks 8 k (drop 8 b)), sum_by-take-drop ones b 8))

module _ (b : List ℕ) (bytes : Bytes b) where
  -- so many bytes from a place on, and those behind them
  pub count-from : (count at : ℕ) → ones (number_at count at b) + count_of (drop (at + count) b) ≡ count_of (drop at b)
  unfolding number_at
  count-from zero at = let here : at + 0 ≡ at = omega arith in rw here (omega (arith, ones-le 0 0 (omega arith)))
  count-from (suc count) at = go (ltb at (length b)) refl (count-from count (at + 1))
    where
      go : (t : Bool) → ltb at (length b) ≡ t
          → ones (number_at count (at + 1) b) + count_of (drop (at + 1 + count) b) ≡ count_of (drop (at + 1) b)
          → ones (get_or b at 0 + 256 * number_at count (at + 1) b) + count_of (drop (at + suc count) b) ≡ count_of (drop at b)
      go true e more =
          let next : at + suc count ≡ at + 1 + count = omega arith in
          let front = ones-byte (get_or b at 0) (number_at count (at + 1) b) (bytes at) in
          rw next (omega (arith, more, front, sum_by-drop_more ones b at 0 (ltb-true _ _ e)))
      go false e more =
          let past : length b ≤ at = ltb-false _ _ e in
          let none : get_or b at 0 + 256 * number_at count (at + 1) b ≡ 0 = number_past (suc count) at b past in
          omega (arith, ap ones none, ones-le 0 0 (omega arith), count_past b at past, count_past b (at + suc count) (omega (arith, past)))

  -- the bytes of a word are all that its number has
  pub word-count : length b ≤ 8 → ones (number_at 8 0 b) ≡ count_of b
  word-count short = omega (arith, count-from 8 0, count_past b 8 short)

  -- no more than there are
  pub count-most : count_of b ≤ length b * 8
  count-most =
      sum_by-le ones 8 b (λ i d inside. ones-le 8 (get_or b i d) (subst (λ (x : ℕ). x < 256) (get_or_default b i 0 d inside) (bytes i)))
