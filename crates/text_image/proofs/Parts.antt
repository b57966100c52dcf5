-- The rules, one part of an image at a time.
-- Assumes nothing.
use Prim.Native.Nat.{ℕ, ◌<◌, ◌≤◌}
use mathlib.Core.Path.{◌≡◌, ap, subst}
use mathlib.Core.List.{List, ◌∷◌}
use mathlib.Core.Bool.{true, false}
use borrow.Author.Tests.{le-leb, lt-leb}
use Rattle.firmware_text.specs.Image.{Image, segment, byte, end, none, at}
use Rattle.text_image.specs.Rules.{outside_of, among, repeated_of}

-- an image j that begins with a segment
module _ {a : ℕ} {i j : Image} (e : segment a i ≡ j) where
  pub segment-outside : (n : ℕ) → outside_of n i ≡ outside_of n j
  unfolding outside_of
  segment-outside n = ap (outside_of n) e

  pub segment-repeated : (seen : List ℕ) → repeated_of seen i ≡ repeated_of seen j
  unfolding repeated_of
  segment-repeated seen = ap (repeated_of seen) e

-- an image j that begins with a byte
module _ {p a v : ℕ} {i j : Image} (e : byte p a v i ≡ j) where
  pub byte-outside : (n : ℕ) → n ≤ a → at p ≡ outside_of n j
  unfolding outside_of
  byte-outside n h = subst (λ (x : Image). at p ≡ outside_of n x) e (rw (le-leb n a h))

  pub byte_inside : (n : ℕ) → a < n → outside_of n i ≡ outside_of n j
  unfolding outside_of
  byte_inside n h = subst (λ (x : Image). outside_of n i ≡ outside_of n x) e (rw (lt-leb n a h))

  pub byte-repeated : (seen : List ℕ) → among a seen ≡ true → at p ≡ repeated_of seen j
  unfolding repeated_of
  byte-repeated seen h = subst (λ (x : Image). at p ≡ repeated_of seen x) e (rw h)

  pub byte-new : (seen : List ℕ) → among a seen ≡ false → repeated_of (a ∷ seen) i ≡ repeated_of seen j
  unfolding repeated_of
  byte-new seen h = subst (λ (x : Image). repeated_of (a ∷ seen) i ≡ repeated_of seen x) e (rw h)

-- an image that has ended
module _ {j : Image} (e : end ≡ j) where
  pub end-outside : (n : ℕ) → none ≡ outside_of n j
  unfolding outside_of
  end-outside n = ap (outside_of n) e

  pub end-repeated : (seen : List ℕ) → none ≡ repeated_of seen j
  unfolding repeated_of
  end-repeated seen = ap (repeated_of seen) e
