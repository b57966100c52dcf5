-- How far a walk through a text is, one token at a time.
-- Assumes nothing.
use Prim.Native.Nat.{ℕ, ◌/◌, ◌<◌, ◌≤◌}
use mathlib.Core.Path.{◌≡◌, refl, sym, ap, ◌∙◌}
use mathlib.Core.List.{List, [], ◌∷◌}
use mathlib.Core.Bool.{Bool, true, false, ◌||◌}
use native.Mathlib.Omega.{arith}
use lib.Dec.{eqb}
use lib.ListN.{length}
use Rattle.std.proofs.Common.{Option, Some, None}
use Rattle.std.specs.Option.{option_or}
use Rattle.firmware_text.specs.Image.{Image, segment, byte, end, broken, at, fault_of}
use Rattle.address_set.specs.Bits.{marked, Marked}
use Rattle.address_set.proofs.Maps.{marked_more}
use Rattle.text_image.specs.Rules.{outside_of, among, repeated_of, refused, image_rules}
use Rattle.text_image.specs.Walk.{said}
use Rattle.text_image.proofs.Parts.{segment-outside, segment-repeated, byte-outside, byte_inside, byte-repeated, byte-new, end-outside}
use Rattle.text_image.proofs.Parts.{end-repeated}

-- what is found in the image i, with j left to walk: its first pair outside, its first repeated; the map holds the addresses seen until a
-- rule is broken
abbrev pub Noted : Option ℕ → Option ℕ → ℕ → List ℕ → Image → Image → Type 0
Noted None None n map i j =
    (outside_of n j ≡ outside_of n i)
    × ((seen : List ℕ) × (repeated_of seen j ≡ repeated_of [] i) × ((a : ℕ) → marked map a ≡ among a seen))
Noted None (Some p) n map i j = (outside_of n j ≡ outside_of n i) × (at p ≡ repeated_of [] i)
Noted (Some p) r n map i j = at p ≡ outside_of n i

module _ (n : ℕ) (i : Image) where
  pub noted-start : (map : List ℕ) (j : Image) → j ≡ i → ((a : ℕ) → marked map a ≡ false) → Noted None None n map i j
  noted-start map j e z = (ap (outside_of n) e, ([], ap (repeated_of []) e, z))

  module _ (map : List ℕ) (j : Image) where
    pub noted-segment : {a : ℕ} {k : Image} → segment a k ≡ j → (o r : Option ℕ) → Noted o r n map i j → Noted o r n map i k
    noted-segment e None None w = (segment-outside e n ∙ w.0, (w.1.0, segment-repeated e w.1.0 ∙ w.1.1, w.1.2))
    noted-segment e None (Some p) w = (segment-outside e n ∙ w.0, w.1)
    noted-segment e (Some p) r w = w

    -- a byte outside
    pub noted-outside : (p a v : ℕ) (k : Image) → byte p a v k ≡ j → n ≤ a → (o r : Option ℕ) → Noted o r n map i j
        → Noted (option_or o (Some p)) r n map i k
    noted-outside p a v k e far None None w = byte-outside e n far ∙ w.0
    noted-outside p a v k e far None (Some q) w = byte-outside e n far ∙ w.0
    noted-outside p a v k e far (Some q) r w = w

    module _ (p a v : ℕ) (k : Image) (new : List ℕ) (e : byte p a v k ≡ j) (inside : a < n) (small : n ≤ 262144) (sized : length map ≡ 32768)
        (m : Marked map new a) where
      -- a byte at an address that was given before
      pub noted-again : marked map a ≡ true → (o r : Option ℕ) → Noted o r n map i j → Noted o (option_or r (Some p)) n new i k
      noted-again g None None w = (byte_inside e n inside ∙ w.0, byte-repeated e w.1.0 (sym (w.1.2 a) ∙ g) ∙ w.1.1)
      noted-again g None (Some q) w = (byte_inside e n inside ∙ w.0, w.1)
      noted-again g (Some q) r w = w

      -- a byte at a new one
      pub noted-new : marked map a ≡ false → (o r : Option ℕ) → Noted o r n map i j → Noted o r n new i k
      noted-new g None None w =
          let fits : a / 8 < length map = omega arith in (
            byte_inside e n inside ∙ w.0,
            (
              a ∷ w.1.0,
              byte-new e w.1.0 (sym (w.1.2 a) ∙ g) ∙ w.1.1,
              λ b. marked_more map new a fits m b ∙ ap (λ (x : Bool). eqb b a || x) (w.1.2 b),
            ),
          )
      noted-new g None (Some q) w = (byte_inside e n inside ∙ w.0, w.1)
      noted-new g (Some q) r w = w

    -- a text that is well-formed to its end
    pub noted-end : end ≡ j → fault_of j ≡ fault_of i → (o r : Option ℕ) → Noted o r n map i j → said o r ≡ image_rules n i
    unfolding image_rules
    noted-end e g None None w = rw (← (ap fault_of e ∙ g), ← (end-outside e n ∙ w.0), ← (end-repeated e w.1.0 ∙ w.1.1)) refl
    noted-end e g None (Some p) w = rw (← (ap fault_of e ∙ g), ← (end-outside e n ∙ w.0), ← w.1) refl
    noted-end e g (Some p) r w = rw (← (ap fault_of e ∙ g), ← w) refl

  -- and one that is malformed
  pub noted-broken : (j : Image) (p : ℕ) → broken p ≡ j → fault_of j ≡ fault_of i → refused 3 p ≡ image_rules n i
  unfolding image_rules
  noted-broken j p e g = rw (← (ap fault_of e ∙ g)) refl
