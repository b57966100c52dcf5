-- A buffer is the picture if it agrees at each address given and is 0xFF elsewhere.
-- Assumes nothing.
use Prim.Native.Nat.{ℕ, ◌<◌, ◌≤◌}
use mathlib.Core.Path.{◌≡◌, refl, sym, ap, ◌∙◌}
use mathlib.Core.List.{List, [], ◌∷◌}
use mathlib.Core.Bool.{Bool, true, false, ◌&&◌, ◌||◌, false≢true}
use native.Mathlib.Omega.{arith}
use mathlib.Core.Logic.{◌⊎◌, inl, inr}
use lib.Dec.{eqb, ltb}
use lib.ListN.{length, set, get_or, replicate, length-set, length-replicate, get_or-replicate}
use lib.Seq.{get_or-set_same, get_or-set_other, ext_get_or}
use borrow.Author.Tests.{eqb-true, eqb-false, ltb-true, ltb-false}
use Rattle.region.specs.Same.{same}
use Rattle.region.proofs.Sames.{same_true, same_false}
use Rattle.firmware_text.specs.Image.{Image, segment, byte, end, none}
use Rattle.address_set.specs.Bits.{marked}
use Rattle.text_image.specs.Rules.{among, repeated_of, image_rules, is_sound}
use Rattle.text_image.proofs.Parts.{segment-repeated, byte-new}
use Rattle.text_image.specs.Picture.{placed, picture_of}
use Rattle.ti_txt.specs.Compared.{BlankElsewhere}
use Rattle.text_image.proofs.Pictures.{segment-placed, byte-placed, end-placed, once_more, just-seen, placed-kept}

-- what a walk has found so far of the image i, with j left to walk: l is blank but for the addresses seen, and agrees with the buffer there
pub record Agreed (buffer map : List ℕ) (i j : Image) : Type 0 where
  pub seen : List ℕ
  pub l : List ℕ
  pub sized : length l ≡ length buffer
  pub goal : placed j l ≡ picture_of (length buffer) i
  pub repeats : repeated_of seen j ≡ repeated_of [] i
  pub map_is : (a : ℕ) → marked map a ≡ among a seen
  pub agrees : (a : ℕ) → among a seen ≡ true → get_or l a 0 ≡ get_or buffer a 0
  pub blank : (a : ℕ) → among a seen ≡ false → a < length buffer → get_or l a 0 ≡ 0xFF

pub agreed-start : (buffer map : List ℕ) (i j : Image) → j ≡ i → ((a : ℕ) → marked map a ≡ false) → Agreed buffer map i j
unfolding picture_of
agreed-start buffer map i j e z =
    record {
      seen = [];
      l = replicate (length buffer) 0xFF;
      sized = length-replicate (length buffer) 0xFF;
      goal = ap (λ (x : Image). placed x (replicate (length buffer) 0xFF)) e;
      repeats = ap (repeated_of []) e;
      map_is = z;
      agrees = λ a x. absurd (false≢true x);
      blank = λ a x h. get_or-replicate (length buffer) a 0xFF 0 h;
    }

module _ (buffer map : List ℕ) (i j : Image) (h : Agreed buffer map i j) where
  pub agreed-segment : {a : ℕ} {k : Image} → segment a k ≡ j → Agreed buffer map i k
  agreed-segment e =
      record {
        seen = h.seen;
        l = h.l;
        sized = h.sized;
        goal = segment-placed e h.l ∙ h.goal;
        repeats = segment-repeated e h.seen ∙ h.repeats;
        map_is = h.map_is;
        agrees = h.agrees;
        blank = h.blank;
      }

  module _ (p a v : ℕ) (k : Image) (e : byte p a v k ≡ j) (inside : a < length buffer) where
    -- the picture of an image that gives no address twice has the byte at its address
    pub picture-at : repeated_of [] i ≡ none → get_or (picture_of (length buffer) i) a 0 ≡ v
    picture-at once =
        let o = once_more h.seen p a v k (ap (repeated_of h.seen) e ∙ h.repeats ∙ once) in
        ap (λ (x : List ℕ). get_or x a 0) (sym (byte-placed e h.l ∙ h.goal))
        ∙ placed-kept k (set h.l a v) (a ∷ h.seen) a o.1 (just-seen a h.seen)
        ∙ get_or-set_same h.l a v 0 (omega (arith, h.sized))

    pub agreed-byte : (new : List ℕ) → among a h.seen ≡ false → ((b : ℕ) → marked new b ≡ (eqb b a || marked map b)) → get_or buffer a 0 ≡ v
        → Agreed buffer new i k
    agreed-byte new first m b =
        record {
          seen = a ∷ h.seen;
          l = set h.l a v;
          sized = length-set h.l a v ∙ h.sized;
          goal = byte-placed e h.l ∙ h.goal;
          repeats = byte-new e h.seen first ∙ h.repeats;
          map_is = λ x. m x ∙ ap (λ (t : Bool). eqb x a || t) (h.map_is x);
          agrees = λ x y. was x (eqb x a) refl y;
          blank = λ x y z. not x (eqb x a) refl y z;
        }
      where
        was : (x : ℕ) (t : Bool) → eqb x a ≡ t → (t || among x h.seen) ≡ true → get_or (set h.l a v) x 0 ≡ get_or buffer x 0
        was x true q y =
            let s : x ≡ a = eqb-true x a q in
            ap (λ (n : ℕ). get_or (set h.l a v) n 0) s ∙ get_or-set_same h.l a v 0 (omega (arith, h.sized)) ∙ sym b
            ∙ ap (λ (n : ℕ). get_or buffer n 0) (sym s)
        was x false q y = get_or-set_other h.l a x v 0 (eqb-false x a q) ∙ h.agrees x y

        not : (x : ℕ) (t : Bool) → eqb x a ≡ t → (t || among x h.seen) ≡ false → x < length buffer → get_or (set h.l a v) x 0 ≡ 0xFF
        not x true q y z = absurd (false≢true (sym y))
        not x false q y z = get_or-set_other h.l a x v 0 (eqb-false x a q) ∙ h.blank x y z

  -- at the end of the text
  pub agreed-end : end ≡ j → (t : Bool) → BlankElsewhere buffer map t → t ≡ same buffer (picture_of (length buffer) i)
  agreed-end e true b =
      sym (same_true buffer (picture_of (length buffer) i) (ext_get_or 0 buffer h.l (sym h.sized) each ∙ end-placed e h.l ∙ h.goal))
    where
      each : (x : ℕ) → x < length buffer → get_or buffer x 0 ≡ get_or h.l x 0
      each x k = go (among x h.seen) refl
        where
          go : (t : Bool) → among x h.seen ≡ t → get_or buffer x 0 ≡ get_or h.l x 0
          go true y = sym (h.agrees x y)
          go false y = b x k (h.map_is x ∙ y) ∙ sym (h.blank x y k)
  agreed-end e false b =
      sym (same_false buffer (picture_of (length buffer) i)
      (λ (s : buffer ≡ picture_of (length buffer) i). b.3
      (ap (λ (x : List ℕ). get_or x b.0 0) (s ∙ sym (end-placed e h.l ∙ h.goal)) ∙ h.blank b.0 (sym (h.map_is b.0) ∙ b.2) b.1)))

-- a buffer that cannot be the picture of a sound text
pub cannot-be : (buffer : List ℕ) (i : Image)
    → (is_sound (image_rules (length buffer) i) ≡ true → buffer ≡ picture_of (length buffer) i → ⊥)
    → false ≡ (is_sound (image_rules (length buffer) i) && same buffer (picture_of (length buffer) i))
cannot-be buffer i f = go (is_sound (image_rules (length buffer) i)) refl
  where
    go : (t : Bool) → is_sound (image_rules (length buffer) i) ≡ t → false ≡ (t && same buffer (picture_of (length buffer) i))
    go true e = sym (same_false buffer (picture_of (length buffer) i) (f e))
    go false e = refl

-- an address lies outside or inside
pub beyond_or_inside : (a n : ℕ) → (n ≤ a) ⊎ (a < n)
beyond_or_inside a n = go (ltb a n) refl
  where
    go : (t : Bool) → ltb a n ≡ t → (n ≤ a) ⊎ (a < n)
    go true h = inr (ltb-true a n h)
    go false h = inl (ltb-false a n h)
