-- Parts of a region that are still 0xFF, which take any bytes, and the parts that an image has yet to fill.
-- Assumes nothing.
use mathlib.Core.Path.{◌≡◌, refl, sym, ap, ◌∙◌, subst}
use mathlib.Core.Bool.{Bool, true, false, cond, ◌||◌, false≢true}
use mathlib.Core.List.{List, [], ◌∷◌, ◌++◌}
use Prim.Native.Nat.{ℕ, suc, ◌+◌, ◌<◌, ◌≤◌}
use native.Mathlib.Nat.{mod-eq_of_lt}
use native.Mathlib.Numerals.{add-one}
use native.Mathlib.Omega.{arith}
use borrow.Author.Tests.{eq-eqb, eqb-false, leb-false}
use lib.Bits.{bit_and, and_comm, and_mask}
use lib.Dec.{eqb, leb}
use lib.ListN.{length, get_or, take, drop, set, replicate, length-set, length-replicate, length-drop, get_or-replicate, replicate-append-replicate}
use lib.Seq.{take-add, take_at, drop_at, drop-drop, drop-cons, length-take-le, get_or-set_other, sets}
use Rattle.firmware_text.specs.Image.{Image, segment, byte, end, broken, none}
use Rattle.firmware_text.specs.Image as image
use Rattle.firmware_text.specs.Order.{Rising, InOrder}
use Rattle.firmware_text.specs.Segments.{bytes_ahead}
use Rattle.firmware_text.proofs.Values.{Valued}
use Rattle.flash.specs.Flash.{writable}
use Rattle.little_endian.specs.Bytes.{stored_at}
use Rattle.little_endian.proofs.AllBytes.{AllBytes}
use Rattle.little_endian.proofs.Stored.{stored-length, stored-behind}
use Rattle.text_image.specs.Picture.{placed}
use Rattle.text_image.specs.Rules.{outside_of, among, repeated_of}
use Rattle.text_image.proofs.Pictures.{once_more}
use Rattle.text_image.proofs.Sounds.{not_none}

-- so many bytes of a region from an address on are 0xFF
pub record Blank (region : List ℕ) (at n : ℕ) : Type 0 where
  pub fits : at + n ≤ length region
  pub blank : take n (drop at region) ≡ replicate n 0xFF

-- any bytes may be written over 0xFF
over-blank : (new : List ℕ) → AllBytes new → writable (replicate (length new) 0xFF) new ≡ true
unfolding writable
over-blank [] a = refl
over-blank (d ∷ new) a =
    let kept : d ≡ bit_and 0xFF d = sym (and_comm 0xFF d ∙ and_mask d 8 ∙ mod-eq_of_lt a.0) in
    rw (eq-eqb d (bit_and 0xFF d) kept, over-blank new a.1)

pub blank-writable : (region : List ℕ) (at : ℕ) (new : List ℕ) → Blank region at (length new) → AllBytes new → writable (take (length new) (drop at region)) new ≡ true
blank-writable region at new b a = rw b.blank (over-blank new a)

-- a part is blank where its two parts are
module _ (region : List ℕ) (at j k : ℕ) (b : Blank region at (j + k)) where
  parts : take j (drop at region) ++ take k (drop j (drop at region)) ≡ replicate j 0xFF ++ replicate k 0xFF
  parts = sym (take-add j k (drop at region)) ∙ b.blank ∙ sym (replicate-append-replicate j k 0xFF)

  first-long : length (take j (drop at region)) ≡ j
  first-long = length-take-le j (drop at region) (rw (length-drop at region) (omega (arith, b.fits)))

  pub blank-first : Blank region at j
  blank-first =
      record {
        fits = omega (arith, b.fits);
        blank = sym (take_at (take j (drop at region)) (take k (drop j (drop at region))) j first-long) ∙ ap (take j) parts ∙ take_at (replicate j 0xFF) (replicate k 0xFF) j (length-replicate j 0xFF);
      }

  second : take k (drop j (drop at region)) ≡ replicate k 0xFF
  second = sym (drop_at (take j (drop at region)) (take k (drop j (drop at region))) j first-long) ∙ ap (drop j) parts ∙ drop_at (replicate j 0xFF) (replicate k 0xFF) j (length-replicate j 0xFF)

  -- bytes stored in the first leave the second blank
  pub blank-second : (new : List ℕ) → length new ≡ j → Blank (stored_at at new region) (at + j) k
  blank-second new long =
      let room : at + length new ≤ length region = omega (arith, b.fits) in
      let kept : drop (at + j) (stored_at at new region) ≡ drop (at + j) region = subst (λ (n : ℕ). drop (at + n) (stored_at at new region) ≡ drop (at + n) region) long (stored-behind at new region room) in
      record {
        fits = omega (arith, b.fits, stored-length at new region room);
        blank = ap (take k) (kept ∙ sym (drop-drop j at region)) ∙ second;
      }

-- ---- what an image has yet to fill

-- an image whose bytes may be put: no address is outside the region or was given before, and what was not given is 0xFF
pub record Ready (n : ℕ) (region : List ℕ) (i : Image) : Type 0 where
  pub seen : List ℕ
  pub sized : length region ≡ n
  pub inside : outside_of n i ≡ none
  pub once : repeated_of seen i ≡ none
  pub fresh : (a : ℕ) → a < n → among a seen ≡ false → get_or region a 0 ≡ 0xFF
  pub order : InOrder i
  pub valued : Valued i

-- what is left of an image behind the bytes that stand next in the same segment
abbrev pub past : Image → Image
past (segment a i) = segment a i
past (byte p a v i) = past i
past end = end
past (broken p) = broken p

-- a byte that is not outside
byte_inside : (n p a v : ℕ) (i : Image) → outside_of n (byte p a v i) ≡ none → (a < n) × (outside_of n i ≡ none)
unfolding outside_of
byte_inside n p a v i e = go (leb n a) refl e
  where
    go : (t : Bool) → leb n a ≡ t → cond t (image.at p) (outside_of n i) ≡ none → (a < n) × (outside_of n i ≡ none)
    go true h x = not_none p (image.at p) refl x
    go false h x = (leb-false n a h, x)

-- an address that is not among those seen and one more
unseen : (b a : ℕ) (seen : List ℕ) → among b (a ∷ seen) ≡ false → (b ≡ a → ⊥) × (among b seen ≡ false)
unseen b a seen e = go (eqb b a) refl e
  where
    go : (t : Bool) → eqb b a ≡ t → (t || among b seen) ≡ false → (b ≡ a → ⊥) × (among b seen ≡ false)
    go true h x = absurd (false≢true (sym x))
    go false h x = (eqb-false b a h, x)

module _ (n : ℕ) (region : List ℕ) where
  pub ready-segment : (a : ℕ) (i : Image) → Ready n region (segment a i) → Ready n region i
  unfolding outside_of repeated_of
  ready-segment a i r = record { seen = r.seen; sized = r.sized; inside = r.inside; once = r.once; fresh = r.fresh; order = r.order.1; valued = r.valued }

  -- the next byte's address is inside and still 0xFF
  byte-blank : (p a v : ℕ) (i : Image) → Ready n region (byte p a v i) → (a < n) × (get_or region a 0 ≡ 0xFF)
  byte-blank p a v i r =
      let fits = (byte_inside n p a v i r.inside).0 in
      (fits, r.fresh a fits (once_more r.seen p a v i r.once).0)

  -- one byte is passed over, or put
  module _ (p a v : ℕ) (i : Image) (r : Ready n region (byte p a v i)) where
    pub ready-over : Ready n region i
    ready-over =
        record {
          seen = a ∷ r.seen;
          sized = r.sized;
          inside = (byte_inside n p a v i r.inside).1;
          once = (once_more r.seen p a v i r.once).1;
          fresh = λ b h f. r.fresh b h (unseen b a r.seen f).1;
          order = r.order;
          valued = r.valued.1;
        }

    pub ready-put : Ready n (set region a v) i
    ready-put =
        record {
          seen = a ∷ r.seen;
          sized = length-set region a v ∙ r.sized;
          inside = (byte_inside n p a v i r.inside).1;
          once = (once_more r.seen p a v i r.once).1;
          fresh = λ b h f.
              let u = unseen b a r.seen f in
              get_or-set_other region a b v 0 u.0 ∙ r.fresh b h u.1;
          order = r.order;
          valued = r.valued.1;
        }

-- no bytes are blank at every address of a region
blank_none : (n : ℕ) (region : List ℕ) (a : ℕ) → length region ≡ n → a ≤ n → Blank region a 0
blank_none n region a sized inside = record { fits = omega arith; blank = refl }

-- bytes that stand next begin inside
pub ahead-inside : (n : ℕ) (region : List ℕ) (i : Image) (a : ℕ) → Ready n region i → Rising a i → 1 ≤ length (bytes_ahead i) → a ≤ n
ahead-inside n region (segment b i) a r up some = absurd (omega arith)
ahead-inside n region (byte p b v i) a r up some = omega (arith, (byte-blank n region p b v i r).0, up.0)
ahead-inside n region end a r up some = absurd (omega arith)
ahead-inside n region (broken p) a r up some = absurd (omega arith)

-- the bytes that stand next are inside and still 0xFF
pub ahead-blank : (n : ℕ) (region : List ℕ) (i : Image) (a : ℕ) → Ready n region i → Rising a i → a ≤ n → Blank region a (length (bytes_ahead i))
ahead-blank n region (segment b i) a r up inside = blank_none n region a r.sized inside
ahead-blank n region (byte p b v i) a r up inside =
    let here = byte-blank n region p b v i r in
    let at_a : a < length region = omega (arith, here.0, up.0, r.sized) in
    let more = ahead-blank n region i (a + 1) (ready-over n region p b v i r) up.1 (omega (arith, here.0, up.0)) in
    let first : get_or region a 0 ≡ 0xFF = subst (λ (k : ℕ). get_or region k 0 ≡ 0xFF) up.0 here.1 in
    record {
      fits = omega (arith, more.fits);
      blank = ap (take (suc (length (bytes_ahead i)))) (drop-cons region a 0 at_a) ∙ rw (first, ← (add-one a), more.blank) refl;
    }
ahead-blank n region end a r up inside = blank_none n region a r.sized inside
ahead-blank n region (broken p) a r up inside = blank_none n region a r.sized inside

-- the bytes that stand next are bytes
pub ahead-bytes : (i : Image) → Valued i → AllBytes (bytes_ahead i)
ahead-bytes (segment a i) h = tt
ahead-bytes (byte p a v i) h = (h.0, ahead-bytes i h.1)
ahead-bytes end h = tt
ahead-bytes (broken p) h = tt

-- putting them leaves what is behind them to be put
pub ahead-put : (n : ℕ) (region : List ℕ) (i : Image) (a : ℕ) → Ready n region i → Rising a i
    → Ready n (sets region a (bytes_ahead i)) (past i) × (placed (past i) (sets region a (bytes_ahead i)) ≡ placed i region)
unfolding placed
ahead-put n region (segment b i) a r up = (r, refl)
ahead-put n region (byte p b v i) a r up =
    let more = ahead-put n (set region b v) i (suc a) (ready-put n region p b v i r) (subst (λ (k : ℕ). Rising k i) (add-one a) up.1) in
    subst (λ (k : ℕ). Ready n (sets (set region k v) (suc a) (bytes_ahead i)) (past i) × (placed (past i) (sets (set region k v) (suc a) (bytes_ahead i)) ≡ placed i (set region b v))) up.0 more
ahead-put n region end a r up = (r, refl)
ahead-put n region (broken p) a r up = (r, refl)

-- an erased region has an image yet to be put
pub ready-erased : (n : ℕ) (i : Image) → outside_of n i ≡ none → repeated_of [] i ≡ none → InOrder i → Valued i → Ready n (replicate n 0xFF) i
ready-erased n i inside once order valued =
    record { seen = []; sized = length-replicate n 0xFF; inside = inside; once = once; fresh = λ a h f. get_or-replicate n a 0xFF 0 h; order = order; valued = valued }
