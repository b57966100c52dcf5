-- The picture, one part of an image at a time, and address by address.
-- Assumes nothing.
use Prim.Native.Nat.{ℕ, ◌<◌}
use mathlib.Core.Path.{◌≡◌, refl, sym, ap, subst, ◌∙◌}
use mathlib.Core.List.{List, [], ◌∷◌}
use mathlib.Core.Bool.{Bool, true, false, ◌||◌, cond, false≢true}
use lib.Dec.{eqb}
use lib.ListN.{length, set, get_or, replicate, length-set, length-replicate, get_or-replicate}
use lib.Seq.{get_or-set_same, get_or-set_other}
use borrow.Author.Tests.{eq-eqb}
use Rattle.firmware_text.specs.Image.{Image, segment, byte, end, broken, none, at}
use Rattle.text_image.specs.Rules.{among, repeated_of}
use Rattle.text_image.proofs.Sounds.{not_none}
use Rattle.text_image.specs.Picture.{placed, picture_of, Has, here, later, below, Shows}

-- ---- part by part

pub segment-placed : {a : ℕ} {i j : Image} → segment a i ≡ j → (l : List ℕ) → placed i l ≡ placed j l
unfolding placed
segment-placed e l = ap (λ (x : Image). placed x l) e

pub byte-placed : {p a v : ℕ} {i j : Image} → byte p a v i ≡ j → (l : List ℕ) → placed i (set l a v) ≡ placed j l
unfolding placed
byte-placed e l = ap (λ (x : Image). placed x l) e

pub end-placed : {j : Image} → end ≡ j → (l : List ℕ) → l ≡ placed j l
unfolding placed
end-placed e l = ap (λ (x : Image). placed x l) e

pub broken-placed : {p : ℕ} {j : Image} → broken p ≡ j → (l : List ℕ) → l ≡ placed j l
unfolding placed
broken-placed e l = ap (λ (x : Image). placed x l) e

pub length-placed : (i : Image) (l : List ℕ) → length (placed i l) ≡ length l
unfolding placed
length-placed (segment a i) l = length-placed i l
length-placed (byte p a v i) l = length-placed i (set l a v) ∙ length-set l a v
length-placed end l = refl
length-placed (broken p) l = refl

-- ---- a byte stays where its address is not given again

-- an address that is not given again was not seen
pub once_more : (seen : List ℕ) (p a v : ℕ) (i : Image) → repeated_of seen (byte p a v i) ≡ none
    → (among a seen ≡ false) × (repeated_of (a ∷ seen) i ≡ none)
unfolding repeated_of
once_more seen p a v i e = go (among a seen) refl e
  where
    go : (t : Bool) → among a seen ≡ t → cond t (at p) (repeated_of (a ∷ seen) i) ≡ none
        → (among a seen ≡ false) × (repeated_of (a ∷ seen) i ≡ none)
    go true h x = not_none p (at p) refl x
    go false h x = (h, x)

-- an address that was seen was seen before one more
seen_more : (a b : ℕ) (seen : List ℕ) → among a seen ≡ true → among a (b ∷ seen) ≡ true
seen_more a b seen e = go (eqb a b)
  where
    go : (t : Bool) → (t || among a seen) ≡ true
    go true = refl
    go false = e

pub just-seen : (a : ℕ) (seen : List ℕ) → among a (a ∷ seen) ≡ true
just-seen a seen = ap (λ (t : Bool). t || among a seen) (eq-eqb a a refl)

seen-not : (a b : ℕ) (seen : List ℕ) → among a seen ≡ true → among b seen ≡ false → a ≡ b → ⊥
seen-not a b seen e f i = false≢true (sym f ∙ ap (λ (x : ℕ). among x seen) (sym i) ∙ e)

pub placed-kept : (i : Image) (l seen : List ℕ) (a : ℕ) → repeated_of seen i ≡ none → among a seen ≡ true
    → get_or (placed i l) a 0 ≡ get_or l a 0
unfolding placed repeated_of
placed-kept (segment b i) l seen a e g = placed-kept i l seen a e g
placed-kept (byte p b w i) l seen a e g =
    let o = once_more seen p b w i e in
    placed-kept i (set l b w) (b ∷ seen) a o.1 (seen_more a b seen g) ∙ get_or-set_other l b a w 0 (seen-not a b seen g o.0)
placed-kept end l seen a e g = refl
placed-kept (broken p) l seen a e g = refl

-- ---- address by address

has-placed : {i : Image} {a v : ℕ} → Has i a v → (l seen : List ℕ) → a < length l → repeated_of seen i ≡ none → get_or (placed i l) a 0 ≡ v
unfolding placed repeated_of
has-placed (here {p = p} {a = a} {v = v} {i = i}) l seen h e =
    let o = once_more seen p a v i e in
    placed-kept i (set l a v) (a ∷ seen) a o.1 (just-seen a seen) ∙ get_or-set_same l a v 0 h
has-placed (later {p = p} {b = b} {w = w} {a = a} {i = i} x) l seen h e =
    let o = once_more seen p b w i e in
    has-placed x (set l b w) (b ∷ seen) (subst (λ (n : ℕ). a < n) (sym (length-set l b w)) h) o.1
has-placed (below x) l seen h e = has-placed x l seen h e

none-placed : (i : Image) (a : ℕ) → ((v : ℕ) → Has i a v → ⊥) → (l : List ℕ) → get_or (placed i l) a 0 ≡ get_or l a 0
unfolding placed
none-placed (segment b i) a f l = none-placed i a (λ v h. f v (below h)) l
none-placed (byte p b w i) a f l =
    none-placed i a (λ v h. f v (later h)) (set l b w)
    ∙ get_or-set_other l b a w 0 (λ (e : a ≡ b). f w (subst (λ (x : ℕ). Has (byte p b w i) x w) (sym e) here))
none-placed end a f l = refl
none-placed (broken p) a f l = refl

-- the picture of an image that gives no address twice: its bytes at their addresses, 0xFF elsewhere
pub picture-shows : (n : ℕ) (i : Image) → repeated_of [] i ≡ none → Shows n i (picture_of n i)
unfolding picture_of
picture-shows n i e =
    let blank = replicate {A = ℕ} n 0xFF in
    let size : length blank ≡ n = length-replicate {A = ℕ} n 0xFF in
    record {
      size = length-placed i blank ∙ size;
      given = λ a v h x. has-placed x blank [] (subst (λ (m : ℕ). a < m) (sym size) h) e;
      elsewhere = λ a h f. none-placed i a f blank ∙ get_or-replicate n a 0xFF 0 h;
    }
