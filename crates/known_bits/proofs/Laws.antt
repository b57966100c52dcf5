-- Laws of known bits.
-- Assumes nothing.
use mathlib.Core.Path.{◌≡◌, refl, sym, ap, ap₂, ◌∙◌, subst}
use mathlib.Core.Bool.{Bool, true, false, cond, ◌||◌}
use mathlib.Core.List.{List, [], ◌∷◌}
use Prim.Native.Nat.{ℕ, zero, suc, ◌+◌, ◌*◌, ◌/◌, ◌%◌, ◌^◌, ◌-◌, ◌<◌, ◌≤◌}
use native.Mathlib.Nat.{pow-suc, pow-succ', div-one, div-div-eq-div-mul, div-lt_iff_lt-mul, zero-lt-suc, suc_inj}
use Prim.Native.Nat.{suc-le-suc}
use Rattle.address_set.proofs.Maps.{unmarked}
use native.Mathlib.Omega.{arith}
use borrow.Author.Tests.{eqb-true, eqb-false, eq-eqb, ne_eqb, le-ltb, ltb-true, ltb-false, leb-true}
use lib.Count.{ones, ones_step, ones-le}
use lib.Dec.{eqb, leb, ltb}
use lib.ListN.{length, get_or, take, drop, replicate, length-replicate, length-drop, get_or-replicate}
use lib.Seq.{get_or-take, get_or-drop, length-take-le}
use Rattle.std.proofs.lemmas.List.Sums.{sum_by-cons}
use Rattle.address_set.specs.Bits.{marked}
use Rattle.little_endian.specs.Bytes.{Bytes, stored_at}
use Rattle.little_endian.proofs.Stored.{stored-length, stored-inside, stored-outside}
use Rattle.test_laws.proofs.Tests.{both, below}
use Rattle.known_bits.specs.Known.{longest_map, count_of, unset, unknown_of, between}
use Rattle.known_bits.specs.Known.{WithRange, differ, alike_bits, alike_bytes, known_of, Knows}
use Rattle.known_bits.proofs.Ranges.{range-adds}

-- ---- counting

-- the lowest bit of a number, as a place that differs or not
low_bit : (r : ℕ) (t : Bool) → r < 2 → eqb r 1 ≡ t → cond t 0 1 + r ≡ 1
low_bit r true small e = omega (arith, eqb-true r 1 e)
low_bit r false small e = let other : r ≡ 1 → ⊥ = eqb-false r 1 e in omega (arith, small, other)

-- the places of k bytes, by the bits of a number below 2 ^ k
bits-differ : (k n : ℕ) (z f : List ℕ) → length z ≡ k → length f ≡ k → n < 2 ^ k
    → ((j : ℕ) → j < k → eqb (n / 2 ^ j % 2) 1 ≡ eqb (get_or z j 0) (get_or f j 0)) → differ z f + ones n ≡ k
unfolding differ
bits-differ zero n [] f lz lf small bit = omega (arith, ones-le 0 n small)
bits-differ zero n (x ∷ z) f lz lf small bit = absurd (omega (arith, lz))
bits-differ (suc k) n [] f lz lf small bit = absurd (omega (arith, lz))
bits-differ (suc k) n (x ∷ z) [] lz lf small bit = absurd (omega (arith, lf))
bits-differ (suc k) n (x ∷ z) (y ∷ f) lz lf small bit =
    let half : n / 2 < 2 ^ k = (div-lt_iff_lt-mul (zero-lt-suc 1)).1 (subst (λ (m : ℕ). n < m) (pow-suc 2 k) small) in
    let more = bits-differ k (n / 2) z f (suc_inj lz) (suc_inj lf) half
    (λ j h. ap (λ (m : ℕ). eqb (m % 2) 1) (div-div-eq-div-mul n 2 (2 ^ j) ∙ ap (λ (m : ℕ). n / m) (sym (pow-succ' 2 j))) ∙ bit (suc j)
    (suc-le-suc h)) in
    let low = low_bit (n % 2) (eqb x y) (omega arith) (ap (λ (m : ℕ). eqb (m % 2) 1) (sym (div-one n)) ∙ bit 0 (omega arith)) in
    omega (arith, more, low, ones_step n)

differ-none : (z : List ℕ) → differ z [] ≡ 0
unfolding differ
differ-none [] = refl
differ-none (x ∷ z) = refl

-- two buffers, by their first so many places and the rest
differ-parts : (k : ℕ) (z f : List ℕ) → differ z f ≡ differ (take k z) (take k f) + differ (drop k z) (drop k f)
unfolding differ
differ-parts zero z f = omega arith
differ-parts (suc k) [] f = refl
differ-parts (suc k) (x ∷ z) [] = omega (arith, differ-none (drop k z))
differ-parts (suc k) (x ∷ z) (y ∷ f) = omega (arith, differ-parts k z f)

-- the bits of the bytes behind the first
later-bit : (b : ℕ) (map : List ℕ) (a : ℕ) → marked (b ∷ map) (8 + a) ≡ marked map a
unfolding marked
later-bit b map a =
    let q : (8 + a) / 8 ≡ suc (a / 8) = omega arith in
    let r : (8 + a) % 8 ≡ a % 8 = omega arith in
    rw (q, r) refl

first_bit : (b : ℕ) (map : List ℕ) (j : ℕ) → j < 8 → marked (b ∷ map) j ≡ eqb (b / 2 ^ j % 2) 1
unfolding marked
first_bit b map j h =
    let q : j / 8 ≡ 0 = omega arith in
    let r : j % 8 ≡ j = omega arith in
    rw (q, r) refl

-- the bytes behind the first
knows-behind : (b : ℕ) (known z f : List ℕ) → Knows z f (b ∷ known) → Knows (drop 8 z) (drop 8 f) known
knows-behind b known z f k =
    let n : length z ≡ 8 + length known * 8 = omega (arith, k.sized) in
    record {
      sized = length-drop 8 z ∙ omega (arith, n);
      beside = length-drop 8 f ∙ ap (λ (m : ℕ). m - 8) k.beside ∙ sym (length-drop 8 z);
      bits =
          λ a h. sym (later-bit b known a) ∙ k.bits (8 + a) (omega (arith, h, length-drop 8 z, n))
          ∙ ap₂ eqb (sym (get_or-drop 8 z a 0)) (sym (get_or-drop 8 f a 0));
    }

-- the places where two buffers differ, and those that are known, are all
unknown-places : (known z f : List ℕ) → Bytes known → Knows z f known → differ z f + count_of known ≡ length z
unfolding differ
unknown-places [] z f bytes k = omega (arith, none z k.sized, k.sized)
  where
    none : (z : List ℕ) → length z ≡ 0 → differ z f ≡ 0
    none [] e = refl
    none (x ∷ z) e = absurd (omega (arith, e))
unknown-places (b ∷ known) z f bytes k =
    let n : length z ≡ 8 + length known * 8 = omega (arith, k.sized) in
    let lz : length (take 8 z) ≡ 8 = length-take-le 8 z (omega (arith, n)) in
    let lf : length (take 8 f) ≡ 8 = length-take-le 8 f (omega (arith, n, k.beside)) in
    let first = bits-differ 8 b (take 8 z) (take 8 f) lz lf (bytes 0)
    (λ j h. sym (first_bit b known j h) ∙ k.bits j (omega (arith, n, h)) ∙ ap₂ eqb (sym (get_or-take 8 z j 0 h))
    (sym (get_or-take 8 f j 0 h))) in
    let rest = unknown-places known (drop 8 z) (drop 8 f) (λ i. bytes (suc i)) (knows-behind b known z f k) in
    omega (arith, differ-parts 8 z f, first, rest, length-drop 8 z, n, sum_by-cons ones b known)

-- ---- what the packets do to them

module _ (n : ℕ) where
  pub knows_start : Knows (replicate (n * 8) 0x00) (replicate (n * 8) 0xFF) (replicate n 0)
  knows_start = record {
    sized = length-replicate {A = ℕ} (n * 8) 0x00 ∙ ap (λ (m : ℕ). m * 8) (sym (length-replicate {A = ℕ} n 0));
    beside = length-replicate {A = ℕ} (n * 8) 0xFF ∙ sym (length-replicate {A = ℕ} (n * 8) 0x00);
    bits = λ a h.
        let inside : a < n * 8 = subst (λ (m : ℕ). a < m) (length-replicate {A = ℕ} (n * 8) 0x00) h in
        unmarked n a ∙ sym (ap₂ eqb (get_or-replicate (n * 8) a 0x00 0 inside) (get_or-replicate (n * 8) a 0xFF 0 inside));
  }

-- where no place is unknown the two buffers are the same
pub differ-zero : (z f : List ℕ) → length f ≡ length z → differ z f ≡ 0 → z ≡ f
unfolding differ
differ-zero [] [] l e = refl
differ-zero [] (y ∷ f) l e = absurd (omega (arith, l))
differ-zero (x ∷ z) [] l e = absurd (omega (arith, l))
differ-zero (x ∷ z) (y ∷ f) l e = go (λ r. differ-zero z f (suc_inj l) r) (eqb x y) refl e
  where
    go : (differ z f ≡ 0 → z ≡ f) → (t : Bool) → eqb x y ≡ t → cond t 0 1 + differ z f ≡ 0 → (x ∷ z) ≡ (y ∷ f)
    go more true t e = ap₂ (λ (b : ℕ) (l : List ℕ). b ∷ l) (eqb-true x y t) (more (omega (arith, e)))
    go more false t e = absurd (omega (arith, e))

pub differ_same : (z : List ℕ) → differ z z ≡ 0
unfolding differ
differ_same [] = refl
differ_same (x ∷ z) = rw (eq-eqb x x refl) (omega (arith, differ_same z))

-- bytes stored in both buffers are known
module _ (at : ℕ) (new z f known later : List ℕ) (fits : at + length new ≤ length z) (fits-too : at + length new ≤ length f)
    (k : Knows z f known) where
  written-bit : (a : ℕ) → a < length z → (t : Bool) → between at (at + length new) a ≡ t
      → (t || marked known a) ≡ eqb (get_or (stored_at at new z) a 0) (get_or (stored_at at new f) a 0)
  written-bit a h true e =
      let t = both (leb at a) (ltb a (at + length new)) e in
      let low : at ≤ a = leb-true _ _ t.0 in
      let high : a < at + length new = ltb-true _ _ t.1 in
      sym (eq-eqb _ _ (stored-inside at new z a fits low high ∙ sym (stored-inside at new f a fits-too low high)))
  written-bit a h false e = k.bits a h ∙ sym (ap₂ eqb (stored-outside at new z a fits e) (stored-outside at new f a fits-too e))

  pub knows-written : length known ≤ longest_map → WithRange at (length new) known later
      → Knows (stored_at at new z) (stored_at at new f) later
  knows-written short w =
      let long : length (stored_at at new z) ≡ length z = stored-length at new z fits in
      record {
        sized = long ∙ k.sized ∙ ap (λ (m : ℕ). m * 8) (sym w.sized);
        beside = stored-length at new f fits-too ∙ k.beside ∙ sym long;
        bits = λ a h.
            range-adds at (length new) known short (omega (arith, fits, k.sized)) later w a
            ∙ written-bit a (subst (λ (m : ℕ). a < m) long h) (between at (at + length new) a) refl;
      }

-- a map is known by its bits: where they say which places of two buffers are alike, it is the buffers' known bits

low_alike : (r : ℕ) (t : Bool) → r < 2 → eqb r 1 ≡ t → r ≡ cond t 1 0
low_alike r true small e = eqb-true r 1 e
low_alike r false small e = let other : r ≡ 1 → ⊥ = eqb-false r 1 e in omega (arith, small, other)

bits-alike : (k n : ℕ) (z f : List ℕ) → k ≤ length z → k ≤ length f → n < 2 ^ k
    → ((j : ℕ) → j < k → eqb (n / 2 ^ j % 2) 1 ≡ eqb (get_or z j 0) (get_or f j 0)) → n ≡ alike_bits k z f
unfolding alike_bits
bits-alike zero n z f lz lf small bit = omega (arith, small)
bits-alike (suc k) n [] f lz lf small bit = absurd (omega (arith, lz))
bits-alike (suc k) n (x ∷ z) [] lz lf small bit = absurd (omega (arith, lf))
bits-alike (suc k) n (x ∷ z) (y ∷ f) lz lf small bit =
    let half : n / 2 < 2 ^ k = (div-lt_iff_lt-mul (zero-lt-suc 1)).1 (subst (λ (m : ℕ). n < m) (pow-suc 2 k) small) in
    let more = bits-alike k (n / 2) z f (omega (arith, lz)) (omega (arith, lf)) half
    (λ j h. ap (λ (m : ℕ). eqb (m % 2) 1) (div-div-eq-div-mul n 2 (2 ^ j) ∙ ap (λ (m : ℕ). n / m) (sym (pow-succ' 2 j))) ∙ bit (suc j)
    (suc-le-suc h)) in
    let low = low_alike (n % 2) (eqb x y) (omega arith) (ap (λ (m : ℕ). eqb (m % 2) 1) (sym (div-one n)) ∙ bit 0 (omega arith)) in
    omega (arith, more, low)

knows-bytes : (known z f : List ℕ) → Bytes known → Knows z f known → known ≡ alike_bytes (length known) z f
unfolding alike_bytes
knows-bytes [] z f bytes k = refl
knows-bytes (b ∷ known) z f bytes k =
    let n : length z ≡ 8 + length known * 8 = omega (arith, k.sized) in
    let first : b ≡ alike_bits 8 z f =
    bits-alike 8 b z f (omega (arith, n)) (omega (arith, n, k.beside)) (bytes 0)
    (λ j h. sym (first_bit b known j h) ∙ k.bits j (omega (arith, n, h))) in
    let rest = knows-bytes known (drop 8 z) (drop 8 f) (λ i. bytes (suc i)) (knows-behind b known z f k) in
    ap₂ (λ (x : ℕ) (l : List ℕ). x ∷ l) first rest

pub knows-known : (known z f : List ℕ) → Bytes known → Knows z f known → known ≡ known_of z f
knows-known known z f bytes k =
    let n : length known ≡ length z / 8 = omega (arith, k.sized) in
    knows-bytes known z f bytes k ∙ ap (λ (m : ℕ). alike_bytes m z f) n

-- the bits that are not set are the places where the buffers differ
pub unknown-differ : (known z f : List ℕ) → length known ≤ longest_map → Bytes known → Knows z f known → unknown_of known ≡ differ z f
unknown-differ known z f short bytes k =
    let places : unset known ≡ differ z f = omega (arith, unknown-places known z f bytes k, k.sized) in
    rw (le-ltb longest_map (length known) short) places

-- ---- and every two buffers have their known bits

-- each byte of them is one
alike-below : (k : ℕ) (z f : List ℕ) → alike_bits k z f < 2 ^ k
unfolding alike_bits
alike-below zero z f = omega arith
alike-below (suc k) [] f = rw (pow-suc 2 k) (omega (arith, alike-below k [] f))
alike-below (suc k) (x ∷ z) [] = rw (pow-suc 2 k) (omega (arith, alike-below k z []))
alike-below (suc k) (x ∷ z) (y ∷ f) = rw (pow-suc 2 k) (go (eqb x y) (alike-below k z f))
  where
    go : (t : Bool) → alike_bits k z f < 2 ^ k → cond t 1 0 + 2 * alike_bits k z f < 2 ^ k * 2
    go true h = omega (arith, h)
    go false h = omega (arith, h)

pub alike-bytes : (m : ℕ) (z f : List ℕ) → Bytes (alike_bytes m z f)
unfolding alike_bytes
alike-bytes zero z f i = omega arith
alike-bytes (suc m) z f zero = alike-below 8 z f
alike-bytes (suc m) z f (suc i) = alike-bytes m (drop 8 z) (drop 8 f) i

alike-bit : (j k : ℕ) (z f : List ℕ) → j < k → j < length z → j < length f
    → eqb (alike_bits k z f / 2 ^ j % 2) 1 ≡ eqb (get_or z j 0) (get_or f j 0)
unfolding alike_bits
alike-bit j zero z f h lz lf = absurd (omega (arith, h))
alike-bit j (suc k) [] f h lz lf = absurd (omega (arith, lz))
alike-bit j (suc k) (x ∷ z) [] h lz lf = absurd (omega (arith, lf))
alike-bit zero (suc k) (x ∷ z) (y ∷ f) h lz lf =
    ap (λ (m : ℕ). eqb (m % 2) 1) (div-one (cond (eqb x y) 1 0 + 2 * alike_bits k z f)) ∙ go (eqb x y)
  where
    go : (t : Bool) → eqb ((cond t 1 0 + 2 * alike_bits k z f) % 2) 1 ≡ t
    go true = eq-eqb ((1 + 2 * alike_bits k z f) % 2) 1 (omega arith)
    go false = ne_eqb ((0 + 2 * alike_bits k z f) % 2) 1 (λ (e : (0 + 2 * alike_bits k z f) % 2 ≡ 1). omega (arith, e))
alike-bit (suc j) (suc k) (x ∷ z) (y ∷ f) h lz lf =
    let half : (cond (eqb x y) 1 0 + 2 * alike_bits k z f) / 2 ≡ alike_bits k z f = go (eqb x y) in
    ap (λ (m : ℕ). eqb (m % 2) 1)
    (ap (λ (m : ℕ). (cond (eqb x y) 1 0 + 2 * alike_bits k z f) / m) (pow-succ' 2 j) ∙ sym
    (div-div-eq-div-mul (cond (eqb x y) 1 0 + 2 * alike_bits k z f) 2 (2 ^ j)) ∙ ap (λ (m : ℕ). m / 2 ^ j) half)
    ∙ alike-bit j k z f (omega (arith, h)) (omega (arith, lz)) (omega (arith, lf))
  where
    go : (t : Bool) → (cond t 1 0 + 2 * alike_bits k z f) / 2 ≡ alike_bits k z f
    go true = omega arith
    go false = omega arith

alike-length : (m : ℕ) (z f : List ℕ) → length (alike_bytes m z f) ≡ m
unfolding alike_bytes
alike-length zero z f = refl
alike-length (suc m) z f = ap suc (alike-length m (drop 8 z) (drop 8 f))

alike-marked : (m : ℕ) (z f : List ℕ) → length z ≡ m * 8 → length f ≡ length z → (a : ℕ) → a < length z
    → marked (alike_bytes m z f) a ≡ eqb (get_or z a 0) (get_or f a 0)
unfolding alike_bytes
alike-marked zero z f lz lf a h = absurd (omega (arith, lz, h))
alike-marked (suc m) z f lz lf a h =
    go (ltb a 8) refl
    (alike-marked m (drop 8 z) (drop 8 f) (length-drop 8 z ∙ omega (arith, lz))
    (length-drop 8 f ∙ ap (λ (n : ℕ). n - 8) lf ∙ sym (length-drop 8 z)))
  where
    go : (t : Bool) → ltb a 8 ≡ t
        → ((b : ℕ) → b < length (drop 8 z) → marked (alike_bytes m (drop 8 z) (drop 8 f)) b ≡ eqb (get_or (drop 8 z) b 0)
        (get_or (drop 8 f) b 0))
        → marked (alike_bits 8 z f ∷ alike_bytes m (drop 8 z) (drop 8 f)) a ≡ eqb (get_or z a 0) (get_or f a 0)
    go true e more =
        let low : a < 8 = ltb-true a 8 e in
        first_bit (alike_bits 8 z f) (alike_bytes m (drop 8 z) (drop 8 f)) a low ∙ alike-bit a 8 z f low h (omega (arith, lf, h))
    go false e more =
        let high : 8 ≤ a = ltb-false a 8 e in
        let place : a ≡ 8 + (a - 8) = omega arith in
        ap (marked (alike_bits 8 z f ∷ alike_bytes m (drop 8 z) (drop 8 f))) place
        ∙ later-bit (alike_bits 8 z f) (alike_bytes m (drop 8 z) (drop 8 f)) (a - 8)
        ∙ more (a - 8) (omega (arith, length-drop 8 z, h, high, lz))
        ∙ ap₂ eqb (get_or-drop 8 z (a - 8) 0 ∙ ap (λ (n : ℕ). get_or z n 0) (sym place))
        (get_or-drop 8 f (a - 8) 0 ∙ ap (λ (n : ℕ). get_or f n 0) (sym place))

pub known-knows : (m : ℕ) (z f : List ℕ) → length z ≡ m * 8 → length f ≡ length z → Knows z f (known_of z f)
known-knows m z f lz lf =
    let n : length z / 8 ≡ m = omega (arith, lz) in
    rw n (record { sized = lz ∙ ap (λ (k : ℕ). k * 8) (sym (alike-length m z f)); beside = lf; bits = alike-marked m z f lz lf })

-- ---- all known

all-marked : (m a : ℕ) → a < m * 8 → marked (replicate m 0xFF) a ≡ true
unfolding marked
all-marked m a h =
    let byte : ◌≡◌ {A = ℕ} (get_or (replicate m 0xFF) (a / 8) 0) 0xFF = get_or-replicate m (a / 8) 0xFF 0 (omega arith) in
    ap (λ (b : ℕ). eqb (b / 2 ^ (a % 8) % 2) 1) byte ∙ below 8 (λ k. eqb (0xFF / 2 ^ k % 2) 1) refl (a % 8) (omega arith)

-- a buffer beside itself is known wherever it is
pub knows-all : (m : ℕ) (z : List ℕ) → length z ≡ m * 8 → Knows z z (replicate m 0xFF)
knows-all m z lz = record {
  sized = lz ∙ ap (λ (k : ℕ). k * 8) (sym (length-replicate {A = ℕ} m 0xFF));
  beside = refl;
  bits = λ a h. all-marked m a (omega (arith, lz, h)) ∙ sym (eq-eqb (get_or z a 0) (get_or z a 0) refl);
}
