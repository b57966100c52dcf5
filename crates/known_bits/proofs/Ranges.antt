-- Ranges of addresses, added to a map.
-- Assumes nothing.
use mathlib.Core.Path.{◌≡◌, refl, sym, ap, ◌∙◌}
use mathlib.Core.Bool.{Bool, true, false, ◌&&◌, ◌||◌}
use mathlib.Core.List.{List}
use Prim.Native.Nat.{ℕ, ◌+◌, ◌*◌, ◌/◌, ◌%◌, ◌^◌, ◌-◌, ◌≤◌, ◌<◌}
use native.Mathlib.Omega.{arith}
use Rattle.std.proofs.Math.Bool.{or-false, and-false, or_assoc}
use Rattle.std.proofs.lemmas.List.{places}
use borrow.Author.Tests.{ltb-true, ltb-false, lt-ltb, le-ltb, leb-true, leb-false, le-leb, lt-leb}
use lib.Dec.{eqb, leb, ltb}
use lib.ListN.{length, get_or, replicate}
use borrow.Rule.Slice.PartMut.{put_mid}
use Rattle.address_set.specs.Bits.{marked}
use Rattle.test_laws.proofs.Tests.{below}
use Rattle.known_bits.specs.Known.{longest_map, between, Adds, has_range, WithRange}

-- two ranges side by side are one
between-joined : (from at end a : ℕ) → from ≤ at → at ≤ end → (between at end a || between from at a) ≡ between from end a
between-joined from at end a low high = go (leb at a) refl
  where
    go : (t : Bool) → leb at a ≡ t → ((t && ltb a end) || between from at a) ≡ between from end a
    go true e =
        let past : at ≤ a = leb-true at a e in
        rw (le-ltb a at past, le-leb from a (omega arith)) (or-false (ltb a end))
    go false e =
        let before : a < at = leb-false at a e in
        rw (lt-ltb a at before, lt-ltb a end (omega arith)) refl

-- one range behind another
pub adds-more : (from at end : ℕ) (old map new : List ℕ) → from ≤ at → at ≤ end → Adds from at old map → Adds at end map new
    → Adds from end old new
adds-more from at end old map new low high before more a =
    more a ∙ ap (λ (t : Bool). between at end a || t) (before a) ∙ sym (or_assoc (between at end a) (between from at a) (marked old a))
    ∙ ap (λ (t : Bool). t || marked old a) (between-joined from at end a low high)

-- the eight addresses of each of some bytes that become 0xFF: none, or those from the first of one byte on and below that of another
module _ (from end : ℕ) (map : List ℕ) (ordered : from ≤ end) (fits : end ≤ length map * 8)
    (whole : (from ≡ end → ⊥) → (from % 8 ≡ 0) × (end % 8 ≡ 0)) where
  abbrev filled : List ℕ
  filled = put_mid (from / 8) (end / 8 - from / 8) map (replicate (end / 8 - from / 8) 0xFF)

  at-filled : (k : ℕ) → from / 8 ≤ k → k < end / 8 → get_or filled k 0 ≡ 0xFF
  at-filled k low high = grind (arith, places)

  before-filled : (k : ℕ) → k < from / 8 → get_or filled k 0 ≡ get_or map k 0
  before-filled k low = grind (arith, places)

  behind-filled : (k : ℕ) → from / 8 ≤ k → end / 8 ≤ k → get_or filled k 0 ≡ get_or map k 0
  behind-filled k low high = grind (arith, places)

  -- no address of the range is in a byte before them or behind them
  between-not : (a : ℕ) → (from / 8 ≤ a / 8 → a / 8 < end / 8 → ⊥) → between from end a ≡ false
  between-not a outside = go (leb from a) refl
    where
      go : (t : Bool) → leb from a ≡ t → (t && ltb a end) ≡ false
      go true e =
          let past : from ≤ a = leb-true _ _ e in
          let inside : a < end → ⊥ =
          λ below-end. let both = whole (λ (same : from ≡ end). omega (arith, past, below-end, same)) in
          outside (omega (arith, past)) (omega (arith, below-end, both.1)) in
          le-ltb a end (omega (arith, inside))
      go false e = refl

  pub adds-filled : Adds from end map filled
  unfolding marked
  adds-filled a = go (leb (from / 8) (a / 8)) (ltb (a / 8) (end / 8)) refl refl
    where
      kept : get_or filled (a / 8) 0 ≡ get_or map (a / 8) 0 → between from end a ≡ false
          → marked filled a ≡ (between from end a || marked map a)
      kept e none = ap (λ (x : ℕ). eqb (x / 2 ^ (a % 8) % 2) 1) e ∙ ap (λ (t : Bool). t || marked map a) (sym none)

      go : (l h : Bool) → leb (from / 8) (a / 8) ≡ l → ltb (a / 8) (end / 8) ≡ h → marked filled a ≡ (between from end a || marked map a)
      go true true low high =
          let past : from / 8 ≤ a / 8 = leb-true _ _ low in
          let inside : a / 8 < end / 8 = ltb-true _ _ high in
          let both = whole (λ (same : from ≡ end). omega (arith, past, inside, same)) in
          let in-range : between from end a ≡ true = rw (le-leb from a (omega (arith, both.0)), lt-ltb a end (omega arith)) refl in
          ap (λ (x : ℕ). eqb (x / 2 ^ (a % 8) % 2) 1) (at-filled (a / 8) past inside)
          ∙ below 8 (λ k. eqb (0xFF / 2 ^ k % 2) 1) refl (a % 8) (omega arith)
          ∙ ap (λ (t : Bool). t || marked map a) (sym in-range)
      go true false low high =
          let past : end / 8 ≤ a / 8 = ltb-false _ _ high in
          kept (behind-filled (a / 8) (leb-true _ _ low) past) (between-not a (λ l h. omega (arith, past, h)))
      go false h low high =
          let before : a / 8 < from / 8 = leb-false _ _ low in
          kept (before-filled (a / 8) before) (between-not a (λ l h. omega (arith, before, l)))

-- ---- what the map has

module _ (from n : ℕ) (old : List ℕ) where
  -- a map that is too long
  pub map-long : longest_map < length old → has_range old from n ≡ false
  map-long long = rw (lt-leb (length old) longest_map long) refl

  -- a range that goes past its end
  pub range-past : length old * 8 < from + n → has_range old from n ≡ false
  range-past past = rw (lt-leb (from + n) (length old * 8) past) (and-false (leb (length old) longest_map))

  -- what the map does not have
  pub range-not : has_range old from n ≡ false → WithRange from n old old
  range-not e = record {
    sized = refl;
    bits =
        λ a. ap (λ (t : Bool). t || marked old a)
        (sym (ap (λ (t : Bool). between from (from + n) a && t) e ∙ and-false (between from (from + n) a)));
  }

  -- what it has
  module _ (short : length old ≤ longest_map) (fits : from + n ≤ length old * 8) (new : List ℕ) where
    and-had : (t : Bool) → (t && has_range old from n) ≡ t
    and-had true = rw (le-leb (length old) longest_map short, le-leb (from + n) (length old * 8) fits) refl
    and-had false = refl

    pub range-added : length new ≡ length old → Adds from (from + n) old new → WithRange from n old new
    range-added sized adds =
        record { sized = sized; bits = λ a. adds a ∙ ap (λ (t : Bool). t || marked old a) (sym (and-had (between from (from + n) a))) }

    pub range-adds : WithRange from n old new → Adds from (from + n) old new
    range-adds w a = w.bits a ∙ ap (λ (t : Bool). t || marked old a) (and-had (between from (from + n) a))
