-- The checker with one region and known bits is the one with two buffers; and what its bits say.
-- Assumes nothing.
use mathlib.Core.Path.{◌≡◌, refl, sym, ap, ap₂, ◌∙◌, subst}
use mathlib.Core.Bool.{true, false, not, ◌&&◌}
use mathlib.Core.List.{List, [], ◌∷◌}
use mathlib.Core.Logic.{◌↔◌}
use Prim.Native.Nat.{ℕ, ◌+◌, ◌*◌, ◌/◌, ◌%◌, ◌≤◌, ◌<◌}
use native.Mathlib.Omega.{arith}
use borrow.Author.Tests.{eqb-true, eq-eqb, leb-true, le-leb, not-false}
use lib.Dec.{eqb, leb}
use lib.ListN.{length, get_or, take, drop, replicate, length-replicate}
use lib.Seq.{drop-cons}
use Rattle.address_set.specs.Bits.{marked}
use Rattle.firmware_text.specs.Machine.{image_of}
use Rattle.flash.specs.Flash.{writable, allows_of}
use Rattle.known_bits.specs.Known.{longest_map, unknown_of, differ, known_of, Knows}
use Rattle.known_bits.proofs.Laws.{known-knows, knows-all, knows-known, differ_same, unknown-differ, alike-bytes}
use Rattle.little_endian.specs.Bytes.{Bytes}
use Rattle.little_endian.proofs.AllBytes.{bytes-all, bytes-filled}
use Rattle.region.specs.Size.{good_size}
use Rattle.test_laws.proofs.Tests.{both, on-cond}
use Rattle.text_image.specs.Picture.{picture_of}
use Rattle.delivery.specs.Beside.{Agree}
use Rattle.delivery.specs.Check.{Said, passed, refused, Checked, run_of, judged_of, unless_refused, check_of}
use Rattle.delivery.specs.Demand.{Upholds}
use Rattle.delivery.specs.OneRegion.{one, single, judged_one, unless_refused_one, one_of}
use Rattle.delivery.specs.OneRegion.{BothTake, AsTwo, SameAsTwo, StandsAsZero, UnknownIsZero}
use Rattle.delivery.specs.OneRegion.{flash_behind, KnownMeansKnown, AllKnown, PassKnowsAll, Demand3One, PlannedPassesOne}
use Rattle.delivery.proofs.Agree.{agree-ones, agree-unknown, agree-known, length-other}
use Rattle.delivery.proofs.Counts.{counts-right}
use Rattle.delivery.proofs.Demand.{demand3, planned-passes}
use Rattle.delivery.proofs.Ends.{run_agree, run-pictures, run_long}
use Rattle.delivery.proofs.Runs.{no-pass}

-- ---- before the run

-- a region's size in bytes of known bits
pub eighths : (n : ℕ) → good_size n ≡ true → n / 8 * 8 ≡ n
eighths n good =
    let t = both (leb 4096 n && leb n 262144) (eqb (n % 4096) 0) good in
    let whole : n % 4096 ≡ 0 = eqb-true _ _ t.1 in
    omega arith

-- no map of a region is too long
pub eighths-short : (n : ℕ) → good_size n ≡ true → n / 8 ≤ longest_map
eighths-short n good =
    let t = both (leb 4096 n && leb n 262144) (eqb (n % 4096) 0) good in
    let most : n ≤ 262144 = leb-true _ _ (both (leb 4096 n) (leb n 262144) t.0).1 in
    omega (arith, most)

-- where nothing was refused the size is a region's
two_size : (script text password : List ℕ) (n zeros ones : ℕ) → judged_of script text password n zeros ones ≡ passed → good_size n ≡ true
unfolding judged_of
two_size script text password n zeros ones =
    on-cond (λ (s : Said). s ≡ passed → good_size n ≡ true) (not (good_size n && (eqb zeros n && eqb ones n))) _ _
    (λ _ e. no-pass 1 0 e) (λ t _. (both (good_size n) (eqb zeros n && eqb ones n) (not-false _ t)).0)

one_size : (script text password : List ℕ) (n region known : ℕ) → judged_one script text password n region known ≡ passed → good_size n ≡ true
unfolding judged_one
one_size script text password n region known =
    on-cond (λ (s : Said). s ≡ passed → good_size n ≡ true) (eqb known (n / 8)) _ _ (λ _ e. two_size script text password n region region e)
    (λ _ e. no-pass 1 0 e)

-- memory of the right sizes is judged alike
judged-alike : (script text password : List ℕ) (n : ℕ) (zeros ones region known : List ℕ) → BothTake n zeros ones region known
    → judged_one script text password n (length region) (length known) ≡ judged_of script text password n (length zeros) (length ones)
unfolding judged_one
judged-alike script text password n zeros ones region known t =
    rw (eq-eqb (length known) (n / 8) t.known_sized)
    (ap₂ (λ (z f : ℕ). judged_of script text password n z f) (t.region_sized ∙ sym t.zeros_sized)
    (t.region_sized ∙ sym t.ones_sized))

-- ---- where a run ends

-- the bits of two buffers, and their number
module _ (n : ℕ) (good : good_size n ≡ true) (c : Checked) (long : length c.zeros ≡ n)
    (agree : Agree c.zeros c.ones c.ones) where
  bits-known : Knows c.zeros c.ones (known_of c.zeros c.ones)
  bits-known = known-knows (n / 8) c.zeros c.ones (long ∙ sym (eighths n good)) (length-other agree)

  bits-counted : unknown_of (known_of c.zeros c.ones) ≡ differ c.zeros c.ones
  bits-counted =
      let sized = bits-known.sized in
      let most = eighths-short n good in
      unknown-differ (known_of c.zeros c.ones) c.zeros c.ones (omega (arith, most, sized, long))
      (alike-bytes (length c.zeros / 8) c.zeros c.ones) bits-known

-- over 0 only 0 may be written
only_zero : (region : List ℕ) (a : ℕ) → a < length region → get_or region a 0 ≡ 0 → StandsAsZero region a
unfolding writable
only_zero region a within is = record { stands = is; takes = λ new. (λ w. to new (sym (test new) ∙ w), λ e. test new ∙ from new e) }
  where
    here : take 1 (drop a region) ≡ 0 ∷ []
    here = ap (take 1) (drop-cons region a 0 within) ∙ ap (λ (x : ℕ). x ∷ []) is

    test : (new : ℕ) → allows_of (new ∷ []) a region ≡ (eqb new 0 && true)
    test new = rw (le-leb (a + 1) (length region) (omega (arith, within)), here) refl

    to : (new : ℕ) → (eqb new 0 && true) ≡ true → new ≡ 0
    to new w = eqb-true new 0 (both (eqb new 0) true w).0

    from : (new : ℕ) → new ≡ 0 → (eqb new 0 && true) ≡ true
    from new e = rw (eq-eqb new 0 e) refl

module _ (script text password : List ℕ) (expected n : ℕ) (region known : List ℕ) where
  abbrev picture : List ℕ
  picture = picture_of n (image_of text)

  abbrev run : Checked
  run = run_of script picture password expected n

  -- the run over zeros is as long as the region, and the other beside it
  long : length run.zeros ≡ n
  long = run_long script picture password expected n

  agree : Agree run.zeros run.ones run.ones
  agree = agree-ones (run_agree script picture password expected n (replicate n 0x00) (length-replicate n 0x00))

  -- where nothing was refused before, the answer is the run's
  one-run : judged_one script text password n (length region) (length known) ≡ passed
      → one_of script text password expected n region known ≡ single run
  unfolding one_of
  one-run e = ap (λ (s : Said). unless_refused_one s region known (single run)) e

  -- what was judged before the run decides both
  as-two : (judged : Said) (zeros ones : List ℕ) → (judged ≡ passed → good_size n ≡ true)
      → AsTwo judged (unless_refused judged zeros ones run) region known (unless_refused_one judged region known (single run))
  unfolding single
  as-two passed zeros ones good =
      record {
        answer = refl;
        packets = refl;
        unknown = λ _. refl;
        counted = λ e. bits-counted n (good e) run long agree;
        holds = λ _. refl;
        bits = λ e. bits-known n (good e) run long agree;
        before = λ number place e. no-pass number place (sym e);
      }
  as-two (refused m p) zeros ones good =
      record {
        answer = refl;
        packets = refl;
        unknown = λ e. no-pass m p e;
        counted = λ e. no-pass m p e;
        holds = λ e. no-pass m p e;
        bits = λ e. no-pass m p e;
        before = λ number place e. ap (λ (s : Said). one s 0 0 region known) e;
      }

  module _ (e : judged_one script text password n (length region) (length known) ≡ passed) (a : ℕ) (within : a < n) where
    good : good_size n ≡ true
    good = one_size script text password n (length region) (length known) e

    here : a < length run.zeros
    here = subst (λ (m : ℕ). a < m) (sym long) within

    -- a bit of the run
    bit : marked (known_of run.zeros run.ones) a ≡ eqb (get_or run.zeros a 0) (get_or run.ones a 0)
    bit = (bits-known n good run long agree).bits a here

    unknown-in : marked (single run).known a ≡ false → StandsAsZero (single run).region a
    unfolding single
    unknown-in unknown = only_zero run.zeros a here (agree-unknown agree a (sym bit ∙ unknown))

    known_in : (marked (single run).known a ≡ true)
        ↔ ((held : List ℕ) → Bytes held → length held ≡ n → get_or
        (flash_behind script password expected (single run).packets held) a 0 ≡ get_or
        (single run).region a 0)
    unfolding single
    known_in = (
      λ is held bytes sized. agree-known (run_agree script picture password expected n held sized) a (sym bit ∙ is),
      λ all.
          let over : get_or run.ones a 0 ≡ get_or run.zeros a 0 =
          ap (λ (l : List ℕ). get_or l a 0) (counts-right script picture password expected n).over_ones.holds
          ∙ all (replicate n 0xFF) (bytes-all (replicate n 0xFF) (bytes-filled n 0xFF (omega arith))) (length-replicate n 0xFF) in
          bit ∙ eq-eqb _ _ (sym over),
    )

-- ---- the comparison

pub same-as-two : SameAsTwo
unfolding check_of one_of
same-as-two script text password expected n zeros ones region known t =
    rw (judged-alike script text password n zeros ones region known t, check_of, one_of)
    (as-two script text password expected n region known (judged_of script text password n (length zeros) (length ones)) zeros ones
    (two_size script text password n (length zeros) (length ones)))

-- memory of one region's sizes, beside two buffers of that size
both-take : (n : ℕ) (region known : List ℕ) → length region ≡ n → length known ≡ n / 8 → BothTake n region region region known
both-take n region known r k = record { zeros_sized = r; ones_sized = r; region_sized = r; known_sized = k }

pub demand3-one : Demand3One
demand3-one script text password expected n region known l =
    let take-both = both-take n region known l.within.zeros_sized l.known_sized in
    subst (Upholds script text password expected n)
    (sym (same-as-two script text password expected n region region region known take-both).answer)
    (demand3 script text password expected n region region l.within)

pub planned-passes-one : PlannedPassesOne
planned-passes-one text password entry n output count region known r k e =
    (same-as-two _ text password _ n region region region known (both-take n region known r k)).answer
    ∙ planned-passes text password entry n output count region region r r e

-- ---- what the bits say

pub unknown-is-zero : UnknownIsZero
unknown-is-zero script text password expected n region known e a within unknown =
    let is = one-run script text password expected n region known e in
    rw is (unknown-in script text password expected n region known e a within (rw is at unknown))

pub known-means-known : KnownMeansKnown
known-means-known script text password expected n region known e a within =
    rw (one-run script text password expected n region known e) (known_in script text password expected n region known e a within)

-- ---- a pass

-- two buffers that are the picture
all_known : (picture : List ℕ) (n : ℕ) (c : Checked) → length c.zeros ≡ n / 8 * 8 → c.zeros ≡ picture → c.ones ≡ picture
    → AllKnown picture n (single c)
unfolding single
all_known picture n c long z f =
    let alike : c.ones ≡ c.zeros = f ∙ sym z in
    let full : List ℕ = replicate (n / 8) 0xFF in
    let bytes = bytes-all full (bytes-filled (n / 8) 0xFF (omega arith)) in
    record {
      none = ap (differ c.zeros) alike ∙ differ_same c.zeros;
      bits = ap (known_of c.zeros) alike ∙ sym (knows-known full c.zeros c.zeros bytes (knows-all (n / 8) c.zeros long));
      holds = z;
    }

module _ (script text password : List ℕ) (expected n : ℕ) (region known : List ℕ) where
  by-judged : (s : Said) → judged_one script text password n (length region) (length known) ≡ s
      → (unless_refused_one s region known (single (run script text password expected n region known))).answer ≡ passed
      → AllKnown (picture_of n (image_of text)) n
      (unless_refused_one s region known (single (run script text password expected n region known)))
  unfolding single
  by-judged passed e is =
      let p = run-pictures script (picture_of n (image_of text)) password expected n is in
      let good = one_size script text password n (length region) (length known) e in
      all_known (picture_of n (image_of text)) n _ (long script text password expected n region known ∙ sym (eighths n good)) p.0 p.1
  by-judged (refused number place) e is = no-pass number place is

pub pass-knows-all : PassKnowsAll
unfolding one_of
pass-knows-all script text password expected n region known is =
    by-judged script text password expected n region known (judged_one script text password n (length region) (length known)) refl is
