-- What is answered before any packet, and what a run makes of the rest; and demand 3 of the answer.
-- Assumes nothing.
use mathlib.Core.Path.{◌≡◌, refl, sym, ap, ◌∙◌, subst}
use mathlib.Core.Bool.{Bool, true, false, cond, not, ◌&&◌}
use mathlib.Core.List.{List}
use Prim.Native.Nat.{ℕ, ◌*◌, ◌/◌, ◌≤◌}
use borrow.Author.Tests.{eqb-true, ltb-false, not-false}
use lib.Dec.{eqb, ltb}
use lib.ListN.{length}
use Rattle.delivery.specs.Check.{Said, passed, refused, run_of, if_sound, judged_of}
use Rattle.delivery.specs.Demand.{Upholds}
use Rattle.delivery.specs.OneRegion.{One, single, judged_one, unless_refused_one, one_of, LimitsOne}
use Rattle.delivery.proofs.OneRegion.{eighths, demand3-one}
use Rattle.delivery.proofs.Runs.{no-pass}
use Rattle.firmware_text.specs.Machine.{image_of}
use Rattle.region.specs.Size.{good_size}
use Rattle.script.specs.Script.{longest_script, headed}
use Rattle.test_laws.proofs.Tests.{both, on-cond}
use Rattle.text_image.specs.Picture.{picture_of}
use Rattle.text_image.specs.Rules.{Judgement, rules_of}
use Rattle.text_image.specs.Rules as rules

-- ---- before any packet, in the order of the refusals

-- the lent memory has its sizes
pub record Sized (n region known : ℕ) : Type 0 where
  pub good : good_size n ≡ true
  pub region_sized : region ≡ n
  pub known_sized : known ≡ n / 8

-- a region's bytes are as many as its bits
pub bits-sized : (n region known : ℕ) → Sized n region known → known * 8 ≡ n
bits-sized n region known s = ap (λ (m : ℕ). m * 8) s.known_sized ∙ eighths n s.good

-- sizes, password and script are as they must be
pub record Fine (script password : List ℕ) (n region known : ℕ) : Type 0 where
  pub sized : Sized n region known
  pub wide : length password ≡ 256
  pub short : length script ≤ longest_script

-- what is known where nothing was refused before the packets
pub record Judged (script text password : List ℕ) (n region known : ℕ) : Type 0 where
  pub fine : Fine script password n region known
  pub from_sound : rules_of text n ≡ rules.sound
  pub begins : headed script ≡ true

-- sizes that were tested
sizes : (n region known : ℕ) → known ≡ n / 8 → good_size n && (eqb region n && eqb region n) ≡ true → Sized n region known
sizes n region known bits e =
    let good = both (good_size n) (eqb region n && eqb region n) e in
    record { good = good.0; region_sized = eqb-true _ _ (both (eqb region n) (eqb region n) good.1).0; known_sized = bits }

module _ (script text password : List ℕ) (n region known : ℕ) where
  pub said-passed : judged_one script text password n region known ≡ passed → Judged script text password n region known
  unfolding judged_one judged_of
  said-passed =
      on-cond P (eqb known (n / 8)) _ _
      (λ bits. on-cond P (not (good_size n && (eqb region n && eqb region n))) _ _ (λ _. no-pass 1 0)
      (λ fits. on-cond P (not (eqb (length password) 256)) _ _ (λ _. no-pass 2 0)
      (λ wide. on-cond P (ltb longest_script (length script)) _ _ (λ _. no-pass 18 0)
      (λ short.
      judged
      (record {
        sized = sizes n region known (eqb-true _ _ bits) (not-false _ fits);
        wide = eqb-true _ _ (not-false _ wide);
        short = ltb-false _ _ short;
      })
      (rules_of text n) refl))))
      (λ _. no-pass 1 0)
    where
      P : Said → Type 0
      P s = s ≡ passed → Judged script text password n region known

      judged : Fine script password n region known → (j : Judgement) → rules_of text n ≡ j
          → if_sound j (cond (headed script) passed (refused 6 0)) ≡ passed
          → Judged script text password n region known
      judged fine (rules.refused number place) e is = no-pass number place is
      judged fine rules.sound e is = head (headed script) refl is
        where
          head : (t : Bool) → headed script ≡ t → cond t passed (refused 6 0) ≡ passed → Judged script text password n region known
          head true begins is = record { fine = fine; from_sound = e; begins = begins }
          head false begins is = no-pass 6 0 is

-- ---- the whole answer

module _ (script text password : List ℕ) (expected n : ℕ) (region known : List ℕ) where
  -- what was said before the packets decides: a refusal, or the packets' run
  pub check-by : (s : Said) → judged_one script text password n (length region) (length known) ≡ s
      → unless_refused_one s region known
      (single (run_of script (picture_of n (image_of text)) password expected n)) ≡ one_of script text password expected n region known
  unfolding one_of
  check-by s e =
      ap (λ (x : Said). unless_refused_one x region known (single (run_of script (picture_of n (image_of text)) password expected n)))
      (sym e)

  -- what is answered, and what it is worth
  pub upheld : (c : One) → c ≡ one_of script text password expected n region known
      → (c ≡ one_of script text password expected n region known) ×
      (LimitsOne script text password n region known → Upholds script text password expected n c.answer)
  upheld c e = (
    e,
    λ l. subst (λ (x : One). Upholds script text password expected n x.answer) (sym e)
        (demand3-one script text password expected n region known l),
  )
