-- Demand 3, proved; and that what the planner writes, the checker passes.
-- Assumes nothing.
use mathlib.Core.Path.{◌≡◌, refl, sym, ap, ◌∙◌, subst}
use mathlib.Core.Bool.{Bool, true, false, cond}
use mathlib.Core.List.{List, []}
use Prim.Native.Nat.{ℕ, ◌<◌}
use native.Mathlib.Nat.{le_refl}
use native.Mathlib.Omega.{arith}
use borrow.Author.Tests.{eq-eqb, le-ltb}
use lib.ListN.{length, drop, replicate, length-replicate}
use lib.Seq.{sets}
use Rattle.card.specs.declared.Card.{Card}
use Rattle.crc.specs.Crc.{checksum_of}
use Rattle.firmware_text.specs.Machine.{image_of}
use Rattle.firmware_text.proofs.Orders.{image-in-order, image-starts}
use Rattle.firmware_text.proofs.Values.{image-valued}
use Rattle.little_endian.proofs.AllBytes.{bytes-all, bytes-filled}
use Rattle.planner.proofs.Plans.{plans-right}
use Rattle.region.specs.Size.{good_size}
use Rattle.script.specs.Page.{Range, page_script, Inside, ByTheRules}
use Rattle.script.specs.Script.{longest_script, headed, Frames, frames_of}
use Rattle.script.proofs.Pages.{page-headed, page-framed}
use Rattle.text_image.specs.Picture.{placed, picture_of}
use Rattle.text_image.specs.Rules.{sound, rules_of}
use Rattle.text_image.proofs.Pictures.{length-placed}
use Rattle.text_image.proofs.Sounds.{sound-parts, sound-image}
use Rattle.delivery.specs.Check.{passed, Checked, Trial, trial, locked, step_of, judged_of, unless_refused, run_from, run_of, check_of}
use Rattle.delivery.specs.Check as check
use Rattle.delivery.specs.Sending.{packets_in, calls_of, Delivers, Entered, Roomy, Works}
use Rattle.delivery.specs.Beside.{Beside}
use Rattle.delivery.specs.Demand.{Limits, Demand3, PlannedPasses}
use Rattle.delivery.proofs.Agree.{agree-start}
use Rattle.delivery.proofs.Runs.{no-pass}
use Rattle.delivery.proofs.Exact.{passed-sent, card_of, sent-passed}
use Rattle.delivery.proofs.Blank.{Ready, past, ready-erased, ahead-put}
use Rattle.delivery.proofs.Page.{page-does}

-- ---- exactly when

module _ (script password : List ℕ) (expected n : ℕ) (good : good_size n ≡ true) (wide : length password ≡ 256) (picture : List ℕ) where
  -- the trial run over one byte
  abbrev over : ℕ → Trial
  over b = trial (locked expected) (replicate n b)

  entered : (b : ℕ) → b < 256 → Entered n expected (card_of (locked expected)) (replicate n b)
  entered b small = record { is_locked = refl; expects = refl; sized = length-replicate n b; bytes = bytes-all (replicate n b) (bytes-filled n b small) }

  -- reply buffers of nine bytes
  nine : ℕ → List ℕ
  nine i = replicate 9 0

  nine-roomy : Roomy nine
  unfolding nine
  nine-roomy i = le_refl 9

  beside : (card : Card) (region : List ℕ) → Entered n expected card region → Beside (over 0x00) (over 0xFF) card.loader region
  beside card region e =
      record {
        ones_state = refl;
        other_state = λ i. record { mode = e.is_locked i; expected = e.expects i };
        agree = agree-start n region e.sized;
      }

  run-works : headed script ≡ true → (run_of script picture password expected n).answer ≡ passed → Works script picture password expected n
  run-works begins e = record {
    is_script = record { begins = begins; used_up = (go (card_of (locked expected)) (replicate n 0x00) (entered 0x00 (omega arith)) nine nine-roomy).0 };
    delivers = λ card region en buffer roomy. (go card region en buffer roomy).1;
  }
    where
      go : (card : Card) (region : List ℕ) → Entered n expected card region → (buffer : ℕ → List ℕ) → Roomy buffer
          → ((frames_of (drop 5 script)).rest ≡ []) × Delivers picture region (calls_of (record { size = n; password = password; buffer = buffer }) 0 card region (packets_in script))
      go card region en buffer roomy =
          passed-sent n good password wide buffer roomy picture (packets_in script) 5 0 0 (over 0x00) (over 0xFF) card region (frames_of (drop 5 script)).rest
          refl (length-replicate n 0x00) (beside card region en) e

  works-run : Works script picture password expected n → (run_of script picture password expected n).answer ≡ passed
  works-run w =
      subst (λ (rest : List ℕ). (run_from (step_of password picture) (over 0x00) (over 0xFF) 5 0 rest (packets_in script)).answer ≡ passed) (sym w.is_script.used_up)
      (sent-passed n good password wide nine nine-roomy picture (packets_in script) 5 0 0 (over 0x00) (over 0xFF) refl refl (length-replicate n 0x00) (length-replicate n 0xFF)
      (w.delivers (card_of (locked expected)) (replicate n 0x00) (entered 0x00 (omega arith)) nine nine-roomy)
      (w.delivers (card_of (locked expected)) (replicate n 0xFF) (entered 0xFF (omega arith)) nine nine-roomy))

-- past the limits the head decides, and then the packets
within : (script text password : List ℕ) (expected n : ℕ) (zeros ones : List ℕ) → Limits script text password n zeros ones
    → check_of script text password expected n zeros ones
    ≡ unless_refused (cond (headed script) passed (check.refused 6 0)) zeros ones (run_of script (picture_of n (image_of text)) password expected n)
unfolding check_of judged_of
within script text password expected n zeros ones l =
    rw (l.size, eq-eqb (length zeros) n l.zeros_sized, eq-eqb (length ones) n l.ones_sized, eq-eqb (length password) 256 l.wide, le-ltb longest_script (length script) l.short, l.from_sound, check_of, judged_of) refl

-- ---- the page's own scripts

-- a sound text has an image that an erased region takes
module _ (text : List ℕ) (n : ℕ) where
  takes : rules_of text n ≡ sound → Ready n (replicate n 0xFF) (past (image_of text)) × (placed (past (image_of text)) (replicate n 0xFF) ≡ picture_of n (image_of text))
  unfolding picture_of
  takes e =
      let p = sound-parts n (image_of text) (sound-image text n e) in
      let first = image-starts text in
      subst (λ (bytes : List ℕ). Ready n (sets (replicate n 0xFF) 0 bytes) (past (image_of text)) × (placed (past (image_of text)) (sets (replicate n 0xFF) 0 bytes) ≡ placed (image_of text) (replicate n 0xFF))) first.0
      (ahead-put n (replicate n 0xFF) (image_of text) 0 (ready-erased n (image_of text) p.1 p.2 (image-in-order text) (image-valued text)) (first.1 0))

  picture-long : length (picture_of n (image_of text)) ≡ n
  unfolding picture_of
  picture-long = length-placed (image_of text) (replicate n 0xFF) ∙ length-replicate n 0xFF

  page-works : (password : List ℕ) (entry : ℕ) (ranges : List Range) → rules_of text n ≡ sound → good_size n ≡ true → length password ≡ 256 → Inside n ranges → entry < n
      → Works (page_script (image_of text) password entry ranges) (picture_of n (image_of text)) password (checksum_of (picture_of n (image_of text))) n
  page-works password entry ranges e good wide inside enters =
      let i = image_of text in
      let framed = page-framed i password entry ranges wide in
      let t = takes e in
      record {
        is_script = record { begins = page-headed i password entry ranges; used_up = ap (λ (f : Frames). f.rest) framed };
        delivers = λ card region en buffer roomy.
            subst (λ (packets : List (List ℕ)). Delivers (picture_of n i) region (calls_of (record { size = n; password = password; buffer = buffer }) 0 card region packets)) (sym (ap (λ (f : Frames). f.packets) framed))
            (page-does n good password wide buffer roomy (picture_of n i) card (checksum_of (picture_of n i)) i ranges entry region en.is_locked en.expects en.sized t.0 t.1 picture-long inside refl enters);
      }

-- ---- both halves

pub demand3 : Demand3
demand3 script text password expected n zeros ones l =
    record {
      exactly = (λ e. to-works (headed script) refl (sym is ∙ e), to-passed);
      page = λ entry rules sum enters. to-passed (page-way entry rules sum enters);
    }
  where
    is : (check_of script text password expected n zeros ones).answer ≡ (unless_refused (cond (headed script) passed (check.refused 6 0)) zeros ones (run_of script (picture_of n (image_of text)) password expected n)).answer
    is = ap (λ (c : Checked). c.answer) (within script text password expected n zeros ones l)

    to-works : (t : Bool) → headed script ≡ t → (unless_refused (cond t passed (check.refused 6 0)) zeros ones (run_of script (picture_of n (image_of text)) password expected n)).answer ≡ passed
        → Works script (picture_of n (image_of text)) password expected n
    to-works true begins e = run-works script password expected n l.size l.wide (picture_of n (image_of text)) begins e
    to-works false begins e = no-pass 6 0 e

    to-passed : Works script (picture_of n (image_of text)) password expected n → (check_of script text password expected n zeros ones).answer ≡ passed
    to-passed w = is ∙ rw w.is_script.begins (works-run script password expected n l.size l.wide (picture_of n (image_of text)) w)

    page-way : (entry : ℕ) → ByTheRules n (image_of text) password entry script → checksum_of (picture_of n (image_of text)) ≡ expected → entry < n → Works script (picture_of n (image_of text)) password expected n
    page-way entry rules sum enters =
        subst (λ (e : ℕ). Works script (picture_of n (image_of text)) password e n) sum
        (subst (λ (s : List ℕ). Works s (picture_of n (image_of text)) password (checksum_of (picture_of n (image_of text))) n) (sym rules.written)
        (page-works text n password entry rules.ranges l.from_sound l.size l.wide rules.inside enters))

pub planned-passes : PlannedPasses
planned-passes text password entry n output count zeros ones sz so e =
    let w = plans-right text password entry n output count e in
    subst (λ (s : List ℕ). (check_of s text password (checksum_of (picture_of n (image_of text))) n zeros ones).answer ≡ passed) (sym w.first)
    ((demand3 w.script text password (checksum_of (picture_of n (image_of text))) n zeros ones
    (record { size = w.good; zeros_sized = sz; ones_sized = so; wide = w.wide; short = w.short; from_sound = w.from_sound })
    ).page entry w.by_rules refl w.enters)
