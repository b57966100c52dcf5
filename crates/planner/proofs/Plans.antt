-- What the planner's answer says of the output; no script of a text is above document 01's limit.
-- Assumes nothing.
use mathlib.Core.Path.{◌≡◌, refl, sym, ap, ◌∙◌}
use mathlib.Core.Bool.{true, not}
use mathlib.Core.List.{List, [], ◌++◌}
use Prim.Native.Nat.{ℕ, ◌+◌, ◌≤◌, ◌<◌}
use native.Mathlib.Omega.{arith}
use borrow.Author.Tests.{eqb-true, leb-false, ltb-false, not-false}
use lib.Dec.{eqb, leb, ltb}
use lib.ListN.{length, take, drop, length-append, length-take}
use lib.Seq.{take_at, drop_at}
use Rattle.std.proofs.Common.{Result, Ok}
use Rattle.refusal.specs.declared.Refused.{Refused}
use Rattle.firmware_text.specs.Machine.{image_of}
use Rattle.firmware_text.specs.Segments.{segments_of}
use Rattle.little_endian.specs.Bytes.{stored_at}
use Rattle.little_endian.proofs.Stored.{stored-between}
use Rattle.packet.specs.Packet.{packet_of}
use Rattle.packet.proofs.Written.{packet-length}
use Rattle.region.specs.Size.{good_size}
use Rattle.script.specs.Script.{Frames, longest_script}
use Rattle.script.specs.Page.{addressed, writes_of, packets_of, page_script}
use Rattle.script.proofs.Pages.{writes_short, page-headed, page-framed}
use Rattle.test_laws.proofs.Tests.{on-cond}
use Rattle.text_image.specs.Rules.{Judgement, longest, rules_of}
use Rattle.text_image.specs.Rules as rules
use Rattle.text_image.proofs.Sounds.{sound-short}
use Rattle.planner.specs.Walk.{front}
use Rattle.planner.specs.Plan.{Left, said, refused, planned, left, put_over, if_sound, plan_of}
use Rattle.planner.specs.Meaning.{Wrote, PlansRight}
use Rattle.planner.proofs.Puts.{front_length, page-parts}

-- the planner's script is never above document 01's limit
pub script-short : (text password : List ℕ) (entry : ℕ) → length text ≤ longest → length password ≡ 256
    → length (page_script (image_of text) password entry []) ≤ longest_script
script-short text password entry short wide =
    let writes = packets_of (writes_of (segments_of (image_of text))) in
    let last = packet_of (addressed 0x27 entry) in
    omega (
      arith,
      ap length (page-parts (image_of text) password entry),
      length-append (front password ++ writes) last,
      length-append (front password) writes,
      front_length password wide,
      writes_short text,
      packet-length (addressed 0x27 entry),
    )

-- a refusal is no length
not-planned : {A : Type 0} (number place count : ℕ) → refused number place ≡ planned count → A
not-planned number place count e = let z : ◌≡◌ {A = ℕ} 0 1 = cc in absurd (omega arith)

-- bytes that were stored first
stored-first : (new old : List ℕ) → length new ≤ length old
    → (take (length new) (stored_at 0 new old) ≡ new) × (drop (length new) (stored_at 0 new old) ≡ drop (length new) old)
stored-first new old fits =
    let between = stored-between 0 new old (omega arith) in
    let rest = drop (0 + length new) old in
    let none : 0 + length new ≡ length new = omega arith in (
      ap (take (length new)) between ∙ take_at new rest (length new) refl,
      ap (drop (length new)) between ∙ drop_at new rest (length new) refl ∙ ap (λ (n : ℕ). drop n old) none,
    )

pub plans-right : PlansRight
unfolding plan_of put_over
plans-right text password entry n output count =
    on-cond P (not (good_size n)) _ _ (λ _. not-planned 1 0 count)
    (λ good. on-cond P (not (eqb (length password) 256)) _ _ (λ _. not-planned 2 0 count)
    (λ wide. on-cond P (leb n entry) _ _ (λ _. not-planned 14 0 count)
    (λ inside. judged (not-false _ good) (eqb-true _ _ (not-false _ wide)) (leb-false n entry inside) (rules_of text n) refl)))
  where
    script : List ℕ
    script = page_script (image_of text) password entry []

    P : Left → Type 0
    P l = l.answer ≡ planned count → Wrote text password entry n output count l.output

    judged : good_size n ≡ true → length password ≡ 256 → entry < n → (j : Judgement) → rules_of text n ≡ j
        → P (if_sound j output (put_over script output))
    judged good wide inside (rules.refused number place) e = not-planned number place count
    judged good wide inside rules.sound e =
        on-cond P (ltb (length output) (length script)) _ _ (λ _. not-planned 13 0 count) (λ long is.
        let fits = ltb-false (length output) (length script) long in
        let same : count ≡ length script = cc in
        let stored = stored-first script output fits in
        record {
          script = script;
          good = good;
          wide = wide;
          from_sound = e;
          enters = inside;
          by_rules = record { ranges = []; inside = tt; written = refl };
          begins = page-headed (image_of text) password entry [];
          used_up = ap (λ (f : Frames). f.rest) (page-framed (image_of text) password entry [] wide);
          short = script-short text password entry (sound-short text n e) wide;
          counted = same;
          first = ap (λ (k : ℕ). take k (stored_at 0 script output)) same ∙ stored.0;
          untouched = ap (λ (k : ℕ). drop k (stored_at 0 script output)) same ∙ stored.1 ∙ ap (λ (k : ℕ). drop k output) (sym same);
        })

-- a length that was answered is no longer than the output, for callers
pub written-fits : (text password : List ℕ) (entry n : ℕ) (output : List ℕ) (r : Result ℕ Refused) (after : List ℕ) (count : ℕ)
    → left (said r) after ≡ plan_of text password entry n output → r ≡ Ok count → count ≤ length after
written-fits text password entry n output r after count e is =
    let answer = ap (λ (l : Left). l.answer) (sym e) ∙ ap said is in
    let w = plans-right text password entry n output count answer in
    let front = ap length (ap (λ (l : Left). take count l.output) e ∙ w.first) in
    omega (arith, w.counted, front, length-take count after)
