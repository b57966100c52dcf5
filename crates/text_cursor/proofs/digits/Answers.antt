-- `text_cursor::digits` meets its contract: its loop takes the digits of an address one by one.
-- Assumes nothing.
use Prim.Native.Nat.{ℕ, ◌+◌, ◌-◌, ◌*◌, ◌≤◌}
use mathlib.Core.Path.{◌≡◌, sym, ap, subst, ◌∙◌}
use native.Mathlib.Omega.{arith}
use lib.ListN.{length, get_or, take, drop, length-take, length-drop}
use mathlib.Core.Logic.{inl, inr}
use native.Mathlib.Numerals.{add-one}
use native.Mathlib.Nat.{pow-suc}
use Rattle.firmware_text.specs.Digit.{digit}
use Rattle.firmware_text.specs.Machine.{number, on}
use Rattle.firmware_text.proofs.Steps.{number-digit}
use Rattle.text_cursor.specs.Walk.{from}
use Rattle.text_cursor.proofs.Walks.{from-at, from_step, byte-up_to, is-hex, value-small}
use Rattle.text_cursor.proofs.digits.Goals as goal

pub loop-i-init : goal.loop-i-init
loop-i-init c =
    let text = c.args.text.now in
    let at = c.args.at in (
      omega (arith, c.requires.0, c.from-value.ensures),
      ap (λ (v : ℕ). from (number 1 v) at text) (sym c.from-value.ensures) ∙ from-at text at (number 1 c.from-value.result) (omega arith),
    )

pub returns-in_default : goal.returns-in_default
returns-in_default c =
    let l = c.loop-i in
    let b = byte-up_to c.args.text.now c.args.at (c.args.at + c.min.result) l.i (omega arith) c.loop-i-test.true in
    record {
      count = l.i + 1;
      reads = l.invariant.1;
      stops = λ _. inl (subst (λ (x : ℕ). 16 ≤ digit x) b.0 (omega (arith, c.in_default.ensures.value)));
      small = value-small (l.i + 1) l.value (omega (arith, b.1, c.min.ensures)) l.invariant.0;
      behind_first = omega arith;
    }

pub overflow_mul-value : goal.overflow_mul-value
overflow_mul-value c =
    let l = c.loop-i in
    let b = byte-up_to c.args.text.now c.args.at (c.args.at + c.min.result) l.i (omega arith) c.loop-i-test.true in
    omega (arith, value-small (l.i + 1) l.value (omega (arith, b.1, c.min.ensures)) l.invariant.0)

pub overflow_add-value : goal.overflow_add-value
overflow_add-value c =
    let l = c.loop-i in
    let b = byte-up_to c.args.text.now c.args.at (c.args.at + c.min.result) l.i (omega arith) c.loop-i-test.true in
    omega (arith, value-small (l.i + 1) l.value (omega (arith, b.1, c.min.ensures)) l.invariant.0, c.from.ensures, c.in-Some.ensures.small)

pub loop-i-preserved : goal.loop-i-preserved
loop-i-preserved c =
    let text = c.args.text.now in
    let at = c.args.at in
    let l = c.loop-i in
    let v = l.value in
    let b = byte-up_to text at (at + c.min.result) l.i (omega arith) c.loop-i-test.true in
    let d = c.in-Some.ensures in
    let is = d.value ∙ ap digit b.0 in
    let hex = is-hex (get_or text (at + l.i) 0) _ is d.small in
    let goes =
    from_step text (at + l.i) (number (l.i + 1) v) (on (number (l.i + 1 + 1) (v * 16 + digit (get_or text (at + l.i) 0)))) b.2
    (number-digit (l.i + 1) v (at + l.i) _ (omega (arith, b.1, c.min.ensures)) hex) in (
      rw (add-one (l.i + 1), pow-suc 16 (l.i + 1)) (omega (arith, l.invariant.0, d.small, c.from.ensures)),
      l.invariant.1 ∙ goes ∙ ap (λ (x : ℕ). from (number (l.i + 1 + 1) (v * 16 + x)) (at + l.i + 1) text) (sym (c.from.ensures ∙ is))
          ∙ from-at text at _ (omega arith),
    )

pub returns : goal.returns
returns c =
    let text = c.args.text.now in
    let at = c.args.at in
    let l = c.loop-i in
    let rest = take (at + c.min.result - at) (drop at text) in
    let all : l.i ≡ length rest = omega (arith, c.loop-i.auto.i-end, c.loop-i-test.false) in
    let short = length-take (at + c.min.result - at) (drop at text) in
    let behind = length-drop at text in
    record {
      count = l.i + 1;
      reads = l.invariant.1 ∙ from-at text at _ (ap (λ (n : ℕ). at + n) all);
      stops = λ h. inr (omega (arith, h, all, short, behind, c.min.ensures, c.requires.1));
      small = value-small (l.i + 1) l.value (omega (arith, all, short, c.min.ensures)) l.invariant.0;
      behind_first = omega arith;
    }
