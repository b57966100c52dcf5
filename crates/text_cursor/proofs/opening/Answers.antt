-- `text_cursor::opening` meets its contract: digits, a line end, then the segment.
-- Assumes nothing.
use Prim.Native.Nat.{ℕ, ◌+◌}
use mathlib.Core.Path.{refl, sym, ap, ◌∙◌}
use native.Mathlib.Omega.{arith}
use borrow.Author.Tests.{le-ltb}
use lib.ListN.{get_or}
use Rattle.firmware_text.specs.Digit.{digit}
use Rattle.firmware_text.specs.Image.{segment, broken}
use Rattle.firmware_text.specs.Machine.{sign, number, opening, on}
use Rattle.firmware_text.proofs.Steps.{step-hex, step_other, number-ends}
use Rattle.text_cursor.specs.Walk.{from}
use Rattle.text_cursor.proofs.Walks.{from_step, from_no_digit, end-from, rest-near, stop-line, state-below, tells-err, is-hex}
use Rattle.text_cursor.proofs.opening.Goals as goal

pub returns-in_err-first : goal.returns-in_err-first
returns-in_err-first c =
    let text = c.args.text.now in
    let at = c.args.at in
    let none = c.in_err-first.ensures in
    let goes = from_no_digit text at sign refl (λ inside. step_other sign at _ (le-ltb _ _ (none.1 inside))) in
    tells-err text at _ _ c.from_residual.ensures.1 (λ p e. ap broken (e ∙ none.0) ∙ sym goes)

pub returns-in_err-past : goal.returns-in_err-past
returns-in_err-past c =
    let text = c.args.text.now in
    let at = c.args.at in
    let d = c.in_ok-first.ensures in
    let n = c.digits-number.result in
    let k = c.digits-number.ensures in
    let hex = is-hex (get_or text at 0) _ d.1 d.2 in
    let goes = from_step text at sign (on (number 1 (digit (get_or text at 0)))) d.0 (step-hex sign at _ hex) in
    let ends-here =
    end-from text n.past (number k.count n.value) (opening n.value) refl (λ h. number-ends k.count n.value n.past _ (k.stops h)) in
    let found = c.in_err-past.ensures.0 (opening n.value) in
    tells-err text at _ _ c.from_residual-in_err-past.ensures.1
    (λ p e. ap broken e ∙ found ∙ ends-here ∙ sym k.reads ∙ ap (λ (x : ℕ). from (number 1 x) (at + 1) text) d.1 ∙ sym goes)

pub returns : goal.returns
returns c =
    let text = c.args.text.now in
    let at = c.args.at in
    let d = c.in_ok-first.ensures in
    let n = c.digits-number.result in
    let k = c.digits-number.ensures in
    let next = c.in_ok-past.past in
    let beyond = c.in_ok-past.ensures.1 in
    let hex = is-hex (get_or text at 0) _ d.1 d.2 in
    let goes = from_step text at sign (on (number 1 (digit (get_or text at 0)))) d.0 (step-hex sign at _ hex) in
    let ends-here =
    end-from text n.past (number k.count n.value) (opening n.value) refl (λ h. number-ends k.count n.value n.past _ (k.stops h)) in
    let found = c.in_ok-past.ensures.0 (opening n.value) in
    let behind =
    rest-near text next 0 n.value (omega (arith, k.small))
    ∙ ap (λ s. from s next text) (stop-line 0 n.value refl ∙ state-below 0 n.value (omega arith)) in
    record {
      tells =
          ap (segment n.value) behind ∙ found ∙ ends-here ∙ sym k.reads ∙ ap (λ (x : ℕ). from (number 1 x) (at + 1) text) d.1
          ∙ sym goes;
      further = (omega (arith, k.behind_first, beyond.0), beyond.1);
    }
