-- `text_cursor::pair` meets its contract: the second digit, then the byte.
-- Assumes nothing.
use Prim.Native.Nat.{ℕ, ◌+◌, ◌*◌}
use mathlib.Core.Path.{refl, sym, ap, ◌∙◌}
use native.Mathlib.Omega.{arith}
use borrow.Author.Tests.{le-ltb}
use lib.ListN.{get_or}
use Rattle.firmware_text.specs.Digit.{digit}
use Rattle.firmware_text.specs.Image.{byte, broken}
use Rattle.firmware_text.specs.Machine.{half, full, gives}
use Rattle.firmware_text.proofs.Steps.{step-hex, step_other}
use Rattle.text_cursor.specs.Walk.{from}
use Rattle.text_cursor.proofs.Walks.{from_step, from_no_digit, rest-near, stop-pair, is-hex, tells-err}
use Rattle.text_cursor.proofs.pair.Goals as goal

pub returns-in_err-low : goal.returns-in_err-low
returns-in_err-low c =
    let start = c.args in
    let text = start.text.now in
    let at = start.at in
    let s = half at start.pairs start.address start.high in
    let none = c.in_err-low.ensures in
    let goes = from_no_digit text (at + 1) s refl (λ inside. step_other s (at + 1) _ (le-ltb _ _ (none.1 inside))) in
    tells-err text at _ _ c.from_residual.ensures.1 (λ p e. ap broken (e ∙ none.0) ∙ sym goes)

pub returns : goal.returns
returns c =
    let start = c.args in
    let text = start.text.now in
    let at = start.at in
    let k = start.pairs in
    let a = start.address in
    let high = start.high in
    let d = c.in_ok-low.ensures in
    let hex = is-hex (get_or text (at + 1) 0) _ d.1 d.2 in
    let s = half at k a high in
    let goes =
    from_step text (at + 1) s (gives at k a (high * 16 + digit (get_or text (at + 1) 0))) d.0 (step-hex s (at + 1) _ hex) in
    let behind =
    rest-near text (at + 1 + 1) k (a + 1) (omega (arith, c.requires.1))
    ∙ ap (λ s. from s (at + 1 + 1) text) (stop-pair k (a + 1) (omega (arith, c.requires.3)) c.requires.4) in
    record {
      tells =
          ap (byte at a (high * 16 + c.in_ok-low.low)) behind
          ∙ ap (λ (x : ℕ). byte at a (high * 16 + x) (from (full k (a + 1)) (at + 1 + 1) text)) d.1
          ∙ sym goes;
      further = (omega arith, omega (arith, d.0));
    }
