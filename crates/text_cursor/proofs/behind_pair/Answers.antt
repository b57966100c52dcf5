-- `text_cursor::behind_pair` meets its contract: a space, or the end of the line.
-- Assumes nothing.
use Prim.Native.Nat.{◌+◌}
use mathlib.Core.Path.{refl, sym, ap, ◌∙◌}
use mathlib.Core.Bool.{false≢true}
use native.Mathlib.Omega.{arith}
use borrow.Author.Tests.{le-ltb}
use Rattle.firmware_text.specs.Machine.{full, gap, within, on, step}
use Rattle.firmware_text.proofs.Steps.{step_other, full-space, full-ends}
use Rattle.text_cursor.proofs.Walks.{from_step, end-from, reached-on}
use Rattle.text_cursor.proofs.behind_pair.Goals as goal

pub returns-then-not-stands : goal.returns-then-not-stands
returns-then-not-stands c =
    let text = c.args.text.now in
    let at = c.args.at in (
      λ k a h. c.line_ahead.ensures.0 k a h
          ∙ end-from text at (full k a) (within a) refl
          (λ inside. full-ends k a at _ (λ e. false≢true (c.if-not-stands.ensures.1 (inside, e)))),
      c.line_ahead.ensures.1,
    )

pub returns-in-Ok : goal.returns-in-Ok
returns-in-Ok c =
    let text = c.args.text.now in
    let at = c.args.at in
    let space = c.if-not-stands.ensures.0 refl in
    let d = c.in-Ok.ensures in (
      λ k a h. sym (from_step text at (full k a) (on (gap k a)) space.0 (ap (step (full k a) at) space.1 ∙ full-space k a at)),
      (omega arith, d),
    )

pub returns-in-Err : goal.returns-in-Err
returns-in-Err c =
    let text = c.args.text.now in
    let at = c.args.at in
    let space = c.if-not-stands.ensures.0 refl in (
      λ k a h. c.line_ahead-in-Err.ensures.0 k a h
          ∙ end-from text (at + 1) (gap k a) (within a) refl
          (λ inside. step_other (gap k a) (at + 1) _ (le-ltb _ _ (c.in-Err.ensures.1 inside)))
          ∙ sym (from_step text at (full k a) (on (gap k a)) space.0 (ap (step (full k a) at) space.1 ∙ full-space k a at)),
      reached-on text at (at + 1) c.line_ahead-in-Err.result (omega arith) c.line_ahead-in-Err.ensures.1,
    )
