-- `text_cursor::line_end` meets its contract: each return is one way of a line to end.
-- Assumes nothing.
use Prim.Native.Nat.{◌+◌}
use mathlib.Core.Path.{refl, sym, ap, ◌∙◌}
use mathlib.Core.Bool.{false≢true}
use native.Mathlib.Omega.{arith}
use Rattle.firmware_text.specs.Machine.{return, on, step, ended, ends}
use Rattle.firmware_text.proofs.Steps.{step_other, feed-other, ends-feed, ends_return, ended_at}
use Rattle.text_cursor.proofs.Walks.{from_step, end_step, end-neither, return-no_feed}
use Rattle.text_cursor.proofs.line_end.Goals as goal

pub returns-then-stands : goal.returns-then-stands
returns-then-stands c =
    let text = c.args.text.now in
    let at = c.args.at in
    let feed = c.if-stands.ensures.0 refl in (
      λ l. sym (end_step text at l (ended l) feed.0 (ap (ends l) feed.1 ∙ ends-feed l) ∙ ended_at l at (at + 1) _),
      (omega arith, omega arith),
    )

pub returns-then-not-stands : goal.returns-then-not-stands
returns-then-not-stands c = (
  λ l. sym (end-neither _ c.args.at l (λ p. false≢true (c.if-stands.ensures.1 p)) (λ p. false≢true (c.if-not-stands.ensures.1 p))),
  tt,
)

pub returns-then-not-stands-2 : goal.returns-then-not-stands-2
returns-then-not-stands-2 c =
    let at = c.args.at in
    let ret = c.if-not-stands.ensures.0 refl in (
      λ l. sym (end_step _ at l (on (return l)) ret.0 (ap (ends l) ret.1 ∙ ends_return l)
          ∙ return-no_feed _ (at + 1) l (λ p. false≢true (c.if-not-stands-2.ensures.1 p))),
      tt,
    )

pub returns : goal.returns
returns c =
    let at = c.args.at in
    let ret = c.if-not-stands.ensures.0 refl in
    let feed = c.if-not-stands-2.ensures.0 refl in (
      λ l. sym (end_step _ at l (on (return l)) ret.0 (ap (ends l) ret.1 ∙ ends_return l)
          ∙ from_step _ (at + 1) (return l) (ended l) feed.0
          (ap (step (return l) (at + 1)) feed.1 ∙ step_other (return l) (at + 1) 10 feed-other)
          ∙ ended_at l (at + 1) (at + 1 + 1) _),
      (omega arith, omega arith),
    )
