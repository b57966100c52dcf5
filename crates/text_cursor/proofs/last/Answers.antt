-- `text_cursor::last` meets its contract, by what `line_end` found.
-- Assumes nothing.
use mathlib.Core.Path.{refl, sym, ap, ◌∙◌}
use Rattle.firmware_text.specs.Image.{broken}
use Rattle.firmware_text.specs.Machine.{quit, over, last, stuck}
use Rattle.firmware_text.proofs.Steps.{step-ends, step-over}
use Rattle.text_cursor.proofs.Walks.{from_end, from_step, end-here, tells-fault, tells-err}
use Rattle.text_cursor.proofs.last.Goals as goal

pub returns-then-text-at : goal.returns-then-text-at
returns-then-text-at c = record { tells = sym (from_end _ _ quit c.if-text-at.true); further = tt }

pub returns-in_err-past : goal.returns-in_err-past
returns-in_err-past c =
    let text = c.args.text.now in
    let at = c.args.at in
    let here = end-here text at quit last c.if-text-at.false (step-ends quit last at _ refl refl) in
    tells-err text at _ _ c.from_residual.ensures.1 (λ p e. ap broken e ∙ c.in_err-past.ensures.0 last ∙ here)

pub returns-then-past-text : goal.returns-then-past-text
returns-then-past-text c =
    let text = c.args.text.now in
    let at = c.args.at in
    let n = c.in_ok-past.past in
    let found = c.in_ok-past.ensures.0 last in
    let here = end-here text at quit last c.if-text-at.false (step-ends quit last at _ refl refl) in
    tells-fault text at n _ (sym (from_step text n over stuck c.if-past-text.true (step-over n _)) ∙ found ∙ here)

pub returns : goal.returns
returns c =
    let text = c.args.text.now in
    let at = c.args.at in
    let n = c.in_ok-past.past in
    let found = c.in_ok-past.ensures.0 last in
    let here = end-here text at quit last c.if-text-at.false (step-ends quit last at _ refl refl) in
    record { tells = sym (from_end text n over c.if-past-text.false) ∙ found ∙ here; further = tt }
