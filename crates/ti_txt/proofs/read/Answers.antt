-- `ti_txt::read` meets its contract, by what its callees ensure.
-- Assumes nothing.
use mathlib.Core.Path.{◌≡◌, refl, sym, ap, subst, ◌∙◌}
use borrow.Author.Tests.{ne_eqb}
use Rattle.std.proofs.Common.{Result, Err}
use Rattle.std.proofs.lemmas.Result.{err_from_is_err_and}
use Rattle.refusal.specs.declared.Refused.{Refused}
use Rattle.firmware_text.specs.Machine.{image_of}
use Rattle.text_image.specs.Rules.{sound, judged}
use Rattle.text_image.specs.Picture.{placed, picture_of}
use Rattle.ti_txt.specs.Answers.{outcome, read_of}
use Rattle.ti_txt.proofs.Outcomes.{read-sized}
use Rattle.ti_txt.proofs.read.Goals as goal

pub returns-then-region-size : goal.returns-then-region-size
unfolding read_of
returns-then-region-size c = rw (c.into.ensures, ne_eqb _ _ c.if-region-size.true) refl

pub returns-in_err-judge : goal.returns-in_err-judge
returns-in_err-judge c =
    let args = c.args in
    let text = args.text.now in
    let old = args.region.now in
    let left = err_from_is_err_and _ c.from_residual.ensures.1 in
    let why = ap judged (ap Err left.2 ∙ sym c.in_err-judge.was) ∙ c.judge.ensures in
    subst (λ (v : Result Unit Refused). outcome (judged v) old ≡ read_of text args.size old) (sym left.1)
    (read-sized text args.size old c.if-region-size.false (judged (Err left.0)) why)

pub returns : goal.returns
unfolding picture_of
returns c =
    let args = c.args in
    let text = args.text.now in
    let old = args.region.now in
    let shown = c.place.ensures ∙ ap (placed (image_of text)) c.blank.ensures in
    ap (outcome sound) shown ∙ read-sized text args.size old c.if-region-size.false sound c.in_ok-judge.ensures
