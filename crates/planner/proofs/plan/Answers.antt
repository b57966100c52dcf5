-- `planner::plan` meets its contract: the tests that led to each answer pick the case.
-- Assumes nothing.
use mathlib.Core.Path.{◌≡◌, refl, sym, ap, subst, ◌∙◌}
use borrow.Author.Tests.{eq-eqb, ne_eqb, le-leb, lt-leb}
use Prim.Native.Nat.{ℕ}
use lib.ListN.{length}
use Rattle.std.proofs.Common.{Result, Err}
use Rattle.std.proofs.lemmas.Result.{err_from_is_err_and}
use Rattle.refusal.specs.declared.Refused.{Refused}
use Rattle.text_image.specs.Rules.{judged}
use Rattle.text_image.proofs.Sounds.{sound-short}
use Rattle.planner.specs.Plan.{said, left, plan_of}
use Rattle.planner.proofs.plan.Goals as goal

pub returns-then-not-size_good : goal.returns-then-not-size_good
unfolding plan_of
returns-then-not-size_good c = rw (c.into.ensures, ← c.if-not-size_good.ensures) refl

pub returns-in_default : goal.returns-in_default
unfolding plan_of
returns-in_default c =
    rw (c.into-in_default.ensures, ← c.if-not-size_good.ensures, ne_eqb (length c.args.password.now) 256 c.in_default.ensures.cases) refl

pub returns-then-size-entry : goal.returns-then-size-entry
unfolding plan_of
returns-then-size-entry c =
    rw (
      c.into-then-size-entry.ensures,
      ← c.if-not-size_good.ensures,
      eq-eqb _ 256 c.in-Some.ensures.cases.long,
      le-leb _ _ c.if-size-entry.true,
    )
    refl

pub write-requires : goal.write-requires
write-requires c = sound-short _ _ (sym c.in_ok-judge.ensures)

pub returns : goal.returns
unfolding plan_of
returns c =
    rw (
      ← c.if-not-size_good.ensures,
      eq-eqb _ 256 c.in-Some.ensures.cases.long,
      lt-leb _ _ c.if-size-entry.false,
      ← c.in_ok-judge.ensures,
    )
    (rw c.in-Some.ensures.cases.same at c.write.ensures)

pub returns-in_err-judge : goal.returns-in_err-judge
unfolding plan_of
returns-in_err-judge c =
    let args = c.args in
    let out = args.out.now in
    let why = err_from_is_err_and _ c.from_residual.ensures.1 in
    let refused = ap judged (ap Err why.2 ∙ sym c.in_err-judge.was) ∙ c.judge.ensures in
    subst (λ (r : Result ℕ Refused). left (said r) out ≡ plan_of args.text.now args.password.now args.entry args.size out) (sym why.1)
    (rw (
      ← c.if-not-size_good.ensures,
      eq-eqb _ 256 c.in-Some.ensures.cases.long,
      lt-leb _ _ c.if-size-entry.false,
      ← refused,
    )
    refl)
