-- `ti_txt::is_picture` meets its contract, by what its callees ensure.
-- Assumes nothing.
use mathlib.Core.Path.{◌≡◌, sym, ◌∙◌}
use mathlib.Core.Bool.{true, false, false≢true}
use mathlib.Core.Logic.{⊎_elim}
use lib.ListN.{length}
use borrow.Author.Tests.{lt-leb, lt-ltb, le-ltb}
use Rattle.region.specs.Size.{good_size}
use Rattle.region.proofs.Sizes.{good-small}
use Rattle.text_image.specs.Rules.{rules_of}
use Rattle.ti_txt.specs.Answers.{is_picture_of}
use Rattle.ti_txt.proofs.is_picture.Goals.{then-size_good, else-size_good}
use Rattle.ti_txt.proofs.is_picture.Goals as goal

pub agrees-requires : goal.agrees-requires
agrees-requires c = good-small _ (sym c.size_good.ensures ∙ c.if-text-le-LONGEST.true.0)

pub returns-then-text-le-LONGEST : goal.returns-then-text-le-LONGEST
unfolding is_picture_of rules_of
returns-then-text-le-LONGEST c =
    let good : good_size (length c.args.buffer.now) ≡ true = sym c.size_good.ensures ∙ c.if-text-le-LONGEST.true.0 in
    simp (good, le-ltb _ _ c.if-text-le-LONGEST.true.1) c.agrees.ensures

pub returns-else-text-le-LONGEST : goal.returns-else-text-le-LONGEST
unfolding is_picture_of rules_of
returns-else-text-le-LONGEST c =
    elim c.if-size_good.branch [
      | then-size_good w ↦
          let good : good_size (length c.args.buffer.now) ≡ true = sym c.size_good.ensures ∙ w.if-size_good.true in
          ⊎_elim (λ long. simp (good, lt-ltb _ _ long.1) (w.t-4-is ∙ lt-leb _ _ long.1)) (λ bad. absurd (false≢true (sym bad ∙ w.if-size_good.true)))
          c.if-text-le-LONGEST.either
      | else-size_good w ↦
          let bad : good_size (length c.args.buffer.now) ≡ false = sym c.size_good.ensures ∙ w.if-size_good.false in
          simp bad (w.t-4-is ∙ w.if-size_good.false)
    ]
