-- `text_image::judge` meets its contract, by what its callees ensure.
-- Assumes nothing.
use Prim.Native.Nat.{◌<◌, ◌≤◌}
use mathlib.Core.Path.{refl}
use native.Mathlib.Omega.{arith}
use lib.ListN.{length}
use borrow.Author.Tests.{lt-ltb, le-ltb}
use Rattle.text_image.specs.Rules.{longest, rules_of}
use Rattle.text_image.proofs.judge.Goals as goal

pub returns-then-not-size_good : goal.returns-then-not-size_good
unfolding rules_of
returns-then-not-size_good c = rw (c.into.ensures, ← c.if-not-size_good.ensures) refl

pub returns-then-text-gt-LONGEST : goal.returns-then-text-gt-LONGEST
unfolding rules_of
returns-then-text-gt-LONGEST c =
    let long : longest < length c.args.text.now = omega arith in
    rw (c.into-then-text-gt-LONGEST.ensures, ← c.if-not-size_good.ensures, lt-ltb _ _ long) refl

pub returns : goal.returns
unfolding rules_of
returns c =
    let short : length c.args.text.now ≤ longest = omega arith in
    rw (← c.if-not-size_good.ensures, le-ltb _ _ short) c.judge_image.ensures
