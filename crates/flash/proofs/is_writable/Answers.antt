-- `flash::is_writable` meets its contract: each new byte is tested beside its own old one, unless there are more of the new.
-- Assumes nothing.
use mathlib.Core.Path.{sym, ◌∙◌}
use borrow.Author.Tests.{lt-leb}
use Rattle.std.proofs.Common.{rules, tests}
use Rattle.std.proofs.lemmas.Iterator.{YieldsList-from_slice, YieldsList-from_zip}
use Rattle.std.proofs.lemmas.Iterator.Search.{all_from_yields_List}
use Rattle.flash.proofs.Writing.{clears, writable-by_pairs, writable_short}
use Rattle.flash.proofs.is_writable.Goals as goal

pub returns-then-new-old : goal.returns-then-new-old
returns-then-new-old c =
    all_from_yields_List clears c.all.new.self _ _ c.all.ensures.ran
    (YieldsList-from_zip (YieldsList-from_slice c.args.old.now cc) (YieldsList-from_slice c.args.new.now cc))
    (λ x b q k. search (rules, tests))
    ∙ writable-by_pairs c.args.old.now c.args.new.now c.if-new-old.true

pub returns-else-new-old : goal.returns-else-new-old
returns-else-new-old c =
    lt-leb _ _ c.if-new-old.false ∙ sym (writable_short c.args.old.now c.args.new.now c.if-new-old.false)
