-- `power_cut::command_work` meets its contract: an erase always succeeds, and a write where the region allows its bytes.
-- Assumes nothing.
use mathlib.Core.Path.{refl, ◌∙◌}
use Rattle.loader.specs.Loader.{done_of}
use Rattle.power_cut.specs.Cut.{command_work}
use Rattle.power_cut.proofs.Cuts.{write-works}
use Rattle.power_cut.proofs.command_work.Goals as goal

pub returns-in-Erase : goal.returns-in-Erase
unfolding command_work done_of
returns-in-Erase c = λ loader password. rw c.in-Erase.is refl

pub returns-in-Write : goal.returns-in-Write
returns-in-Write c =
    λ loader password. rw c.in-Write.is (c.write_work.ensures ∙ write-works loader c.args.region.now password c.args.core.now)
