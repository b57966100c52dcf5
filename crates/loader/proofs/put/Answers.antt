-- `loader::put` meets its contract: where nothing is answered, nothing is stored.
-- Assumes nothing.
use mathlib.Core.Path.{sym, ap}
use Rattle.little_endian.proofs.Stored.{stored-nothing}
use Rattle.loader.specs.Reply.{bytes_of, placed}
use Rattle.loader.proofs.put.Goals as goal

pub returns-in-Nothing : goal.returns-in-Nothing
unfolding bytes_of
returns-in-Nothing c = rw c.in-Nothing.is (ap (placed 0) (sym (stored-nothing 0 c.args.out.now)))
