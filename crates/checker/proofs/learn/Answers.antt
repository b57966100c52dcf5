-- `checker::learn` meets its contract: by the command that was found.
-- Assumes nothing.
use Rattle.std.proofs.Common.{sym, ◌∙◌, arith}
use Rattle.checker.proofs.Steps.{write-row}
use Rattle.checker.proofs.learn.Goals as goal

pub overflow_sub-core : goal.overflow_sub-core
overflow_sub-core c =
    let row = write-row c.core-core.result.now (sym c.in-Write.is ∙ c.command_of.ensures) in
    omega (arith, row.long)
