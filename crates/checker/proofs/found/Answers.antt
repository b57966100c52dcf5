-- `checker::found` meets its contract.
-- Assumes nothing.
use Rattle.std.proofs.Common.{rules}
use Rattle.checker.specs.Answers.{said}
use Rattle.checker.proofs.Steps.{single-told}
use Rattle.checker.proofs.found.Goals as goal

pub returns : goal.returns
returns c =
    let a = c.args in
    λ zeros ones t. single-told (said a.answer) a.packets c.unknown.result zeros ones a.known.now
    (λ i. search rules) t c.unknown.ensures
