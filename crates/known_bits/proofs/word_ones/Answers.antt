-- `known_bits::word_ones` meets its contract.
-- Assumes nothing.
use Rattle.std.proofs.Common.{ap, ◌∙◌}
use Rattle.std.specs.Int.Count.{ones}
use Rattle.known_bits.proofs.Words.{word-count}
use Rattle.known_bits.proofs.word_ones.Goals as goal

pub returns : goal.returns
returns c = ap ones c.number_at.ensures ∙ word-count c.args.word.now (λ i. (c.type_inv.word i).fits) c.requires
