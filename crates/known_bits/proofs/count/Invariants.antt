-- `known_bits::count` meets its contract: the bits of the words that were counted, and of the bytes behind all words.
-- Assumes nothing.
use Rattle.std.proofs.Common.{◌≡◌, ◌+◌, take}
use Rattle.std.specs.List.{sum_by}
use Rattle.known_bits.specs.Known.{count_of}
use Rattle.known_bits.proofs.count.Given as goal

abbrev pub invariant-loop-word : goal.invariant-loop-word
invariant-loop-word l = l.n ≡ l.initial.n + sum_by count_of (take l.word-index l.words)
