-- `known_bits::count` meets its contract: the bits of the words that were counted, and of the bytes behind all words.
-- Assumes nothing.
use Rattle.std.proofs.Common.{◌≡◌, ℕ, [], ◌/◌, length, take, ap, ◌∙◌, arith}
use Rattle.std.specs.List.{sum_by}
use Rattle.std.proofs.Math.Seq.{take-length}
use Rattle.std.proofs.lemmas.List.Sums.{sum_by_more_le}
use Rattle.known_bits.specs.Known.{count_of}
use Rattle.known_bits.proofs.Words.{words-count, count-most}
use Rattle.known_bits.proofs.count.Goals as goal

pub overflow_add-n : goal.overflow_add-n
overflow_add-n c =
    let map = c.args.map.now in
    let chunks = c.as_chunks in
    let most = count-most map (λ i. (c.type_inv.map i).fits) in
    let words = ap (sum_by count_of) chunks.ensures.front in
    let rest = ap count_of chunks.ensures.back in
    let more = sum_by_more_le count_of chunks.result.0.now c.loop-word.word-index [] (omega arith) in
    let word = c.word_ones-n-in-loop-word.ensures in
    let all = words-count (length map / 8) map in
    record { fits = omega (arith, most, all, words, rest, more, c.word_ones-n.ensures, c.loop-word.invariant, word) }

pub returns : goal.returns
returns c =
    let map = c.args.map.now in
    let chunks = c.as_chunks in
    let words = ap (sum_by count_of) chunks.ensures.front in
    let rest = ap count_of chunks.ensures.back in
    let last : c.loop-word.word-index ≡ length chunks.result.0.now = omega arith in
    let whole =
    ap (λ (n : ℕ). sum_by count_of (take n chunks.result.0.now)) last ∙ ap (sum_by count_of) (take-length chunks.result.0.now) in
    omega (arith, words-count (length map / 8) map, words, rest, whole, c.word_ones-n.ensures, c.loop-word.invariant)
