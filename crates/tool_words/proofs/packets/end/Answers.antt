-- `end` meets its contract: the last packet that is listed ends where all of them do, joined.
-- Assumes nothing.
use mathlib.Core.Path.{◌≡◌, sym, subst}
use mathlib.Core.List.{[]}
use Prim.Native.Nat.{◌+◌}
use borrow.Author.Rules.{rules}
use Rattle.std.specs.Prelude.{MatchOption}
use Rattle.little_endian.specs.Bytes.{joined}
use lib.ListN.{length}
use Rattle.tool_words.specs.Packets.{packets_of, listed}
use Rattle.tool_words.specs.Shown.{listed_as, left}
use Rattle.tool_words.proofs.Listing.{end-seen, short-packets, seen-all}
use Rattle.tool_words.proofs.packets.end.Goals as goal

pub returns : goal.returns
returns c =
    let packets = packets_of c.args.script.now in
    let ran = c.last.ensures.ran in
    let seen = seen-all listed_as left c.of.result (listed 0 5 packets) c.of.ensures ran.0 ran.1 in
    let ends = end-seen listed_as ran.0 0 5 packets seen in
    let last : MatchOption c.last.result (packets ≡ []) (λ p. p.at + length p.bytes.now ≡ 5 + length (joined packets))
    = subst (λ o. MatchOption o (packets ≡ []) (λ p. p.at + length p.bytes.now ≡ 5 + length (joined packets))) (sym ran.2) ends in
    let short = short-packets c.args.script.now in
    search rules
