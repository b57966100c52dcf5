-- `count` meets its contract: each packet is listed once, and none else.
-- Assumes nothing.
use mathlib.Core.Path.{sym, ap, ◌∙◌}
use mathlib.Core.Logic.{inl}
use native.Mathlib.Omega.{arith}
use lib.ListN.{length, length-map}
use Rattle.tool_words.specs.Packets.{packets_of, listed}
use Rattle.tool_words.specs.Shown.{listed_as, left}
use Rattle.tool_words.proofs.Listing.{length-listed, few-packets, seen-all}
use Rattle.tool_words.proofs.packets.count.Goals as goal

pub count-requires-clause-fits : goal.count-requires-clause-fits
count-requires-clause-fits c =
    let script = c.args.script.now in
    let long = ap length c.of.ensures ∙ length-listed 0 5 (packets_of script) in
    inl (omega (arith, long, few-packets script))

pub returns : goal.returns
returns c =
    let packets = packets_of c.args.script.now in
    let ran = c.count.ensures.ran in
    let seen = seen-all listed_as left c.of.result (listed 0 5 packets) c.of.ensures ran.0 ran.1 in
    ran.2 ∙ sym (length-map ran.0 listed_as) ∙ ap length seen ∙ length-listed 0 5 packets
