-- `trace_text::append_body` meets its contract: the tests that led to each answer pick the case.
-- Assumes nothing.
use mathlib.Core.Path.{◌≡◌, sym, ◌∙◌}
use mathlib.Core.Bool.{true, false}
use borrow.Author.Tests.{lt-ltb, le-ltb}
use lib.Dec.{ltb}
use lib.ListN.{length}
use Rattle.script.specs.Script.{headed}
use Rattle.script.proofs.Framing.{headed-long}
use Rattle.trace_text.specs.Trace.{body_of}
use Rattle.trace_text.proofs.append_body.Goals as goal

pub append_end-requires : goal.append_end-requires
unfolding body_of
append_end-requires g c = rw (lt-ltb _ _ c.if-input-gt-LONGEST.true) at c.requires

pub returns-then-input-gt-LONGEST : goal.returns-then-input-gt-LONGEST
unfolding body_of
returns-then-input-gt-LONGEST g c =
    let long : ltb 16384 (length c.args.input.now) ≡ true = lt-ltb _ _ c.if-input-gt-LONGEST.true in
    rw long c.append_end.ensures

pub append_end-requires-then-not-is_headed : goal.append_end-requires-then-not-is_headed
unfolding body_of
append_end-requires-then-not-is_headed g c =
    let bad : headed c.args.input.now ≡ false = sym c.is_headed.ensures ∙ c.if-not-is_headed.true in
    let short : ltb 16384 (length c.args.input.now) ≡ false = le-ltb _ _ c.if-input-gt-LONGEST.false in
    rw (short, bad) at c.requires

pub returns-then-not-is_headed : goal.returns-then-not-is_headed
unfolding body_of
returns-then-not-is_headed g c =
    let bad : headed c.args.input.now ≡ false = sym c.is_headed.ensures ∙ c.if-not-is_headed.true in
    let short : ltb 16384 (length c.args.input.now) ≡ false = le-ltb _ _ c.if-input-gt-LONGEST.false in
    rw (short, bad) c.append_end-then-not-is_headed.ensures

pub append_packets-requires-clause-script : goal.append_packets-requires-clause-script
append_packets-requires-clause-script g c =
    let good : headed c.args.input.now ≡ true = sym c.is_headed.ensures ∙ c.if-not-is_headed.false in
    (headed-long c.args.input.now good, c.if-input-gt-LONGEST.false)

pub append_packets-requires-clause-room : goal.append_packets-requires-clause-room
unfolding body_of
append_packets-requires-clause-room g c =
    let good : headed c.args.input.now ≡ true = sym c.is_headed.ensures ∙ c.if-not-is_headed.false in
    let short : ltb 16384 (length c.args.input.now) ≡ false = le-ltb _ _ c.if-input-gt-LONGEST.false in
    let card = c.new.ensures in
    rw (card.loader, card.region, card.password) (rw (short, good) at c.requires)

pub returns : goal.returns
unfolding body_of
returns g c =
    let good : headed c.args.input.now ≡ true = sym c.is_headed.ensures ∙ c.if-not-is_headed.false in
    let short : ltb 16384 (length c.args.input.now) ≡ false = le-ltb _ _ c.if-input-gt-LONGEST.false in
    let card = c.new.ensures in
    rw (short, good, ← card.loader, ← card.region, ← card.password) c.append_packets.ensures
