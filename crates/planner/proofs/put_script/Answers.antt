-- `planner::put_script` meets its contract: its parts are put one behind the other.
-- Assumes nothing.
use mathlib.Core.Path.{ap, subst, ◌∙◌}
use mathlib.Core.List.{List, ◌++◌}
use Prim.Native.Nat.{ℕ}
use native.Mathlib.Omega.{arith}
use lib.ListN.{length}
use Rattle.firmware_text.specs.Machine.{image_of}
use Rattle.firmware_text.specs.Segments.{segments_of}
use Rattle.script.specs.Page.{addressed, writes_of, packets_of}
use Rattle.script.proofs.Pages.{writes_short}
use Rattle.planner.specs.Walk.{PutIfRoom, packet_from, front}
use Rattle.planner.proofs.Puts.{packet-some, room-then, front_length, page-parts}
use Rattle.planner.proofs.put_script.Goals as goal

pub put_writes-written-requires : goal.put_writes-written-requires
put_writes-written-requires c =
    (omega arith, omega (arith, c.put_front-erased.ensures.0, front_length c.args.password.now (omega arith)))

pub put-requires : goal.put-requires
put-requires c =
    let text = c.args.text.now in (
      omega (arith, ap length c.opening.ensures),
      omega arith,
      omega (
        arith,
        c.requires,
        c.put_front-erased.ensures.0,
        front_length c.args.password.now (omega arith),
        c.put_writes-written.ensures.0,
        writes_short text,
      ),
    )

pub returns : goal.returns
returns c =
    let password = c.args.password.now in
    let image = image_of c.args.text.now in
    let out = c.args.out.now in
    let first = c.put_front-erased in
    let second = c.put_writes-written in
    let third = c.put in
    let last = addressed 0x27 c.args.entry in
    let started = ap (packet_from 1) (c.opening.ensures ∙ ap (addressed 0x27) c.from.ensures) ∙ packet-some 1 last (omega arith) in
    let sized = first.auto.out in
    let written = room-then _ _ 0 out first.result _ second.result _ sized first.ensures second.ensures in
    let all = room-then _ _ 0 out second.result _ third.result _ (second.auto.out ∙ sized) written third.ensures in
    subst (λ (l : List ℕ). PutIfRoom l 0 out third.result third.new.out)
    (ap ((front password ++ packets_of (writes_of (segments_of image))) ++◌) started ∙ page-parts image password c.args.entry) all
