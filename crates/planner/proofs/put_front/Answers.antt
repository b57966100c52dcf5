-- `planner::put_front` meets its contract: its parts are put one behind the other.
-- Assumes nothing.
use mathlib.Core.Path.{ap, subst, ◌∙◌}
use mathlib.Core.List.{List}
use Prim.Native.Nat.{ℕ}
use native.Mathlib.Omega.{arith}
use lib.ListN.{length}
use Rattle.little_endian.specs.Bytes.{stored_at}
use Rattle.script.specs.Script.{head}
use Rattle.planner.specs.Walk.{PutIfRoom}
use Rattle.planner.proofs.Puts.{packet-short, room-then, unlock-core, front-parts}
use Rattle.planner.proofs.put_front.Goals as goal

pub put-requires : goal.put-requires
put-requires c =
    let unlock = ap length (c.store.ensures ∙ unlock-core c.args.password.now (omega arith)) in
    (omega arith, omega arith, omega (arith, c.put-unlocked.ensures.0, packet-short 1 c.store.new.out, unlock))

pub returns : goal.returns
returns c =
    let password = c.args.password.now in
    let out = c.args.out.now in
    let headed = c.store-2 in
    let first = c.put-unlocked in
    let second = c.put in
    let begun : PutIfRoom head 0 out 5 headed.new.out =
    (omega arith, λ room. headed.ensures ∙ ap (λ (l : List ℕ). stored_at 0 l out) c.head.ensures) in
    let unlock = c.store.ensures ∙ unlock-core password (omega arith) in
    let opened = room-then head _ 0 out 5 headed.new.out first.result _ headed.auto.out begun first.ensures in
    let both = room-then _ _ 0 out first.result _ second.result _ (first.auto.out ∙ headed.auto.out) opened second.ensures in
    subst (λ (l : List ℕ). PutIfRoom l 0 out second.result second.new.out) (front-parts password _ unlock) both
