-- `planner::put_writes` meets its contract: what is left to walk, from the block that is begun on, gives the rest of the packets.
-- Assumes nothing.
use mathlib.Core.Path.{◌≡◌, refl, sym, ap, subst, ◌∙◌}
use mathlib.Core.List.{List, []}
use Prim.Native.Nat.{ℕ}
use native.Mathlib.Omega.{arith}
use Rattle.std.proofs.Common.{Result, Some, Ok, Err}
use Rattle.firmware_text.specs.Image.{Image}
use Rattle.text_cursor.specs.Left.{ahead, Gives}
use Rattle.text_cursor.specs.declared.Reading.{Reading}
use Rattle.text_cursor.specs.declared.Token.{Token}
use Rattle.firmware_text.specs.Segments.{bytes_ahead, segments_of}
use Rattle.text_cursor.proofs.Tokens.{gives-so}
use Rattle.planner.specs.Walk.{PutIfRoom, packet_from}
use Rattle.planner.proofs.Walks.{Reaches, reach-start, reach-allows, reach-segment, reach-byte, reach-end}
use Rattle.planner.proofs.put_writes.Invariants.{whole}
use Rattle.planner.proofs.put_writes.Goals as goal

pub loop-token-init : goal.loop-token-init
loop-token-init c =
    let args = c.args in
    let e = ap ahead c.into_iter-token-iterator.ensures.into_iter_gives ∙ c.of-token-items.ensures in
    let first = reach-start args.text.now args.n args.out.now _ c.new-block.ensures in
    subst (λ (i : Image). Reaches (whole args.text.now) args.n args.out.now i c.new-block.result args.n args.out.now) (sym e) first

pub put-held-requires : goal.put-held-requires
put-held-requires c =
    let l = c.loop-token in
    let may = reach-allows c.args.text.now c.args.n c.args.out.now _ l.block l.held l.out l.invariant c.requires.0 c.requires.1 in
    (c.core-in-Segment.ensures.few, omega arith, may)

pub loop-token-preserved-in-Segment : goal.loop-token-preserved-in-Segment
loop-token-preserved-in-Segment c =
    let args = c.args in
    let l = c.loop-token in
    let p = c.put-held in
    let put : PutIfRoom (packet_from 6 l.block) l.held l.out p.result p.new.out =
    subst (λ (x : List ℕ). PutIfRoom (packet_from 6 x) l.held l.out p.result p.new.out) c.core-in-Segment.ensures.same p.ensures in
    let e = gives-so c.loop-token.token-iterator c.next.new.self c.in-Some.ensures.steps (c.in-Ok.is ∙ ap Ok c.in-Segment.is) in
    let r = subst (λ (i : Image). Reaches (whole args.text.now) args.n args.out.now i l.block l.held l.out) (sym e) l.invariant in
    reach-segment (whole args.text.now) args.n args.out.now _ l.held l.out p.result _ p.auto.out _ _ _ r put c.begin.ensures

pub put-held-requires-in-Byte : goal.put-held-requires-in-Byte
put-held-requires-in-Byte c =
    let l = c.loop-token in
    let may = reach-allows c.args.text.now c.args.n c.args.out.now _ l.block l.held l.out l.invariant c.requires.0 c.requires.1 in
    (c.core-in-Byte.ensures.few, omega arith, may)

pub loop-token-preserved-in-Byte : goal.loop-token-preserved-in-Byte
loop-token-preserved-in-Byte c =
    let args = c.args in
    let l = c.loop-token in
    let p = c.put-held-in-Byte in
    let put : PutIfRoom (packet_from 261 l.block) l.held l.out p.result p.new.out =
    subst (λ (x : List ℕ). PutIfRoom (packet_from 261 x) l.held l.out p.result p.new.out) c.core-in-Byte.ensures.same p.ensures in
    let e = gives-so c.loop-token.token-iterator c.next.new.self c.in-Some.ensures.steps (c.in-Ok.is ∙ ap Ok c.in-Byte.is) in
    let r = subst (λ (i : Image). Reaches (whole args.text.now) args.n args.out.now i l.block l.held l.out) (sym e) l.invariant in
    reach-byte (whole args.text.now) args.n args.out.now _ l.held l.out p.result _ p.auto.out _ _ _ _ _ r put c.push.ensures

empty : (s t : Reading) (r : Result Token ℕ) → Gives s (Some r) t → ((x : Token) → r ≡ Ok x → ⊥)
    → (bytes_ahead (ahead s) ≡ []) × (segments_of (ahead s) ≡ [])
empty s t (Err p) g f = (ap bytes_ahead (sym g.0), ap segments_of (sym g.0))
empty s t (Ok x) g f = absurd (f x refl)

pub put-requires : goal.put-requires
put-requires c =
    let l = c.loop-token in
    let may = reach-allows c.args.text.now c.args.n c.args.out.now _ l.block l.held l.out l.invariant c.requires.0 c.requires.1 in
    (c.core.ensures.few, omega arith, may)

pub shape_of-out-in_default : goal.shape_of-out-in_default
shape_of-out-in_default c = c.put.auto.out ∙ c.loop-token.invariant.sized

pub returns-in_default : goal.returns-in_default
returns-in_default c =
    let args = c.args in
    let l = c.loop-token in
    let p = c.put in
    let none = empty l.token-iterator c.next.new.self _ c.in-Some.ensures.steps c.in_default.not-Ok in
    let put : PutIfRoom (packet_from 6 l.block) l.held l.out p.result p.new.out =
    subst (λ (x : List ℕ). PutIfRoom (packet_from 6 x) l.held l.out p.result p.new.out) c.core.ensures.same p.ensures in
    reach-end (whole args.text.now) args.n args.out.now _ l.held l.out p.result _ p.auto.out _ none.0 none.1 l.invariant put

pub put-requires-2 : goal.put-requires-2
put-requires-2 c =
    let l = c.loop-token in
    let may = reach-allows c.args.text.now c.args.n c.args.out.now _ l.block l.held l.out l.invariant c.requires.0 c.requires.1 in
    (c.core-2.ensures.few, omega arith, may)

pub shape_of-out : goal.shape_of-out
shape_of-out c = c.put-2.auto.out ∙ c.loop-token.invariant.sized

pub returns : goal.returns
returns c =
    let args = c.args in
    let l = c.loop-token in
    let p = c.put-2 in
    let e = c.in-None.ensures.steps in
    let put : PutIfRoom (packet_from 6 l.block) l.held l.out p.result p.new.out =
    subst (λ (x : List ℕ). PutIfRoom (packet_from 6 x) l.held l.out p.result p.new.out) c.core-2.ensures.same p.ensures in
    reach-end (whole args.text.now) args.n args.out.now _ l.held l.out p.result _ p.auto.out _ (ap bytes_ahead (sym e)) (ap segments_of (sym e))
    l.invariant put
