-- `text_image::judge_image` meets its contract: how far it is, token by token.
-- Assumes nothing.
use Prim.Native.Nat.{ℕ}
use mathlib.Core.Path.{sym, ap, ◌∙◌}
use lib.ListN.{length-replicate}
use Rattle.std.proofs.Common.{Ok}
use Rattle.firmware_text.specs.Image.{fault_of}
use Rattle.firmware_text.specs.Machine.{image_of}
use Rattle.text_cursor.specs.Left.{ahead}
use Rattle.text_cursor.proofs.Tokens.{gives-so}
use Rattle.address_set.proofs.Maps.{unmarked}
use Rattle.text_image.proofs.Walks.{noted-start, noted-segment, noted-outside, noted-again, noted-new, noted-end, noted-broken}
use Rattle.text_image.proofs.judge_image.Goals as goal

pub loop-token-init : goal.loop-token-init
loop-token-init c =
    let args = c.args in
    let e = ap ahead c.into_iter-token-iterator.ensures.into_iter_gives ∙ c.of-token-items.ensures in
    (length-replicate {A = ℕ} 32768 0, ap fault_of e, noted-start args.size (image_of args.text.now) _ _ e (λ a. unmarked 32768 a))

pub loop-token-preserved-in-Segment : goal.loop-token-preserved-in-Segment
loop-token-preserved-in-Segment c =
    let l = c.loop-token in
    let e = gives-so l.token-iterator c.next.new.self c.in-Some.ensures.steps (c.in-Ok.is ∙ ap Ok c.in-Segment.is) in
    (l.invariant.0, ap fault_of e ∙ l.invariant.1, noted-segment c.args.size _ l.map _ e l.outside l.repeated l.invariant.2)

pub loop-token-preserved-then-size-address : goal.loop-token-preserved-then-size-address
loop-token-preserved-then-size-address c =
    let l = c.loop-token in
    let e = gives-so l.token-iterator c.next.new.self c.in-Some.ensures.steps (c.in-Ok.is ∙ ap Ok c.in-Byte.is) in
    let more = noted-outside c.args.size _ l.map _ _ _ _ _ e c.if-size-address.true l.outside l.repeated l.invariant.2 in (
      l.invariant.0,
      ap fault_of e ∙ l.invariant.1,
      rw c.or-outside.ensures more,
    )

pub loop-token-preserved-then-mark : goal.loop-token-preserved-then-mark
loop-token-preserved-then-mark c =
    let l = c.loop-token in
    let m = c.mark in
    let e = gives-so l.token-iterator c.next.new.self c.in-Some.ensures.steps (c.in-Ok.is ∙ ap Ok c.in-Byte.is) in
    let more =
    noted-again c.args.size _ l.map _ _ _ _ _ m.new.map e c.if-size-address.false c.requires l.invariant.0 m.ensures.1
    (sym m.ensures.0 ∙ c.if-mark.true) l.outside l.repeated l.invariant.2 in (
      m.auto.map ∙ l.invariant.0,
      ap fault_of e ∙ l.invariant.1,
      rw c.or-repeated.ensures more,
    )

pub loop-token-preserved-else-mark : goal.loop-token-preserved-else-mark
loop-token-preserved-else-mark c =
    let l = c.loop-token in
    let m = c.mark in
    let e = gives-so l.token-iterator c.next.new.self c.in-Some.ensures.steps (c.in-Ok.is ∙ ap Ok c.in-Byte.is) in (
      m.auto.map ∙ l.invariant.0,
      ap fault_of e ∙ l.invariant.1,
      noted-new c.args.size _ l.map _ _ _ _ _ m.new.map e c.if-size-address.false c.requires l.invariant.0 m.ensures.1
          (sym m.ensures.0 ∙ c.if-mark.false) l.outside l.repeated l.invariant.2,
    )

pub returns : goal.returns
returns c =
    let l = c.loop-token in
    c.conclude.ensures ∙ noted-end c.args.size _ l.map _ c.in-None.ensures.steps l.invariant.1 l.outside l.repeated l.invariant.2

pub returns-in-Err : goal.returns-in-Err
returns-in-Err c =
    let l = c.loop-token in
    let e = gives-so l.token-iterator c.next.new.self c.in-Some.ensures.steps c.in-Err.is in
    noted-broken c.args.size _ _ _ e.0 l.invariant.1
