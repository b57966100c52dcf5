-- `trace_text::shown::append_cuts` meets its contract: the places passed have their lines.
-- Assumes nothing.
use mathlib.Core.Path.{◌≡◌, ap, ◌∙◌}
use Prim.Native.Nat.{suc, ◌+◌}
use native.Mathlib.Omega.{arith}
use Rattle.trace_text.specs.Trace.{cut_lines}
use Rattle.trace_lines.specs.Lines.{cut_line, line_text}
use Rattle.trace_text.proofs.Walk.{none_yet, cut-room, cut-next, length-rest}
use borrow.Author.Rules.{rules}
use Rattle.trace_text.proofs.shown.append_cuts.Goals as goal

pub loop-place-init : goal.loop-place-init
unfolding cut_lines
loop-place-init c = none_yet c.args.out.now

pub append-held-requires : goal.append-held-requires
append-held-requires c =
    let l = c.loop-place in
    let a = c.args in
    let line = c.cut_line-line in
    let is = line.ensures.text ∙ ap (cut_line a.at l.place a.card.now.loader) c.cut_region-region.ensures in
    let room = cut-room a.at a.card.now.loader a.card.now.region a.packet.now a.last l.place a.out.now l.held l.out l.invariant l.auto.place-end c.requires.1 (line_text line.result) is in
    omega (arith, room, length-rest l.held l.out)

pub overflow_add-held : goal.overflow_add-held
overflow_add-held c =
    let l = c.loop-place in
    let a = c.args in
    let line = c.cut_line-line in
    let is = line.ensures.text ∙ ap (cut_line a.at l.place a.card.now.loader) c.cut_region-region.ensures in
    let room = cut-room a.at a.card.now.loader a.card.now.region a.packet.now a.last l.place a.out.now l.held l.out l.invariant l.auto.place-end c.requires.1 (line_text line.result) is in
    search rules

pub loop-place-preserved : goal.loop-place-preserved
loop-place-preserved c =
    let l = c.loop-place in
    let a = c.args in
    let line = c.cut_line-line in
    let put = c.append-held in
    let is = line.ensures.text ∙ ap (cut_line a.at l.place a.card.now.loader) c.cut_region-region.ensures in
    cut-next a.at a.card.now.loader a.card.now.region a.packet.now a.last l.place a.out.now l.held l.out l.invariant l.auto.place-end c.requires.1
    (line_text line.result) is put.result put.new.out put.ensures

pub returns-2 : goal.returns-2
returns-2 c =
    let l = c.loop-place in
    let a = c.args in
    let line = c.cut_line-line in
    let put = c.append-held in
    let is = line.ensures.text ∙ ap (cut_line a.at l.place a.card.now.loader) c.cut_region-region.ensures in
    let last : l.place + 1 ≡ suc a.last = omega (arith, l.auto.place-end) in
    let all = cut-next a.at a.card.now.loader a.card.now.region a.packet.now a.last l.place a.out.now l.held l.out l.invariant l.auto.place-end c.requires.1
    (line_text line.result) is put.result put.new.out put.ensures in
    rw (← last) all.put
