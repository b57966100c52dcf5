-- `trace_text::packets::append_packets` meets its contract: what is left to walk gives the rest of the text.
-- Assumes nothing.
use mathlib.Core.Path.{◌≡◌, refl, sym, ap, ◌∙◌}
use mathlib.Core.Bool.{true, false}
use mathlib.Core.List.{List, []}
use Prim.Native.Nat.{ℕ, ◌+◌, ◌-◌, ◌≤◌}
use native.Mathlib.Nat.{add-sub_cancel_left}
use native.Mathlib.Omega.{arith}
use borrow.Author.Rules.{rules}
use lib.ListN.{length, take, drop, length-drop}
use lib.Seq.{length-take-le}
use Rattle.std.specs.Prelude.{None}
use Rattle.script.specs.Script.{front_of}
use Rattle.script.proofs.Framing.{part-tail, front-inside}
use Rattle.trace_lines.specs.declared.Ending.TheVariants.{InMode, Cut}
use Rattle.trace_text.proofs.Walk.{over, none_yet, lines-over, lines_cut, reach-end-room, reach-end, reach-next, reach-room}
use Rattle.trace_text.proofs.packets.append_packets.Goals as goal

pub loop-length-init : goal.loop-length-init
loop-length-init g c = (c.requires.script.0, refl, record { text = []; has = none_yet c.args.out.now; left = refl })

pub append_end-requires : goal.append_end-requires
append_end-requires g c =
    let l = c.loop-length in
    let script : List ℕ = c.args.script.now in
    let on : over l.card.loader.mode (drop l.at script) ≡ false = ap (over l.card.loader.mode) (sym (part-tail script l.at)) ∙ sym c.is_over.ensures ∙ c.loop-length-test.true in
    let none : front_of (drop l.at script) ≡ None = ap front_of (sym (part-tail script l.at)) ∙ sym c.front.ensures ∙ c.in_default.is in
    let lines = lines_cut g.S.Shown.kind c.args.card.password l.card.loader l.card.region l.at (drop l.at script) on none in
    reach-end-room g.S.Shown.kind _ c.args.out.now c.args.card.password script l.at l.card.loader l.card.region l.held l.out l.invariant.2 c.requires.room Cut lines

pub overflow_add-result : goal.overflow_add-result
overflow_add-result g c =
    let l = c.loop-length in
    let script : List ℕ = c.args.script.now in
    let on : over l.card.loader.mode (drop l.at script) ≡ false = ap (over l.card.loader.mode) (sym (part-tail script l.at)) ∙ sym c.is_over.ensures ∙ c.loop-length-test.true in
    let none : front_of (drop l.at script) ≡ None = ap front_of (sym (part-tail script l.at)) ∙ sym c.front.ensures ∙ c.in_default.is in
    let lines = lines_cut g.S.Shown.kind c.args.card.password l.card.loader l.card.region l.at (drop l.at script) on none in
    let within = (reach-end g.S.Shown.kind _ c.args.out.now c.args.card.password script l.at l.card.loader l.card.region l.held l.out l.invariant.2 c.requires.room Cut lines _ _ c.append_end.ensures).within in
    search rules

pub returns-in_default : goal.returns-in_default
returns-in_default g c =
    let l = c.loop-length in
    let script : List ℕ = c.args.script.now in
    let on : over l.card.loader.mode (drop l.at script) ≡ false = ap (over l.card.loader.mode) (sym (part-tail script l.at)) ∙ sym c.is_over.ensures ∙ c.loop-length-test.true in
    let none : front_of (drop l.at script) ≡ None = ap front_of (sym (part-tail script l.at)) ∙ sym c.front.ensures ∙ c.in_default.is in
    let lines = lines_cut g.S.Shown.kind c.args.card.password l.card.loader l.card.region l.at (drop l.at script) on none in
    (reach-end g.S.Shown.kind _ c.args.out.now c.args.card.password script l.at l.card.loader l.card.region l.held l.out l.invariant.2 c.requires.room Cut lines _ _ c.append_end.ensures).put

pub append_end-requires-2 : goal.append_end-requires-2
append_end-requires-2 g c =
    let l = c.loop-length in
    let script : List ℕ = c.args.script.now in
    let ends : over l.card.loader.mode (drop l.at script) ≡ true = ap (over l.card.loader.mode) (sym (part-tail script l.at)) ∙ sym c.is_over.ensures ∙ c.loop-length-test.false in
    let lines = lines-over g.S.Shown.kind c.args.card.password l.card.loader l.card.region l.at (drop l.at script) ends in
    reach-end-room g.S.Shown.kind _ c.args.out.now c.args.card.password script l.at l.card.loader l.card.region l.held l.out l.invariant.2 c.requires.room (InMode l.card.loader.mode) lines

pub overflow_add-result-2 : goal.overflow_add-result-2
overflow_add-result-2 g c =
    let l = c.loop-length in
    let script : List ℕ = c.args.script.now in
    let ends : over l.card.loader.mode (drop l.at script) ≡ true = ap (over l.card.loader.mode) (sym (part-tail script l.at)) ∙ sym c.is_over.ensures ∙ c.loop-length-test.false in
    let lines = lines-over g.S.Shown.kind c.args.card.password l.card.loader l.card.region l.at (drop l.at script) ends in
    let within = (reach-end g.S.Shown.kind _ c.args.out.now c.args.card.password script l.at l.card.loader l.card.region l.held l.out l.invariant.2 c.requires.room (InMode l.card.loader.mode) lines _ _ c.append_end-2.ensures).within in
    search rules

pub returns : goal.returns
returns g c =
    let l = c.loop-length in
    let script : List ℕ = c.args.script.now in
    let ends : over l.card.loader.mode (drop l.at script) ≡ true = ap (over l.card.loader.mode) (sym (part-tail script l.at)) ∙ sym c.is_over.ensures ∙ c.loop-length-test.false in
    let lines = lines-over g.S.Shown.kind c.args.card.password l.card.loader l.card.region l.at (drop l.at script) ends in
    (reach-end g.S.Shown.kind _ c.args.out.now c.args.card.password script l.at l.card.loader l.card.region l.held l.out l.invariant.2 c.requires.room (InMode l.card.loader.mode) lines _ _ c.append_end-2.ensures).put

pub overflow_add-end : goal.overflow_add-end
overflow_add-end g c =
    let l = c.loop-length in
    let k = c.in-Some.length in
    let w = front-inside c.args.script.now l.at k l.invariant.0 (sym c.front.ensures ∙ c.in-Some.is) in
    omega (arith, w.1, c.requires.script.1)

pub slice_bounds-run-end : goal.slice_bounds-run-end
slice_bounds-run-end g c =
    let l = c.loop-length in
    let k = c.in-Some.length in
    let w = front-inside c.args.script.now l.at k l.invariant.0 (sym c.front.ensures ∙ c.in-Some.is) in
    omega (arith, w.1)

pub run-held-requires-clause-packet : goal.run-held-requires-clause-packet
run-held-requires-clause-packet g c =
    let l = c.loop-length in
    let script : List ℕ = c.args.script.now in
    let k = c.in-Some.length in
    let w = front-inside c.args.script.now l.at k l.invariant.0 (sym c.front.ensures ∙ c.in-Some.is) in
    let packet : take (l.at + k - l.at) (drop l.at script) ≡ take k (drop l.at script) = ap (λ (n : ℕ). take n (drop l.at script)) (add-sub_cancel_left l.at k) in
    let inside : k ≤ length (drop l.at script) = rw (length-drop l.at script) (omega (arith, w.1)) in
    let long : length (take (l.at + k - l.at) (drop l.at script)) ≡ k = ap length packet ∙ length-take-le k (drop l.at script) inside in
    (omega (arith, long, w.0), omega (arith, long, w.1, c.requires.script.1))

pub run-held-requires-clause-room : goal.run-held-requires-clause-room
run-held-requires-clause-room g c =
    let l = c.loop-length in
    let script : List ℕ = c.args.script.now in
    let on : over l.card.loader.mode (drop l.at script) ≡ false = ap (over l.card.loader.mode) (sym (part-tail script l.at)) ∙ sym c.is_over.ensures ∙ c.loop-length-test.true in
    let k = c.in-Some.length in
    let w = front-inside c.args.script.now l.at k l.invariant.0 (sym c.front.ensures ∙ c.in-Some.is) in
    rw (l.invariant.1, add-sub_cancel_left l.at k) (reach-room g.S.Shown.kind _ c.args.out.now c.args.card.password script l.at l.card.loader l.card.region l.held l.out l.invariant.2 c.requires.room k w.0 w.1 on)

pub overflow_add-held : goal.overflow_add-held
overflow_add-held g c =
    let l = c.loop-length in
    let script : List ℕ = c.args.script.now in
    let on : over l.card.loader.mode (drop l.at script) ≡ false = ap (over l.card.loader.mode) (sym (part-tail script l.at)) ∙ sym c.is_over.ensures ∙ c.loop-length-test.true in
    let k = c.in-Some.length in
    let w = front-inside c.args.script.now l.at k l.invariant.0 (sym c.front.ensures ∙ c.in-Some.is) in
    let ran = rw (l.invariant.1, add-sub_cancel_left l.at k) at c.run-held.ensures in
    let within = (reach-next g.S.Shown.kind _ c.args.out.now c.args.card.password script l.at l.card.loader l.card.region l.held l.out l.invariant.2 c.requires.room k w.0 w.1 on _ _ ran.loader ran.region _ _ ran.lines).has.within in
    search rules

pub loop-length-smaller : goal.loop-length-smaller
loop-length-smaller g c =
    let l = c.loop-length in
    let k = c.in-Some.length in
    let w = front-inside c.args.script.now l.at k l.invariant.0 (sym c.front.ensures ∙ c.in-Some.is) in
    omega (arith, w.0, w.1)

pub loop-length-preserved : goal.loop-length-preserved
loop-length-preserved g c =
    let l = c.loop-length in
    let script : List ℕ = c.args.script.now in
    let on : over l.card.loader.mode (drop l.at script) ≡ false = ap (over l.card.loader.mode) (sym (part-tail script l.at)) ∙ sym c.is_over.ensures ∙ c.loop-length-test.true in
    let k = c.in-Some.length in
    let w = front-inside c.args.script.now l.at k l.invariant.0 (sym c.front.ensures ∙ c.in-Some.is) in
    let ran = rw (l.invariant.1, add-sub_cancel_left l.at k) at c.run-held.ensures in
    (w.1, c.run-held.ensures.password ∙ l.invariant.1, reach-next g.S.Shown.kind _ c.args.out.now c.args.card.password script l.at l.card.loader l.card.region l.held l.out l.invariant.2 c.requires.room k w.0 w.1 on _ _ ran.loader ran.region _ _ ran.lines)
