-- `trace_text::write_shown` meets its contract: the header, then what follows it.
-- Assumes nothing.
use mathlib.Core.Path.{refl, ap, ap₂, ◌∙◌}
use mathlib.Core.List.{List}
use Prim.Native.Nat.{ℕ, ◌+◌, ◌≤◌}
use native.Mathlib.Nat.{zero-add}
use native.Mathlib.Omega.{arith}
use borrow.Author.Tests.{lt-ltb, le-ltb}
use lib.ListN.{length, length-append}
use Rattle.little_endian.proofs.Stored.{stored-length}
use Rattle.trace_text.specs.Trace.{body_of, written, left, put_of}
use Rattle.trace_text.proofs.Walk.{HasText, put_rest}
use Rattle.trace_text.proofs.write_shown.Goals as goal

pub returns-then-out-room : goal.returns-then-out-room
unfolding put_of
returns-then-out-room g c = rw (lt-ltb _ _ c.if-out-room.true) refl

pub returns : goal.returns
unfolding put_of
returns g c =
    let header : List ℕ = c.args.header.now in
    let body : List ℕ = body_of g.S.Shown.kind c.args.input.now in
    let old : List ℕ = c.args.out.now in
    let put = c.append_body-length in
    let room : length header + length body ≤ length old = omega (arith, c.requires, length-append header body, c.if-out-room.false) in
    let long = ap length c.store.ensures ∙ stored-length 0 header old (omega (arith, room)) in
    let first : HasText header old (length header) c.store.new.out = record { within = omega (arith, room, long); long = long; put = (omega arith, c.store.ensures) } in
    let all = (put_rest header body old (length header) c.store.new.out put.result put.new.out first put.ensures room).put in
    rw (le-ltb _ _ c.if-out-room.false) (ap₂ (λ (n : ℕ). left (written n)) (all.0 ∙ zero-add _) all.1)
