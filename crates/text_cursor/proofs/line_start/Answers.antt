-- `text_cursor::line_start` meets its contract: by its first byte.
-- Assumes nothing.
use Prim.Native.Nat.{ℕ, ◌+◌}
use mathlib.Core.Path.{refl, sym, ap, ◌∙◌}
use mathlib.Core.Bool.{false≢true}
use native.Mathlib.Omega.{arith}
use borrow.Author.Tests.{le-ltb}
use lib.ListN.{get_or}
use Rattle.firmware_text.specs.Digit.{digit}
use Rattle.firmware_text.specs.Machine.{State, start, line, sign, quit, half, begins, on, stuck}
use Rattle.firmware_text.proofs.Steps.{step-hex, begins-sign, begins-quit, begins-none}
use Rattle.text_cursor.specs.Walk.{from, line_state}
use Rattle.text_cursor.proofs.Walks.{from_step, from_no_digit, line-none, line_other, state-below, state-first, tells-on, tells-fault, is-hex}
use Rattle.text_cursor.proofs.line_start.Goals as goal

pub returns-then-pairs-ge-START : goal.returns-then-pairs-ge-START
returns-then-pairs-ge-START c =
    let args = c.args in
    let text = args.text.now in
    let at = args.at in
    let d = c.in-Ok.ensures in
    let hex = is-hex (get_or text at 0) _ d.1 d.2 in
    let goes =
    ap (λ (s : State). from s at text) (state-first args.pairs args.address c.if-pairs-ge-START.true)
    ∙ from_step text at start stuck d.0 (step-hex start at _ hex) in
    tells-fault text at at _ (sym goes)

pub returns-in-Ok : goal.returns-in-Ok
returns-in-Ok c =
    let args = c.args in
    let text = args.text.now in
    let at = args.at in
    let a = args.address in
    let d = c.in-Ok.ensures in
    let hex = is-hex (get_or text at 0) _ d.1 d.2 in
    let goes =
    ap (λ (s : State). from s at text) (state-below args.pairs a c.if-pairs-ge-START.false)
    ∙ from_step text at (line a) (on (half at 1 a (digit (get_or text at 0)))) d.0 (step-hex (line a) at _ hex) in
    tells-on text at at _ _ _ (omega arith) (ap (λ (x : ℕ). from (half at 1 a x) (at + 1) text) d.1 ∙ sym goes) c.pair.ensures

pub returns-then-stands : goal.returns-then-stands
returns-then-stands c =
    let args = c.args in
    let text = args.text.now in
    let at = args.at in
    let here = c.if-stands.ensures.0 refl in
    let other = line_other args.pairs args.address at _ (le-ltb _ _ (c.in_default.ensures.1 here.0)) in
    let goes =
    from_step text at (line_state args.pairs args.address) (on sign) here.0 (other ∙ ap begins here.1 ∙ begins-sign) in
    tells-on text at (at + 1) _ _ _ (omega arith) (sym goes) c.opening.ensures

pub returns-then-stands-2 : goal.returns-then-stands-2
returns-then-stands-2 c =
    let args = c.args in
    let text = args.text.now in
    let at = args.at in
    let here = c.if-stands-2.ensures.0 refl in
    let other = line_other args.pairs args.address at _ (le-ltb _ _ (c.in_default.ensures.1 here.0)) in
    let goes =
    from_step text at (line_state args.pairs args.address) (on quit) here.0 (other ∙ ap begins here.1 ∙ begins-quit) in
    tells-on text at (at + 1) _ _ _ (omega arith) (sym goes) c.last.ensures

pub returns : goal.returns
returns c =
    let args = c.args in
    let at = args.at in
    let goes =
    from_no_digit args.text.now at (line_state args.pairs args.address) (line-none args.pairs args.address at)
    (λ inside. line_other args.pairs args.address at _ (le-ltb _ _ (c.in_default.ensures.1 inside))
    ∙ begins-none _ (λ e. false≢true (c.if-stands.ensures.1 (inside, e))) (λ e. false≢true (c.if-stands-2.ensures.1 (inside, e)))) in
    tells-fault args.text.now at at _ (sym goes)
