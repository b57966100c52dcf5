-- `text_cursor::Cursor::next` meets its contract: by what stands ahead.
-- Assumes nothing.
use Prim.Native.Nat.{ℕ, ◌+◌, ◌^◌}
use mathlib.Core.Path.{◌≡◌, sym, ap, subst, ◌∙◌}
use borrow.Author.Tests.{leb-true}
use Rattle.firmware_text.specs.Image.{broken}
use Rattle.std.proofs.Common.{Ok}
use Rattle.text_cursor.specs.declared.Ahead.{Ahead}
use Rattle.text_cursor.specs.Walk.{from, stop_state}
use Rattle.text_cursor.specs.Parts.{ahead_image, Reached}
use Rattle.text_cursor.proofs.Walks.{rest-near, rest-far, tells-on, tells-fault, tells-err}
use Rattle.text_cursor.proofs.Cursor.next.Goals as goal

pub returns-then-not-is_near : goal.returns-then-not-is_near
returns-then-not-is_near c =
    let self = c.args.self in
    tells-fault _ self.at _ _ (rest-far _ self.at self.pairs self.address (sym c.if-not-is_near.ensures))

pub returns-in_err-place : goal.returns-in_err-place
returns-in_err-place c =
    let text = c.args.text.now in
    let self = c.args.self in
    let close = leb-true self.address (2 ^ 32 + self.at) (sym c.if-not-is_near.ensures) in
    let found = c.in_err-place.ensures.0 self.address in
    tells-err text self.at _ _ c.from_residual.ensures.1
    (λ p e. ap broken e ∙ found ∙ sym (rest-near text self.at self.pairs self.address close))

pub returns-in-Pair : goal.returns-in-Pair
returns-in-Pair c =
    let text = c.args.text.now in
    let self = c.args.self in
    let ahead =
    subst (λ (x : Ahead). ((a : ℕ) → ahead_image text self.pairs a (Ok x) ≡ from (stop_state self.pairs a) self.at text) × Reached text self.at (Ok x))
    c.in-Pair.is c.in_ok-place.ensures in
    let reached = ahead.1 in
    let close = leb-true self.address (2 ^ 32 + self.at) (sym c.if-not-is_near.ensures) in
    let found = ahead.0 self.address in
    tells-on text self.at _ _ _ _ reached.0 (found ∙ sym (rest-near text self.at self.pairs self.address close)) c.another.ensures

pub returns-in-Line : goal.returns-in-Line
returns-in-Line c =
    let text = c.args.text.now in
    let self = c.args.self in
    let ahead =
    subst (λ (x : Ahead). ((a : ℕ) → ahead_image text self.pairs a (Ok x) ≡ from (stop_state self.pairs a) self.at text) × Reached text self.at (Ok x))
    c.in-Line.is c.in_ok-place.ensures in
    let reached = ahead.1 in
    let close = leb-true self.address (2 ^ 32 + self.at) (sym c.if-not-is_near.ensures) in
    let found = ahead.0 self.address in
    tells-on text self.at _ _ _ _ reached (found ∙ sym (rest-near text self.at self.pairs self.address close)) c.line_start.ensures
