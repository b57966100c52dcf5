-- `text_image::place` meets its contract: how far it is, token by token.
-- Assumes nothing.
use mathlib.Core.Path.{refl, ap, ◌∙◌}
use mathlib.Core.List.{List}
use Prim.Native.Nat.{ℕ}
use mathlib.Core.Path.{◌≡◌}
use Rattle.std.proofs.Common.{Result, Some, Ok, Err}
use Rattle.text_cursor.specs.Left.{Gives}
use Rattle.text_cursor.specs.declared.Token.{Token}
use Rattle.firmware_text.specs.Image.{Image}
use Rattle.text_cursor.specs.Left.{ahead}
use Rattle.text_cursor.specs.declared.Reading.{Reading}
use Rattle.text_cursor.proofs.Tokens.{gives-so}
use Rattle.text_image.specs.Picture.{placed}
use Rattle.text_image.proofs.Pictures.{segment-placed, byte-placed, end-placed, broken-placed}
use Rattle.text_image.proofs.place.Goals as goal

pub loop-token-init : goal.loop-token-init
loop-token-init c =
    (refl, ap (λ (i : Image). placed i c.args.region.now) (ap ahead c.into_iter-token-iterator.ensures.into_iter_gives ∙ c.of-token-items.ensures))

pub loop-token-preserved-in-Segment : goal.loop-token-preserved-in-Segment
loop-token-preserved-in-Segment c =
    let l = c.loop-token in
    let e = gives-so l.token-iterator c.next.new.self c.in-Some.ensures.steps (c.in-Ok.is ∙ ap Ok c.in-Segment.is) in
    (l.invariant.0, segment-placed e l.region ∙ l.invariant.1)

pub loop-token-preserved-in-Byte : goal.loop-token-preserved-in-Byte
loop-token-preserved-in-Byte c =
    let l = c.loop-token in
    let e = gives-so l.token-iterator c.next.new.self c.in-Some.ensures.steps (c.in-Ok.is ∙ ap Ok c.in-Byte.is) in (
      c.store.auto.region ∙ l.invariant.0,
      ap (placed (ahead c.next.new.self)) c.store.ensures ∙ byte-placed e l.region ∙ l.invariant.1,
    )

fault-placed : (s t : Reading) (r : Result Token ℕ) → Gives s (Some r) t → ((x : Token) → r ≡ Ok x → ⊥) → (l : List ℕ) → l ≡ placed (ahead s) l
fault-placed s t (Err p) g f l = broken-placed g.0 l
fault-placed s t (Ok x) g f l = absurd (f x refl)

pub returns-in_default : goal.returns-in_default
returns-in_default c =
    let l = c.loop-token in
    fault-placed l.token-iterator c.next.new.self _ c.in-Some.ensures.steps c.in_default.not-Ok l.region ∙ l.invariant.1

pub returns : goal.returns
returns c =
    let l = c.loop-token in
    end-placed c.in-None.ensures.steps l.region ∙ l.invariant.1
