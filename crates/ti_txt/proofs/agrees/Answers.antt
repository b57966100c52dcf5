-- `ti_txt::agrees` meets its contract: what the walk has found agrees, or the buffer cannot be the picture.
-- Assumes nothing.
use Prim.Native.Nat.{ℕ, ◌/◌, ◌<◌}
use mathlib.Core.Path.{◌≡◌, refl, sym, ap, ◌∙◌}
use native.Mathlib.Omega.{arith}
use mathlib.Core.Bool.{Bool, ◌&&◌, false≢true}
use mathlib.Core.List.{List}
use mathlib.Core.Logic.{⊎_elim}
use lib.ListN.{length, get_or, length-replicate}
use Rattle.std.proofs.Common.{Result, Some, Ok, Err}
use Rattle.firmware_text.specs.Machine.{image_of}
use Rattle.firmware_text.specs.Image.{at, fault_of}
use Rattle.text_cursor.specs.Left.{ahead, Gives}
use Rattle.text_cursor.specs.declared.Reading.{Reading}
use Rattle.text_cursor.specs.declared.Token.{Token}
use Rattle.text_cursor.proofs.Tokens.{gives-so}
use Rattle.address_set.proofs.Maps.{marked_more, unmarked}
use Rattle.region.specs.Same.{same}
use Rattle.text_image.specs.Rules.{outside_of}
use Rattle.text_image.proofs.Parts.{segment-outside, byte-outside, byte_inside, byte-repeated, end-outside, end-repeated}
use Rattle.text_image.proofs.Sounds.{sound-parts, parts-sound, not_none}
use Rattle.text_image.specs.Picture.{picture_of}
use Rattle.ti_txt.proofs.Compare.{agreed-start, agreed-segment, agreed-byte, agreed-end, picture-at, cannot-be, beyond_or_inside}
use Rattle.ti_txt.proofs.agrees.Goals as goal

pub loop-token-init : goal.loop-token-init
loop-token-init c =
    let buffer = c.args.buffer.now in
    let e = ap ahead c.into_iter-token-iterator.ensures.into_iter_gives ∙ c.of-token-items.ensures in (
      length-replicate {A = ℕ} 32768 0,
      ap fault_of e,
      ap (outside_of (length buffer)) e,
      agreed-start buffer _ _ _ e (λ a. unmarked 32768 a),
    )

pub loop-token-preserved-in-Segment : goal.loop-token-preserved-in-Segment
loop-token-preserved-in-Segment c =
    let e = gives-so c.loop-token.token-iterator c.next.new.self c.in-Some.ensures.steps (c.in-Ok.is ∙ ap Ok c.in-Segment.is) in
    let inv = c.loop-token.invariant in
    (inv.0, ap fault_of e ∙ inv.1, segment-outside e _ ∙ inv.2, agreed-segment _ _ _ _ inv.3 e)

pub returns-then-not-holds : goal.returns-then-not-holds
returns-then-not-holds c =
    let buffer = c.args.buffer.now in
    let image = image_of c.args.text.now in
    let e = gives-so c.loop-token.token-iterator c.next.new.self c.in-Some.ensures.steps (c.in-Ok.is ∙ ap Ok c.in-Byte.is) in
    let a = c.in-Byte.address in
    let inv = c.loop-token.invariant in
    cannot-be buffer image
    (λ s (same : buffer ≡ picture_of (length buffer) image). ⊎_elim
    (λ h. not_none _ (outside_of (length buffer) image) (byte-outside e _ h ∙ inv.2) (sound-parts _ image s).1)
    (λ h. false≢true (c.if-not-holds.ensures.1
    (h, ap (λ (l : List ℕ). get_or l a 0) same ∙ picture-at _ _ _ _ inv.3 _ a _ _ e h (sound-parts _ image s).2)))
    (beyond_or_inside a (length buffer)))

pub slice_bounds-mark-end : goal.slice_bounds-mark-end
slice_bounds-mark-end c = sym c.loop-token.invariant.0

pub returns-then-mark : goal.returns-then-mark
returns-then-mark c =
    let buffer = c.args.buffer.now in
    let image = image_of c.args.text.now in
    let e = gives-so c.loop-token.token-iterator c.next.new.self c.in-Some.ensures.steps (c.in-Ok.is ∙ ap Ok c.in-Byte.is) in
    let inv = c.loop-token.invariant in
    let again = sym (inv.3.map_is _) ∙ sym c.mark.ensures.0 ∙ c.if-mark.true in
    cannot-be buffer image (λ s same. not_none _ _ (byte-repeated e inv.3.seen again ∙ inv.3.repeats) (sound-parts _ image s).2)

pub loop-token-preserved-else-mark : goal.loop-token-preserved-else-mark
loop-token-preserved-else-mark c =
    let buffer = c.args.buffer.now in
    let e = gives-so c.loop-token.token-iterator c.next.new.self c.in-Some.ensures.steps (c.in-Ok.is ∙ ap Ok c.in-Byte.is) in
    let a = c.in-Byte.address in
    let v = c.in-Byte.value in
    let inv = c.loop-token.invariant in
    let m = c.mark in
    let held = c.if-not-holds.ensures.0 refl in
    let inside : a < length buffer = held.0 in
    let fits : a / 8 < length c.loop-token.map = omega (arith, inside, c.requires, inv.0) in
    let first = sym (inv.3.map_is a) ∙ sym m.ensures.0 ∙ c.if-mark.false in (
      m.auto.map ∙ inv.0,
      ap fault_of e ∙ inv.1,
      byte_inside e _ inside ∙ inv.2,
      agreed-byte _ _ _ _ inv.3 _ a v _ e inside _ first (marked_more _ _ a fits m.ensures.1) held.1,
    )

faulty : (s t : Reading) (r : Result Token ℕ) → Gives s (Some r) t → ((x : Token) → r ≡ Ok x → ⊥) → (p : ℕ) × at p ≡ fault_of (ahead s)
faulty s t (Err p) g f = (p, ap fault_of g.0)
faulty s t (Ok x) g f = absurd (f x refl)

pub returns-in_default : goal.returns-in_default
returns-in_default c =
    let buffer = c.args.buffer.now in
    let image = image_of c.args.text.now in
    let e = faulty c.loop-token.token-iterator c.next.new.self _ c.in-Some.ensures.steps c.in_default.not-Ok in
    cannot-be buffer image (λ s same. not_none _ _ (e.1 ∙ c.loop-token.invariant.1) (sound-parts _ image s).0)

pub slice_bounds-blank_elsewhere-end : goal.slice_bounds-blank_elsewhere-end
slice_bounds-blank_elsewhere-end c = sym c.loop-token.invariant.0

pub returns : goal.returns
returns c =
    let buffer = c.args.buffer.now in
    let image = image_of c.args.text.now in
    let e = c.in-None.ensures.steps in
    let inv = c.loop-token.invariant in
    let whole = parts-sound (length buffer) image (ap fault_of e ∙ inv.1) (end-outside e _ ∙ inv.2) (end-repeated e _ ∙ inv.3.repeats) in
    agreed-end _ _ _ _ inv.3 e _ c.blank_elsewhere.ensures
    ∙ ap (λ (t : Bool). t && same buffer (picture_of (length buffer) image)) (sym whole)
