-- `known_bits::mark_range` meets its contract: addresses one by one, those of whole bytes, and again one by one.
-- Assumes nothing.
use Rattle.std.proofs.Common.{◌≡◌, ℕ, ◌+◌, ◌-◌, ◌*◌, ◌/◌, ◌%◌, ◌≤◌, List, length, replicate, ap, ◌∙◌, subst, sym, arith}
use borrow.Rule.Slice.PartMut.{put_mid}
use Rattle.std.proofs.lemmas.List.{places}
use Rattle.known_bits.specs.Known.{Adds}
use Rattle.known_bits.proofs.Ranges.{adds-more, adds-filled, range-added}
use Rattle.known_bits.proofs.mark_range.Goals as goal

pub returns : goal.returns
returns c =
    let a = c.args in
    let first = c.min-first.result in
    let last = c.max-last.result in
    let end = a.from + a.n in
    let front = c.mark_each.new.map in
    let count = last / 8 - first / 8 in
    let new = c.mark_each-2.new.map in
    let ordered : first ≤ last = grind arith in
    let within : last ≤ length front * 8 = grind arith in
    let whole : (first ≡ last → ⊥) → (first % 8 ≡ 0) × (last % 8 ≡ 0) = λ e. (grind arith, grind arith) in
    let full : c.fill.new.self ≡ replicate count 0xFF =
    c.fill.ensures.after (λ y e. e) ∙ ap (λ (n : ℕ). replicate n 0xFF) (grind (arith, places)) in
    let filled : Adds first last front (put_mid (first / 8) count front c.fill.new.self) =
    subst (λ (bytes : List ℕ). Adds first last front (put_mid (first / 8) count front bytes)) (sym full)
    (adds-filled first last front ordered within whole) in
    range-added a.from a.n a.map.now (grind arith) (grind arith) new (c.mark_each-2.auto.map ∙ grind (arith, places))
    (adds-more a.from last end a.map.now _ new (grind arith) (grind arith)
    (adds-more a.from first last a.map.now front _ (grind arith) ordered c.mark_each.ensures filled)
    c.mark_each-2.ensures)
