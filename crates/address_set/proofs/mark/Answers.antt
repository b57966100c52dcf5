-- `address_set::mark` meets its contract: there is no bit, the bit is set, or it is set now.
-- Assumes nothing.
use Prim.Native.Nat.{ℕ, ◌/◌, ◌%◌, ◌^◌, ◌+◌, ◌*◌, ◌<◌}
use mathlib.Core.Path.{◌≡◌, sym, subst, ◌∙◌}
use mathlib.Core.Bool.{true, false}
use native.Mathlib.Omega.{arith}
use lib.Dec.{eqb}
use lib.ListN.{get_or, set}
use borrow.Author.Tests.{ltb-true, ltb-false, eq-eqb, ne_eqb}
use Rattle.std.proofs.lemmas.Grind.{get_or_default_zero}
use Rattle.address_set.specs.Bits.{marked, Marked}
use Rattle.address_set.proofs.Maps.{with-fits, mark-clear, mark_set, mark-none, behind_end}
use Rattle.address_set.proofs.mark.Goals as goal

pub returns-in_default : goal.returns-in_default
returns-in_default c =
    let a = c.args in
    let none = ltb-false _ _ (sym c.in_default.ensures.lookup.0) in
    (sym (behind_end _ _ none), mark-none a.map.now a.address none)

pub returns-then-byte-bit-eq1 : goal.returns-then-byte-bit-eq1
unfolding marked
returns-then-byte-bit-eq1 c =
    let a = c.args in
    let found = c.in-Some.ensures.lookup in
    let inside = ltb-true _ _ (sym found.0) in
    let byte = found.1 ∙ get_or_default_zero _ _ _ inside in
    let set : marked a.map.now a.address ≡ true = subst (λ (w : ℕ). eqb (w / 2 ^ (a.address % 8) % 2) 1 ≡ true) byte (eq-eqb _ 1 c.if-byte-bit-eq1.true) in
    (sym set, mark_set a.map.now a.address inside set)

pub overflow_add-map : goal.overflow_add-map
overflow_add-map c =
    let found = c.in-Some.ensures.lookup in
    let inside = ltb-true _ _ (sym found.0) in
    let byte = found.1 ∙ get_or_default_zero _ _ _ inside in
    record { fits = with-fits _ (c.args.address % 8) (omega (arith, byte, (c.slice_known-1.given (c.args.address / 8)).fits)) (omega arith) (ne_eqb _ 1 c.if-byte-bit-eq1.false) }

pub returns : goal.returns
unfolding marked
returns c =
    let a = c.args in
    let found = c.in-Some.ensures.lookup in
    let inside = ltb-true _ _ (sym found.0) in
    let byte = found.1 ∙ get_or_default_zero _ _ _ inside in
    let clear : marked a.map.now a.address ≡ false = subst (λ (w : ℕ). eqb (w / 2 ^ (a.address % 8) % 2) 1 ≡ false) byte (ne_eqb _ 1 c.if-byte-bit-eq1.false) in
    let small : get_or a.map.now (a.address / 8) 0 < 256 = (c.slice_known-1.given (a.address / 8)).fits in (
      sym clear,
      subst (λ (w : ℕ). Marked a.map.now (set a.map.now (a.address / 8) (w + 1 * 2 ^ (a.address % 8) % 256)) a.address) (sym byte)
          (mark-clear a.map.now a.address inside small clear),
    )
