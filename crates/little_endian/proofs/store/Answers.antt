-- `little_endian::store` meets its contract: the part that was lent comes back behind the bytes before it.
-- Assumes nothing.
use mathlib.Core.Path.{sym, ap, ◌∙◌}
use mathlib.Core.List.{List, ◌++◌}
use Prim.Native.Nat.{ℕ, ◌+◌, ◌-◌, ◌<◌}
use native.Mathlib.Omega.{arith}
use lib.ListN.{length, take, drop}
use Rattle.little_endian.proofs.Stored.{part-filled, stored-not}
use Rattle.little_endian.proofs.store.Goals as goal
use Rattle.little_endian.proofs.store.Goals.{else-at-out-via-then-at-out+else-new-out, else-at-out-via-else-at-out}

pub returns-else-at-out : goal.returns-else-at-out
returns-else-at-out c =
    let a = c.args in
    let past : length a.out.now < a.at + length a.new.now = elim c.else-at-out.branch [
      | else-at-out-via-then-at-out+else-new-out w ↦ omega (arith, w.if-at-out.true, w.if-new-out.false)
      | else-at-out-via-else-at-out w ↦ omega (arith, w.if-at-out.false)
    ] in
    sym (stored-not a.at a.new.now a.out.now past)

pub returns-then-new-out : goal.returns-then-new-out
returns-then-new-out c =
    let a = c.args in
    let out = a.out.now in
    ap (λ (l : List ℕ). take a.at out ++ (l ++ drop (a.at + length a.new.now - a.at) (drop a.at out))) c.copy_from_slice.ensures.after
    ∙ part-filled a.at a.new.now out (omega (arith, c.if-at-out.true, c.if-new-out.true))
