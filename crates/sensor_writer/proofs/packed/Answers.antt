-- `sensor_writer::packed` meets its contract: each field is put below the number of those above it.
-- Assumes nothing.
use mathlib.Core.Path.{◌≡◌, ap₂, ◌∙◌}
use Prim.Native.Nat.{ℕ, ◌+◌, ◌-◌}
use native.Mathlib.Omega.{arith}
use lib.ListN.{length, drop}
use Rattle.sensor_values.specs.Layout.{packed}
use Rattle.sensor_writer.proofs.Above.{behind_le, one-more}
use Rattle.sensor_writer.proofs.packed.Goals as goal

-- the number then
pub next : (c : goal.After-unbounded_shl)
    → c.from.result + c.unbounded_shl.result ≡ packed (drop (length c.args.fields.now - (c.loop-i.i + 1)) c.args.fields.now)
next c =
    ap₂ (λ (a b : ℕ). a + b) c.from.ensures c.unbounded_shl.ensures
    ∙ one-more c.args.fields.now c.loop-i.i c.loop-i.number c.loop-i-test.true c.requires c.loop-i.invariant

pub overflow_add-number : goal.overflow_add-number
overflow_add-number c =
    let fields = c.args.fields.now in
    omega (arith, next c, behind_le (length fields - (c.loop-i.i + 1)) fields, c.requires)

pub loop-i-preserved : goal.loop-i-preserved
loop-i-preserved c = next c
