-- `sensor_values::rule::fits` meets its contract: a byte is below a power of two exactly if it is below the power cut off at 65,535.
-- Assumes nothing.
use mathlib.Core.Path.{◌≡◌, refl, ap, ◌∙◌}
use mathlib.Core.Bool.{Bool, true, false}
use Prim.Native.Nat.{ℕ, ◌<◌, ◌^◌}
use native.Mathlib.Omega.{arith}
use borrow.Author.Tests.{lt-ltb, le-ltb, ltb-true, ltb-false}
use lib.Dec.{ltb}
use Rattle.std.specs.Prelude.{min}
use Rattle.sensor_values.proofs.rule.fits.Goals as goal

cut : (v n : ℕ) → v < 256 → ltb v (min n 65535) ≡ ltb v n
cut v n h = go (ltb v n) refl
  where
    go : (t : Bool) → ltb v n ≡ t → ltb v (min n 65535) ≡ t
    go true e = lt-ltb v (min n 65535) (omega (arith, h, ltb-true v n e))
    go false e = le-ltb v (min n 65535) (omega (arith, h, ltb-false v n e))

pub returns : goal.returns
returns c =
    ap (ltb c.args.f.value) c.saturating_pow.ensures ∙ cut c.args.f.value (2 ^ c.args.f.width) (omega (arith, c.well_formed))
