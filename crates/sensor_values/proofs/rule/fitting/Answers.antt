-- `sensor_values::rule::fitting` meets its contract: it asks each field.
-- Assumes nothing.
use mathlib.Core.Path.{◌≡◌, refl, ◌∙◌}
use mathlib.Core.List.{List, [], ◌∷◌}
use mathlib.Core.Bool.{Bool}
use Prim.Native.Nat.{◌^◌}
use lib.Dec.{ltb}
use Rattle.std.proofs.Common.{rules, tests}
use Rattle.std.specs.List.{list_all}
use Rattle.std.proofs.lemmas.Iterator.{YieldsList-from_slice}
use Rattle.std.proofs.lemmas.Iterator.Search.{all_from_yields_List}
use Rattle.sensor_values.specs.declared.BitField.{BitField}
use Rattle.sensor_values.specs.Rule.{fitting}
use Rattle.sensor_values.proofs.rule.fitting.Goals as goal

abbrev fits : BitField → Bool
fits f = ltb f.value (2 ^ f.width)

each : (fs : List BitField) → list_all fits fs ≡ fitting fs
each [] = refl
each (f ∷ fs) = rw (each fs) refl

pub returns : goal.returns
returns c =
    all_from_yields_List fits _ _ _ c.all.ensures.ran (YieldsList-from_slice c.args.bits.now cc)
    (λ x b q k. search (rules, tests))
    ∙ each c.args.bits.now
