-- `sensor_values::rule::zeros` meets its contract: it asks each number.
-- Assumes nothing.
use mathlib.Core.Path.{◌≡◌, refl, ◌∙◌}
use mathlib.Core.List.{List, [], ◌∷◌}
use Prim.Native.Nat.{ℕ}
use lib.Dec.{eqb}
use Rattle.std.proofs.Common.{rules, tests}
use Rattle.std.specs.List.{list_all}
use Rattle.std.proofs.lemmas.Iterator.{YieldsList-from_slice}
use Rattle.std.proofs.lemmas.Iterator.Search.{all_from_yields_List}
use Rattle.sensor_values.specs.Rule.{zeros}
use Rattle.sensor_values.proofs.rule.zeros.Goals as goal

each : (ns : List ℕ) → list_all (λ n. eqb n 0) ns ≡ zeros ns
each [] = refl
each (n ∷ ns) = rw (each ns) refl

pub returns : goal.returns
returns c =
    all_from_yields_List (λ n. eqb n 0) _ _ _ c.all.ensures.ran (YieldsList-from_slice c.args.numbers.now cc)
    (λ x b q k. search (rules, tests))
    ∙ each c.args.numbers.now
