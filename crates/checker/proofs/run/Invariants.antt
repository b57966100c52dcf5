-- `checker::run` meets its contract: what is left to run gives the answer.
-- Assumes nothing.
use mathlib.Core.Path.{◌≡◌}
use mathlib.Core.List.{List}
use Prim.Native.Nat.{ℕ, ◌-◌, ◌≤◌}
use lib.ListN.{length}
use Rattle.delivery.specs.Check.{trial, run_of}
use Rattle.firmware_text.specs.Machine.{image_of}
use Rattle.text_image.specs.Picture.{picture_of}
use Rattle.checker.proofs.Walk.{Stands}
use Rattle.checker.proofs.run.Given as goal

-- the picture of the text, for a region
abbrev pub pictured : (text region : List ℕ) → List ℕ
pictured text region = picture_of (length region) (image_of text)

abbrev pub invariant-loop-length : goal.invariant-loop-length
invariant-loop-length l =
    Stands (run_of l.script (pictured l.text l.initial.region) l.password l.expected (length l.initial.region)) l.password
    (pictured l.text l.initial.region) l.script (trial l.state l.region) l.known l.at l.packets
    × (l.at ≤ length l.script) × (l.packets ≤ l.at) × (length l.region ≡ length l.initial.region)
    × (length l.known ≡ length l.initial.known)

abbrev pub decreases-loop-length : goal.decreases-loop-length
decreases-loop-length l = length l.script - l.at
