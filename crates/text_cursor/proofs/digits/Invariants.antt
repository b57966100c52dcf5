-- `text_cursor::digits` meets its contract: its loop takes the digits of an address one by one.
-- Assumes nothing.
use Prim.Native.Nat.{◌+◌, ◌^◌, ◌<◌}
use mathlib.Core.Path.{◌≡◌}
use Rattle.firmware_text.specs.Machine.{number}
use Rattle.text_cursor.specs.Walk.{from}
use Rattle.text_cursor.proofs.digits.Given as goal

abbrev pub invariant-loop-i : goal.invariant-loop-i
invariant-loop-i l =
    (l.value < 16 ^ (l.i + 1)) × (from (number 1 l.first) l.at l.text ≡ from (number (l.i + 1) l.value) (l.at + l.i) l.text)
