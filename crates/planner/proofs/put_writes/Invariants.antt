-- `planner::put_writes` meets its contract: what is left to walk, from the block that is begun on, gives the rest of the packets.
-- Assumes nothing.
use mathlib.Core.List.{List}
use Prim.Native.Nat.{ℕ}
use Rattle.firmware_text.specs.Machine.{image_of}
use Rattle.firmware_text.specs.Segments.{segments_of}
use Rattle.text_cursor.specs.Left.{ahead}
use Rattle.script.specs.Page.{writes_of, packets_of}
use Rattle.planner.proofs.Walks.{Reaches}
use Rattle.planner.proofs.put_writes.Given as goal

-- the packets of the whole text
abbrev pub whole : List ℕ → List ℕ
whole text = packets_of (writes_of (segments_of (image_of text)))

abbrev pub invariant-loop-token : goal.invariant-loop-token
invariant-loop-token l = Reaches (whole l.text) l.n l.initial.out (ahead l.token-iterator) l.block l.held l.out
