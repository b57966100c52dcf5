-- `trace_lines::draft::Draft::append` meets its contract: bytes put behind the text leave zeros behind it.
-- Assumes nothing.
use mathlib.Core.Path.{refl, sym, ap, subst}
use mathlib.Core.List.{List, ◌++◌}
use Prim.Native.Nat.{ℕ, ◌+◌, ◌≤◌}
use native.Mathlib.Omega.{arith}
use lib.ListN.{length, replicate, length-append}
use Rattle.little_endian.proofs.Stored.{part-filled, put_then}
use Rattle.trace_lines.specs.Lines.{line_text, Holds}
use Rattle.trace_lines.proofs.Texts.{text_in}
use Rattle.trace_lines.proofs.draft.Draft.append.Goals as goal

pub invariant_of-self : goal.invariant_of-self
invariant_of-self c =
    let line = c.self.inside.line in
    let text : List ℕ = line_text line in
    let new : List ℕ = c.args.new.now in
    let held = c.self.invariant.1 in
    let long : length text + length new ≤ 32 = omega (arith, c.requires, ap length c.self.view_is) in
    let end : line.length + length new ≤ 32 = omega (arith, long, held.0) in
    let filled = part-filled line.length new line.bytes (omega (arith, end)) in
    let short : length (text ++ new) ≤ 32 = omega (arith, long, length-append text new) in
    let put = put_then text new 0 (replicate 32 0) line.length line.bytes (line.length + length new) _ held (refl, rw c.copy_from_slice.ensures.after filled) (omega (arith, long)) in
    (end, subst (Holds _) (sym (text_in _ (text ++ new) put short)) put)
