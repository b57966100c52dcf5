-- What a line holds, and what of a name is still to be shown.
-- Assumes nothing.
use Rattle.std.specs.Prelude.{List, ℕ}
use Rattle.report.specs.declared.Line.{Line}
use Rattle.report.specs.declared.Printable.{Printable}
use Rattle.report.specs.Lines.{printable}

-- the bytes of a line
abbrev pub holds : Line → List ℕ
holds line = line.held.items

-- the bytes that are still to be shown
abbrev pub left : Printable → List ℕ
left name = printable name.before name.rest.now
