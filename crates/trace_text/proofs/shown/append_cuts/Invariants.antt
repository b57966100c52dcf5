-- `trace_text::shown::append_cuts` meets its contract: the places passed have their lines.
-- Assumes nothing.
use Rattle.trace_text.specs.Trace.{cut_lines}
use Rattle.trace_text.proofs.Walk.{HasText}
use Rattle.trace_text.proofs.shown.append_cuts.Given as goal

abbrev pub invariant-loop-place : goal.invariant-loop-place
invariant-loop-place l = HasText (cut_lines l.at l.card.loader l.card.region l.packet l.place) l.initial.out l.held l.out
