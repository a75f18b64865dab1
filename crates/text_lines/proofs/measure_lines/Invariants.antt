-- The loop keeps that the rest of the text leads from the lines so far to where the whole text leads from its start
-- (`Aligned`), that every number lies near 0, and that the steps so far are added up (`Summed`).
use Rattle.std.proofs.Common.{length}
use Rattle.text_lines.specs.Lines.{as_state}
use Rattle.text_lines.proofs.LoopLaws.{MeasuredTo}
use Rattle.text_lines.proofs.measure_lines.Given as goal

abbrev pub invariant-loop-ch : goal.invariant-loop-ch
invariant-loop-ch l =
    MeasuredTo l.font.bytes.now l.pen.ignore_unknown_chars l.horizontal_align l.pen.line_height l.pen.origin l.text (as_state l.state) l.steps l.rest

abbrev pub decreases-loop-ch : goal.decreases-loop-ch
decreases-loop-ch l = length l.rest
