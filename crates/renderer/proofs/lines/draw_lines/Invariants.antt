-- The loop keeps that what is left of the text leads from the lines so far to where the whole text leads from its start (`LinesTo`).
use Rattle.integers.proofs.Prelude.{length}
use Rattle.renderer.proofs.LineLoopLaws.{LinesTo}
use Rattle.renderer.proofs.lines.draw_lines.Given as goal

abbrev pub invariant-loop-error : goal.invariant-loop-error
invariant-loop-error l = LinesTo l.font.bytes.now l.text l.initial.buffer l.setting l.context l.buffer l.dimensions l.steps l.rest

abbrev pub decreases-loop-error : goal.decreases-loop-error
decreases-loop-error l = length l.rest
