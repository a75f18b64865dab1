-- The loop keeps that the rest of the text draws from here on what the whole text draws from its start (`DrawnTo`), and that the
-- steps so far are added up (`Summed`).
use Rattle.integers.proofs.Prelude.{length}
use Rattle.renderer.proofs.DrawingLaws.{DrawingTo}
use Rattle.renderer.proofs.letters.draw_text.Given as goal

abbrev pub invariant-loop-ch : goal.invariant-loop-ch
invariant-loop-ch l = DrawingTo l.font.bytes.now l.text l.initial.buffer l.pen l.fn.before l.context l.buffer l.dimensions l.steps l.rest

abbrev pub decreases-loop-ch : goal.decreases-loop-ch
decreases-loop-ch l = length l.rest
