-- The invariant of both loops of `draw_pairs`: they stand at a state (StateLaws). Assumes nothing.
use Rattle.integers.proofs.Prelude.{◌-◌, ◌*◌, length}
use Rattle.rows.proofs.StateLaws.{State}
use Rattle.rows.proofs.draw_pairs.Given as goal

abbrev pub invariant-loop-to : goal.invariant-loop-to
invariant-loop-to l = State l.font.bytes.now l.font.head l.fn.glyph l.part l.value l.framebuffer l.fn.buffer l.buffer l.runs l.from l.to l.line

abbrev pub decreases-loop-to : goal.decreases-loop-to
decreases-loop-to l = l.to

abbrev pub invariant-pairs : goal.invariant-pairs
invariant-pairs l = State l.font.bytes.now l.font.head l.fn.glyph l.part l.value l.framebuffer l.fn.buffer l.buffer l.runs l.from l.to l.line

abbrev pub decreases-pairs : goal.decreases-pairs
decreases-pairs l = 8 * length l.font.bytes.now - l.runs.bit_pos
