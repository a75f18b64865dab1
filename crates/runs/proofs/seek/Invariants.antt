-- `seek`: where the first pair leads to a glyph's pixel, the pair and the offset do. Each round reads at least one bit.
use Rattle.integers.proofs.Prelude.{◌-◌, ◌*◌, length}
use Rattle.runs.proofs.StandsLaws.{Leads}
use Rattle.runs.proofs.seek.Given as goal

abbrev pub invariant-loop-offset : goal.invariant-loop-offset
invariant-loop-offset l = Leads l.font.bytes.now l.font.head.m0 l.font.head.m1 l.pixel l.initial.runs l.initial.offset l.runs l.offset

abbrev pub decreases-loop-offset : goal.decreases-loop-offset
decreases-loop-offset l = 8 * length l.font.bytes.now - l.runs.bit_pos
