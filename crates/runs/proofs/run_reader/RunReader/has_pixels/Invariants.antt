-- `has_pixels`: whether the font has the pixels is whether it has those from the pair on. Each round reads at least one bit, so
-- what is left of the font's bits is the measure. Assumes nothing.
use Rattle.integers.proofs.Prelude.{◌-◌, ◌*◌, length}
use Rattle.runs.proofs.RunReadsLaws.{CountedTo}
use Rattle.runs.proofs.run_reader.RunReader.has_pixels.Given as goal

abbrev pub invariant-loop-runs : goal.invariant-loop-runs
invariant-loop-runs l = CountedTo l.self.bytes.now l.self.m0 l.self.m1 l.limit l.initial.missing l.initial.runs l.missing l.runs

abbrev pub decreases-loop-runs : goal.decreases-loop-runs
decreases-loop-runs l = 8 * length l.self.bytes.now - l.runs.bit_pos
