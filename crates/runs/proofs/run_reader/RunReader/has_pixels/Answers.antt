-- `has_pixels` meets its contract: RunReadsLaws has the step and the ends. Assumes nothing.
use Rattle.integers.proofs.Prelude.{sym, ◌∙◌, arith}
use Rattle.runs.proofs.RunReadsLaws.{counted_from, whole_not, whole_last, whole_next}
use Rattle.runs.proofs.run_reader.RunReader.has_pixels.Goals as goal

pub returns-then-missing-count : goal.returns-then-missing-count
returns-then-missing-count c =
    let l = c.loop-runs in
    sym (counted_from _ l.invariant c.first_pair-runs.ensures.read ∙ whole_last _ _ _ l.missing l.runs (omega arith) (omega arith))

pub loop-runs-preserved : goal.loop-runs-preserved
loop-runs-preserved c =
    let l = c.loop-runs in
    let next = c.next_pair-runs.ensures in
    record {
      limited = l.invariant.limited;
      short = next.short;
      same = l.invariant.same ∙ rw c.count-missing.ensures (whole_next _ _ _ l.missing l.runs (omega arith) _ (omega arith) next.read);
    }

pub returns : goal.returns
returns c =
    let l = c.loop-runs in
    sym (counted_from _ l.invariant c.first_pair-runs.ensures.read ∙ whole_not _ _ _ l.missing l.runs (omega arith))
