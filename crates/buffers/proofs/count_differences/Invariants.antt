-- Those counted and those among the pixels that are left are all. Assumes nothing.
use Rattle.buffers.proofs.DifferenceLaws.{CountedTo}
use Rattle.buffers.proofs.count_differences.Given as goal

abbrev pub invariant-loop-i : goal.invariant-loop-i
invariant-loop-i l = CountedTo l.a l.b l.n l.i
