-- The extent is that of the first k readings. Assumes nothing.
use Rattle.sheet_extent.proofs.ExtentLaws.{MeasuredTo}
use Rattle.sheet_extent.proofs.extent.measure_all.Given as goal

abbrev pub invariant-loop-k : goal.invariant-loop-k
invariant-loop-k l = MeasuredTo l.font l.vertical_pos l.horizontal_align l.k l.extent
