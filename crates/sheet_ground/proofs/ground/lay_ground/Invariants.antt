-- The boxes of the first k readings are cleared. Assumes nothing.
use Rattle.sheet_ground.proofs.GroundLaws.{LaidTo}
use Rattle.sheet_ground.proofs.ground.lay_ground.Given as goal

abbrev pub invariant-loop-k : goal.invariant-loop-k
invariant-loop-k l = LaidTo l.font l.place l.initial.buffer l.buffer l.k
