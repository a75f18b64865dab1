-- DifferenceLaws has the step and the end. Assumes nothing.
use Rattle.std.proofs.Common.{arith}
use Rattle.buffers.proofs.DifferenceLaws.{none_left}
use Rattle.buffers.proofs.count_differences.Goals as goal

pub returns : goal.returns
returns c = let i = c.loop-i.invariant in omega (arith, i.counted, none_left c.args.a.now c.args.b.now c.loop-i.i (omega arith))
