-- `fill_with_rubbish` meets its contract. Assumes nothing.
use Rattle.integers.proofs.Prelude.{arith}
use Rattle.sheet_ground.proofs.GroundLaws.{all_rubbish}
use Rattle.sheet_ground.proofs.ground.fill_with_rubbish.Goals as goal

pub returns : goal.returns
returns c = all_rubbish c.loop-i.buffer _ c.loop-i.auto.buffer (λ k p. c.loop-i.invariant k (omega arith))
