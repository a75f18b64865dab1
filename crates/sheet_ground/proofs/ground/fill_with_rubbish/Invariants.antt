-- The first i bytes are written. Assumes nothing.
use Rattle.integers.proofs.Prelude.{◌≡◌, ℕ, ◌<◌, get_or}
use Rattle.sheet_ground.specs.Ground.{rubbish_at}
use Rattle.sheet_ground.proofs.ground.fill_with_rubbish.Given as goal

abbrev pub invariant-loop-i : goal.invariant-loop-i
invariant-loop-i l = (k : ℕ) → k < l.i → get_or l.buffer k 0 ≡ rubbish_at k
