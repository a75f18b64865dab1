-- The first i bytes are what the case asks for. Assumes nothing.
use Rattle.std.specs.Prelude.{◌≡◌, ℕ, ◌<◌, get_or}
use Rattle.cases.specs.Patterns.{pattern_at}
use Rattle.cases.proofs.framebuffers.fill.Given as goal

abbrev pub invariant-loop-i : goal.invariant-loop-i
invariant-loop-i l = (k : ℕ) → k < l.i → get_or l.framebuffer k 0 ≡ pattern_at l.fn.fill k
