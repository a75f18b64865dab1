-- The first i pixels are written. Assumes nothing.
use Rattle.integers.proofs.Prelude.{◌≡◌, ℕ, ◌<◌, ◌/◌, ◌%◌, get_or}
use Rattle.definitions.specs.Framebuffer.{pixel_at}
use Rattle.pixels.proofs.unpack.unpack_each.Given as goal

abbrev pub invariant-loop-i : goal.invariant-loop-i
invariant-loop-i l = (k : ℕ) → k < l.i → get_or l.pixels k 0 ≡ pixel_at l.framebuffer l.buffer (k % l.framebuffer.width) (k / l.framebuffer.width)
