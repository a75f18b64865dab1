-- All pixels are written. Assumes nothing.
use Rattle.integers.proofs.Prelude.{arith}
use Rattle.pixels.proofs.UnpackedLaws.{all_unpacked}
use Rattle.pixels.proofs.unpack.unpack_each.Goals as goal

pub returns : goal.returns
returns c =
    let a = c.args in
    all_unpacked a.framebuffer a.buffer.now c.loop-i.pixels (omega (arith, c.loop-i.auto.pixels, c.requires.1)) (λ k h. c.loop-i.invariant k (omega arith))
