-- In bytes the buffer is copied. Assumes nothing.
use Rattle.integers.proofs.Prelude.{◌∙◌}
use Rattle.pixels.proofs.UnpackedLaws.{bytes_unpacked}
use Rattle.pixels.proofs.unpack.unpack.Goals as goal

pub returns-in-Bytes : goal.returns-in-Bytes
returns-in-Bytes c = c.copy_from_slice.ensures.after ∙ bytes_unpacked c.args.framebuffer c.args.buffer.now c.in-Bytes.is c.requires.0
