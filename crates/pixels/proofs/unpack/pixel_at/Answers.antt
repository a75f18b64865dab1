-- A pixel's byte lies in the buffer. Assumes nothing.
use Rattle.pixels.proofs.UnpackedLaws.{in_buffer}
use Rattle.pixels.proofs.unpack.pixel_at.Goals as goal

pub bounds-buffer-row : goal.bounds-buffer-row
bounds-buffer-row c = let a = c.args in rw c.per_byte-n.ensures (in_buffer c.requires.0 a.i c.requires.1)
