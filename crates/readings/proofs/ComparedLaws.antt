-- Where the buffers are the framebuffer's, they are compared unpacked, whatever the format. Assumes nothing.
use Rattle.integers.proofs.Prelude.{◌≡◌, refl, ap, ◌∙◌, List, ℕ, length}
use Rattle.definitions.specs.Vocabulary.{Framebuffer, PixelFormat, Bytes, Packed}
use Rattle.definitions.specs.Framebuffer.{unpacked, BufferFits}
use Rattle.buffers.specs.Differences.{differences}
use Rattle.pixels.proofs.UnpackedLaws.{bytes_unpacked}
use Rattle.readings.specs.Sheet.{compared, apart}

pub compared_unpacked : (p : Framebuffer) (buffer : List ℕ) → BufferFits (length buffer) p → compared p.format p buffer ≡ unpacked p buffer
compared_unpacked p buffer f = by p.format refl
  where
    by : (format : PixelFormat) → p.format ≡ format → compared format p buffer ≡ unpacked p buffer
    by Bytes e = bytes_unpacked p buffer e f
    by Packed e = refl

pub apart_unpacked : (p : Framebuffer) (a b : List ℕ) → BufferFits (length a) p → BufferFits (length b) p
    → apart p a b ≡ differences (unpacked p a) (unpacked p b)
apart_unpacked p a b f g =
    ap (λ (l : List ℕ). differences l (compared p.format p b)) (compared_unpacked p a f) ∙ ap (differences (unpacked p a)) (compared_unpacked p b g)
