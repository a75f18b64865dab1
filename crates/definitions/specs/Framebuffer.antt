-- SPECIFICATION, Drawing and measuring: the framebuffer. It is a window onto a picture, whatever its bytes hold; pixels off it are
-- dropped. A byte holds one pixel, or eight of a column (request A4).
use Rattle.std.specs.Prelude.{Bool, ◌||◌, not, List, [], ◌∷◌, ℕ, suc, ◌+◌, ◌*◌, ◌/◌, ◌%◌, ◌≡◌, ◌≤◌, ◌<◌, ltb, eqb, pos, length, get_or}
use Rattle.std.specs.Prelude.{replicate}
use Rattle.integers.specs.Integers.{pick}
use Rattle.definitions.specs.Vocabulary.{Framebuffer, PixelFormat, Bytes, Packed}
use Rattle.definitions.specs.Refusals.{Cause}
use Rattle.definitions.specs.Bits.{low_bits, number}
use Rattle.definitions.specs.Picture.{Paint, keep, put, Picture}

abbrev pub over : Paint → ℕ → ℕ
over keep old = old
over (put c) old = c

-- each element of a list changed by a function of its index and itself
unfoldable pub map_at : (ℕ → ℕ → ℕ) → ℕ → List ℕ → List ℕ
map_at f i [] = []
map_at f i (x ∷ xs) = f i x ∷ map_at f (suc i) xs

-- ---- a byte, by the format

-- how many pixels of a column it holds
abbrev pub per_byte : PixelFormat → ℕ
per_byte Bytes = 1
per_byte Packed = 8

-- what a pixel stores of a paint: a bit is 0 or 1
abbrev pub stored : PixelFormat → Paint → Paint
stored Bytes paint = paint
stored Packed keep = keep
stored Packed (put c) = put (pick (eqb c 0) 0 1)

-- the k-th pixel from the top that it holds
abbrev pub in_byte : PixelFormat → ℕ → ℕ → ℕ
in_byte Bytes k x = x
in_byte Packed k x = get_or (low_bits 8 x) k 0

-- What it comes to, `paint k` being drawn on the k-th pixel. (A list's number may be no byte: what lies above the bits stays.)
abbrev pub paint_byte : PixelFormat → (ℕ → Paint) → ℕ → ℕ
paint_byte Bytes paint x = over (paint 0) x
paint_byte Packed paint x = number (map_at (λ k bit. over (stored Packed (paint k)) bit) 0 (low_bits 8 x)) + x / 256 * 256

-- ---- all bytes

-- what is drawn on the pixels that the byte at an index holds
abbrev pub paints : Framebuffer → Picture → ℕ → ℕ → Paint
paints p picture i k = picture (pos (i % p.width)) (pos (i / p.width * per_byte p.format + k))

-- The framebuffer after the picture is drawn on it.
abbrev pub shown : Framebuffer → Picture → List ℕ → List ℕ
shown p picture buffer = map_at (λ i x. paint_byte p.format (paints p picture i) x) 0 buffer

abbrev pub sized : PixelFormat → ℕ → ℕ → Framebuffer
sized format width height = record { format = format; width = width; height = height }

-- which byte holds the pixel at a column and row, and what that pixel is
abbrev pub byte_at : Framebuffer → ℕ → ℕ → ℕ
byte_at p column row = row / per_byte p.format * p.width + column

abbrev pub pixel_at : Framebuffer → List ℕ → ℕ → ℕ → ℕ
pixel_at p buffer column row = in_byte p.format (row % per_byte p.format) (get_or buffer (byte_at p column row) 0)

-- The same pixels one in a byte, rows from the top.
abbrev pub in_bytes : Framebuffer → Framebuffer
in_bytes p = sized Bytes p.width p.height

abbrev pub unpacked : Framebuffer → List ℕ → List ℕ
unpacked p buffer = map_at (λ i none. pixel_at p buffer (i % p.width) (i / p.width)) 0 (replicate (p.height * p.width) 0)

-- ---- cause 3

-- how many bytes there are, and rows of them
abbrev pub byte_rows : Framebuffer → ℕ
byte_rows p = p.height / per_byte p.format

abbrev pub size_in_bytes : Framebuffer → ℕ
size_in_bytes p = byte_rows p * p.width

-- A side is not 1 to 256 pixels long, the height is no multiple of the pixels that a byte holds, or the buffer has another length.
abbrev pub side_off : ℕ → Bool
side_off n = eqb n 0 || ltb 256 n

abbrev pub size_off : Framebuffer → Bool
size_off p = side_off p.width || side_off p.height || not (eqb (p.height % per_byte p.format) 0)

abbrev pub framebuffer_cause : Framebuffer → List ℕ → Cause
framebuffer_cause p buffer = record { number = 3; applies = size_off p || not (eqb (length buffer) (size_in_bytes p)) }

-- Where it does not apply, or there are no rows: a buffer of so many bytes is the framebuffer's.
pub record BufferFits (bytes : ℕ) (p : Framebuffer) : Type 0 where
  pub some : 0 < p.width
  pub wide : p.width ≤ 256
  pub high : p.height ≤ 256
  pub whole : byte_rows p * per_byte p.format ≡ p.height
  pub area : bytes ≡ size_in_bytes p
