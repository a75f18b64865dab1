-- The smallest framebuffer for so many columns and rows. Assumes nothing.
use Rattle.integers.proofs.Prelude.{◌≡◌, refl, ℕ, ◌*◌, ◌/◌, ◌≤◌, ◌<◌, mul-le-mul, arith}
use Rattle.definitions.specs.Vocabulary.{Framebuffer, PixelFormat, Bytes, Packed}
use Rattle.definitions.specs.Framebuffer.{per_byte, byte_rows, size_in_bytes, BufferFits}
use Rattle.pixels.specs.Rooms.{whole_rows, room_for}

-- the rows, which are no more than 256 where those asked for are not
pub holds_rows : (f : PixelFormat) (n : ℕ) → n ≤ whole_rows f n
holds_rows Bytes n = omega arith
holds_rows Packed n = omega arith

pub rows_most : (f : PixelFormat) (n : ℕ) → n ≤ 256 → whole_rows f n ≤ 256
rows_most Bytes n h = omega arith
rows_most Packed n h = omega arith

rows_whole : (f : PixelFormat) (n : ℕ) → whole_rows f n / per_byte f * per_byte f ≡ whole_rows f n
rows_whole Bytes n = omega arith
rows_whole Packed n = omega arith

pub room_fits : (f : PixelFormat) (width height : ℕ) → 0 < width → width ≤ 256 → height ≤ 256
    → BufferFits (size_in_bytes (room_for f width height)) (room_for f width height)
room_fits f width height some wide high = record {
  some = some;
  wide = wide;
  high = rows_most f height high;
  whole = rows_whole f height;
  area = refl;
}

byte_rows_most : (f : PixelFormat) (n : ℕ) → n / per_byte f ≤ n
byte_rows_most Bytes n = omega arith
byte_rows_most Packed n = omega arith

-- No framebuffer has more than 65,536 pixels, or bytes.
module _ {bytes : ℕ} {p : Framebuffer} (f : BufferFits bytes p) where
  pub pixels_most : p.height * p.width ≤ 65536
  pixels_most = mul-le-mul f.high f.wide

  pub bytes_most : bytes ≤ 65536
  bytes_most =
      let h : byte_rows p ≤ 256 = omega (arith, byte_rows_most p.format p.height, f.high) in
      omega (arith, f.area, mul-le-mul h f.wide)
