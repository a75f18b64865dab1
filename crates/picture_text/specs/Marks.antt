-- The colours of a picture, and how it is shown as text.
use Rattle.std.specs.Prelude.{◌≡◌, Bool, ℕ, ◌*◌, ◌≤◌, eqb}
use Rattle.integers.specs.Integers.{pick}
use Rattle.definitions.specs.Vocabulary.{PixelFormat, Bytes, Packed, FontColor, Transparent, WithBackground}

-- The ink is 0. A background, where it is wanted, is 192, and on a packed framebuffer 1, its other colour.
abbrev pub ground_of : PixelFormat → ℕ
ground_of Bytes = 192
ground_of Packed = 1

abbrev pub ink_of : PixelFormat → Bool → FontColor
ink_of format background = pick background (WithBackground 0 (ground_of format)) (Transparent 0)

-- A pixel as a character: '#' (35) for the ink, ':' (58) for a glyph's background, '.' (46) elsewhere.
abbrev pub shade : ℕ → ℕ
shade pixel = pick (eqb pixel 0) 35 (pick (eqb pixel 192) 58 46)

-- So many pixels are a picture of that width and height.
pub record IsPicture (width height pixels : ℕ) : Type 0 where
  pub wide : width ≤ 256
  pub high : height ≤ 256
  pub area : pixels ≡ width * height
