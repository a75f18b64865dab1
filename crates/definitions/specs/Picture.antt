-- What a drawing shows, apart from any framebuffer: at each column and row a colour, or what was there before.
use Rattle.std.specs.Prelude.{Bool, ◌&&◌, List, [], ◌∷◌, ℕ, ◌+◌, ◌*◌, eqb, ℤ, nat_abs, ◌-ℤ◌, get_or}
use Rattle.std.specs.Int.Signed.{le_z, lt_z}
use Rattle.integers.specs.Integers.{pick}
use Rattle.definitions.specs.Vocabulary.{Rectangle, BoundingBox, None, Some, GlyphReader, FontColor, Transparent, WithBackground}
use Rattle.definitions.specs.Geometry.{left, top, right, bottom}
use Rattle.definitions.specs.Text.{Placed, box_of}

-- A pixel is kept, or takes a colour.
pub data Paint : Type 0 where
  keep : Paint
  put : ℕ → Paint

abbrev pub Picture : Type 0
Picture = ℤ → ℤ → Paint

-- what lies above hides what lies below
abbrev pub above : Paint → Paint → Paint
above keep below = below
above (put c) below = put c

-- Ones take the foreground; zeros take the background, or are kept where there is none.
abbrev pub paint_of : FontColor → ℕ → Paint
paint_of (Transparent c) bit = pick (eqb bit 1) (put c) keep
paint_of (WithBackground fg bg) bit = pick (eqb bit 1) (put fg) (put bg)

abbrev pub covers : Rectangle → ℤ → ℤ → Bool
covers r column row = le_z (left r) column && lt_z column (right r) && le_z (top r) row && lt_z row (bottom r)

-- A rectangle filled with pixels, row by row.
abbrev pub rectangle_picture : FontColor → List ℕ → Rectangle → Picture
rectangle_picture color bits r column row =
    pick (covers r column row)
    (paint_of color (get_or bits (nat_abs (row -ℤ top r) * r.size.width + nat_abs (column -ℤ left r)) 0))
    keep

abbrev pub box_picture : FontColor → List ℕ → BoundingBox → Picture
box_picture color bits None column row = keep
box_picture color bits (Some r) column row = rectangle_picture color bits r column row

-- The glyphs of a text, later letters above earlier ones; `pixels_of` gives each glyph's pixels.
unfoldable pub text_picture : FontColor → (GlyphReader → List ℕ) → List Placed → Picture
text_picture color pixels_of [] column row = keep
text_picture color pixels_of (p ∷ ps) column row =
    above (text_picture color pixels_of ps column row) (box_picture color (pixels_of p.glyph) (box_of p) column row)
