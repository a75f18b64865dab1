-- What the drawing of a glyph may count on.
use Rattle.std.specs.Prelude.{◌≡◌, List, ℕ, ℤ}
use Rattle.definitions.specs.Vocabulary.{BoundingBox, Rectangle, FontReader, GlyphReader, Framebuffer}
use Rattle.definitions.specs.Geometry.{left, top, InReach}
use Rattle.definitions.specs.Text.{box_at}
use Rattle.definitions.specs.Framebuffer.{BufferFits}
use Rattle.runs.specs.Stands.{CheckedGlyph}
use Rattle.visible_part.specs.Visible.{EndFits}

-- The bounding box is the glyph's at some place in reach.
pub record GlyphBox (g : GlyphReader) (b : BoundingBox) : Type 0 where
  pub x : ℤ
  pub y : ℤ
  pub is : b ≡ box_at x y g
  pub reach : InReach b

-- `area` has the glyph's size.
pub record GlyphArea (g : GlyphReader) (area : Rectangle) : Type 0 where
  pub width : area.size.width ≡ g.glyph_width
  pub height : area.size.height ≡ g.glyph_height
  pub left : EndFits (left area)
  pub top : EndFits (top area)

-- The runs were checked, and the box is the glyph's.
pub record GlyphDrawable (font : List ℕ) (head : FontReader) (g : GlyphReader) (b : BoundingBox) (framebuffer : Framebuffer) (bytes : ℕ) : Type 0 where
  pub checked : CheckedGlyph font head g
  pub box : GlyphBox g b
  pub window : BufferFits bytes framebuffer
