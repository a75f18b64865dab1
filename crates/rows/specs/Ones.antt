-- What the drawing of a glyph's ones may count on, and the picture of them.
use Rattle.std.specs.Prelude.{List, ℕ, ◌+◌, ◌-◌, ◌*◌, ◌≤◌, ◌<◌}
use Rattle.definitions.specs.Vocabulary.{FontReader, GlyphReader, Framebuffer}
use Rattle.definitions.specs.Picture.{Picture}
use Rattle.definitions.specs.Framebuffer.{BufferFits}
use Rattle.runs.specs.Stands.{CheckedGlyph}
use Rattle.visible_part.specs.declared.VisiblePart.{VisiblePart}
use Rattle.rows.specs.Ink.{Ones, ink_picture}

-- The part has pixels, and lies in the glyph and on the framebuffer.
pub record PartFits (g : GlyphReader) (part : VisiblePart) (framebuffer : Framebuffer) (bytes : ℕ) : Type 0 where
  pub some_columns : part.columns.start < part.columns.end
  pub some_rows : part.rows.start < part.rows.end
  pub in_width : part.columns.end ≤ g.glyph_width
  pub in_height : part.rows.end ≤ g.glyph_height
  pub right : part.left + (part.columns.end - part.columns.start) ≤ framebuffer.width
  pub bottom : part.top + (part.rows.end - part.rows.start) ≤ framebuffer.height
  pub window : BufferFits bytes framebuffer

-- What the drawing of such a part may count on: the runs were checked.
pub record PartDrawable (font : List ℕ) (head : FontReader) (g : GlyphReader) (part : VisiblePart) (framebuffer : Framebuffer) (bytes : ℕ) : Type 0 where
  pub checked : CheckedGlyph font head g
  pub fits : PartFits g part framebuffer bytes

-- the part of a glyph with the pixels ps
abbrev pub ones_of : List ℕ → ℕ → VisiblePart → ℕ → Ones
ones_of ps wide part value = record {
  ps = ps;
  start = part.rows.start * wide;
  wide = wide;
  rows = part.rows.end - part.rows.start;
  first = part.columns.start;
  visible = part.columns.end - part.columns.start;
  left = part.left;
  top = part.top;
  value = value;
}

-- all of its ones
abbrev pub ones_picture : List ℕ → GlyphReader → VisiblePart → ℕ → Picture
ones_picture ps g part value = ink_picture (ones_of ps g.glyph_width part value) ((part.rows.end - part.rows.start) * g.glyph_width)
