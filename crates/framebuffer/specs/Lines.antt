-- The visible part of a row, where the buffer holds it, and a stretch of its columns filled.
use Rattle.std.specs.Prelude.{◌≡◌, ℕ, ◌+◌, ◌-◌, ◌%◌, ◌≤◌, ◌<◌, min}
use Rattle.definitions.specs.Vocabulary.{Rectangle, Framebuffer}
use Rattle.definitions.specs.Framebuffer.{per_byte, byte_at, BufferFits}
use Rattle.framebuffer.specs.declared.line.Line.{Line}
use Rattle.framebuffer.specs.Areas.{area}

-- so many columns of a row, from `left` on
abbrev pub line_at : Framebuffer → (row left columns : ℕ) → Line
line_at p row left columns = record {
  row = row;
  left = left;
  columns = columns;
  start = byte_at p left row;
  pixel = row % per_byte p.format;
}

-- They lie on the framebuffer, whose sides are at most 256 pixels.
pub record RowFits (p : Framebuffer) (row left columns : ℕ) : Type 0 where
  pub wide : p.width ≤ 256
  pub high : p.height ≤ 256
  pub below : row < p.height
  pub right : left + columns ≤ p.width

-- The line lies on the framebuffer, whose buffer has so many bytes.
pub record LineFits (bytes : ℕ) (p : Framebuffer) (line : Line) : Type 0 where
  pub fits : BufferFits bytes p
  pub below : line.row < p.height
  pub right : line.left + line.columns ≤ p.width
  pub start : line.start ≡ byte_at p line.left line.row
  pub pixel : line.pixel ≡ line.row % per_byte p.format

-- all of them
abbrev pub line_area : Line → Rectangle
line_area line = area line.left (line.left + line.columns) line.row (line.row + 1)

-- Those from the column `from` to before the column `to` of a glyph's row whose column `first` is the line's first.
abbrev pub stretch : (first from to : ℕ) → Line → Rectangle
stretch first from to line = area (line.left + (from - first)) (line.left + min (to - first) line.columns) line.row (line.row + 1)
