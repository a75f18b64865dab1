-- Which part of a glyph lies on the framebuffer.
use Rattle.std.specs.Prelude.{ℕ, ◌≤◌, ℤ, pos, negsuc, ◌-ℤ◌, ◌≤ℤ◌}
use Rattle.definitions.specs.Vocabulary.{Point, GlyphReader, Framebuffer}
use Rattle.framebuffer.specs.Areas.{clamped}
use Rattle.visible_part.specs.declared.Visible.{Visible}
use Rattle.visible_part.specs.declared.VisiblePart.{VisiblePart}

-- A place near enough that a glyph's end is a number of 32 bits.
pub record EndFits (z : ℤ) : Type 0 where
  pub low : negsuc 1073741823 ≤ℤ z
  pub high : z ≤ℤ pos 1073741823

-- Such a place, and a framebuffer's width or height within the limit.
pub record SideFits (start : ℤ) (limit : ℕ) : Type 0 where
  pub near : EndFits start
  pub small : limit ≤ 256

-- The same of a corner, for both sides.
pub record CornerFits (corner : Point) (framebuffer : Framebuffer) : Type 0 where
  pub columns : SideFits corner.x framebuffer.width
  pub rows : SideFits corner.y framebuffer.height

-- Of so many columns or rows of a glyph, of which the first lies at `start`, those that the framebuffer's, from 0 to before
-- `limit`, show.
abbrev pub visible : ℤ → ℕ → ℕ → Visible
visible start size limit = record { start = clamped (pos 0 -ℤ start) size; end = clamped (pos limit -ℤ start) size }

abbrev pub visible_part : Point → GlyphReader → Framebuffer → VisiblePart
visible_part corner g framebuffer = record {
  columns = visible corner.x g.glyph_width framebuffer.width;
  rows = visible corner.y g.glyph_height framebuffer.height;
  left = clamped corner.x framebuffer.width;
  top = clamped corner.y framebuffer.height;
}
