-- What drawing a text in the corner may count on, and what it comes to.
use Rattle.std.specs.Prelude.{◌≡◌, false, List, ℕ, ◌≤◌}
use Rattle.definitions.specs.Vocabulary.{Framebuffer, PixelFormat, Point, Rectangle, RenderedDimensions, FontColor}
use Rattle.definitions.specs.Refusals.{Outcome, success}
use Rattle.definitions.specs.Framebuffer.{BufferFits}
use Rattle.definitions.specs.Limits.{color_off}
use Rattle.corner.specs.declared.Setting.{Setting}
use Rattle.corner.specs.Whole.{room_of, measured_at_zero, drawn_whole, shown_whole, boxed, SeenWhole}

-- The text was measured at (0, 0), and its box is r. A default line height is at most 128.
pub record Measured (font text : List ℕ) (s : Setting) (r : Rectangle) : Type 0 where
  pub low : s.line_height ≤ 128
  pub advance : Point
  pub box : measured_at_zero font text s ≡ success (boxed advance r)

-- The smallest framebuffer that holds r, whose buffer has so many bytes, and a colour for it.
pub record Framed (color : FontColor) (r : Rectangle) (p : Framebuffer) (bytes : ℕ) : Type 0 where
  pub is : p ≡ room_of p.format r
  pub fits : BufferFits bytes p
  pub bits : color_off p.format color ≡ false

-- Both: the text is drawn on that framebuffer.
pub record Cornered (font text : List ℕ) (s : Setting) (color : FontColor) (r : Rectangle) (p : Framebuffer) (bytes : ℕ) : Type 0 where
  pub measured : Measured font text s r
  pub framed : Framed color r p bytes

-- What that comes to: all of it is seen.
pub record CornerDrawn (font text : List ℕ) (s : Setting) (color : FontColor) (format : PixelFormat) (r : Rectangle) (before after : List ℕ)
    (o : Outcome RenderedDimensions) : Type 0 where
  pub answered : o ≡ drawn_whole font text s color format r before
  pub shown : after ≡ shown_whole font text s color format r before
  pub seen : (advance : Point) → measured_at_zero font text s ≡ success (boxed advance r) → SeenWhole advance r o
