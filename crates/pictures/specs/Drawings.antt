-- What drawing a text on a framebuffer of its own comes to. The buffer begins with the framebuffer's bytes; what follows them
-- stays.
use Rattle.std.specs.Prelude.{◌≡◌, false, List, ◌++◌, ◌⊎◌, ℕ, ◌<◌, take, drop, Option, Some, Result, Ok, Err}
use Rattle.definitions.specs.Vocabulary.{PixelFormat, None, Point, Size, Rectangle, RenderedDimensions, FontColor}
use Rattle.definitions.specs.Refusals.{Outcome, success, refusal}
use Rattle.definitions.specs.Framebuffer.{size_in_bytes, BufferFits}
use Rattle.definitions.specs.Limits.{color_off}
use Rattle.corner.specs.declared.Setting.{Setting}
use Rattle.corner.specs.Whole.{room_of, measured_at_zero, drawn_whole, shown_whole, boxed, SeenWhole}
use Rattle.corner.specs.Corners.{Measured}
use Rattle.pictures.specs.declared.whole.Drawing.{Drawing}
use Rattle.pictures.specs.declared.whole.DrawError.{DrawError}
use Rattle.pictures.specs.declared.whole.DrawError.TheVariants.{TooLarge, Refused}

-- There is a buffer for the largest framebuffer, and the colour is one for the format.
pub record Drawable (color : FontColor) (format : PixelFormat) (bytes : ℕ) : Type 0 where
  pub room : bytes ≡ 65536
  pub bits : color_off format color ≡ false

-- Also, the text was measured.
pub record Buffered (font text : List ℕ) (s : Setting) (color : FontColor) (format : PixelFormat) (r : Rectangle) (bytes : ℕ) : Type 0 where
  pub measured : Measured font text s r
  pub drawable : Drawable color format bytes

-- how many bytes the framebuffer has
abbrev pub bytes_of : PixelFormat → Rectangle → ℕ
bytes_of format r = size_in_bytes (room_of format r)

-- The text was measured and then drawn, and drawing came to `o`.
pub record Called (font text : List ℕ) (s : Setting) (color : FontColor) (format : PixelFormat) (before after : List ℕ) (r : Rectangle)
    (o : Outcome RenderedDimensions) : Type 0 where
  pub advance : Point
  pub measured : measured_at_zero font text s ≡ success (boxed advance r)
  pub fits : BufferFits (bytes_of format r) (room_of format r)
  pub answered : drawn_whole font text s color format r (take (bytes_of format r) before) ≡ o
  pub shown : after ≡ shown_whole font text s color format r (take (bytes_of format r) before) ++ drop (bytes_of format r) before
  pub seen : SeenWhole advance r o

-- The same of a drawing of that size.
pub record IsDrawn (font text : List ℕ) (s : Setting) (color : FontColor) (format : PixelFormat) (before after : List ℕ) (d : RenderedDimensions)
    (size : Size) : Type 0 where
  pub box : Rectangle
  pub size_is : box.size ≡ size
  pub called : Called font text s color format before after box (success d)

-- Where nothing was drawn the buffer stays: the text has no box,
pub record IsBlank (font text : List ℕ) (s : Setting) (before after : List ℕ) (d : RenderedDimensions) : Type 0 where
  pub kept : after ≡ before
  pub measured : measured_at_zero font text s ≡ success d
  pub boxless : d.bounding_box ≡ None

-- or one that no framebuffer holds.
pub record IsTooLarge (font text : List ℕ) (s : Setting) (before after : List ℕ) (r : Rectangle) : Type 0 where
  pub kept : after ≡ before
  pub advance : Point
  pub measured : measured_at_zero font text s ≡ success (boxed advance r)
  pub large : (256 < r.size.width) ⊎ (256 < r.size.height)

module _ (font text : List ℕ) (s : Setting) (color : FontColor) (format : PixelFormat) (before after : List ℕ) where
  abbrev pub IsDrawnAs : RenderedDimensions → Option Size → Type 0
  IsDrawnAs d (Some size) = IsDrawn font text s color format before after d size
  IsDrawnAs d None = IsBlank font text s before after d

  abbrev pub IsNotDrawn : DrawError → Type 0
  IsNotDrawn (TooLarge r) = IsTooLarge font text s before after r
  IsNotDrawn (Refused e) =
      ((after ≡ before) × (measured_at_zero font text s ≡ refusal e))
      ⊎ ((r : Rectangle) × Called font text s color format before after r (refusal e))

  abbrev pub IsDrawing : Result Drawing DrawError → Type 0
  IsDrawing (Ok d) = IsDrawnAs d.dimensions d.size
  IsDrawing (Err e) = IsNotDrawn e
