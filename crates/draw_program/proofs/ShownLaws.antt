-- What is drawn can be shown. Assumes nothing.
use Rattle.std.specs.Prelude.{IfSome, Option, Some, None, Result, Ok, Err}
use Rattle.integers.proofs.Prelude.{subst, List, ℕ, ◌*◌, ◌≤◌, mul-le-mul_right}
use Rattle.definitions.specs.Vocabulary.{PixelFormat, Size, FontColor}
use Rattle.pixels.specs.Rooms.{whole_rows}
use Rattle.pixels.proofs.RoomLaws.{holds_rows}
use Rattle.corner.specs.declared.Setting.{Setting}
use Rattle.pictures.specs.declared.whole.Drawing.{Drawing}
use Rattle.pictures.specs.declared.whole.DrawError.{DrawError}
use Rattle.pictures.specs.Drawings.{IsDrawing, IsDrawnAs}
use Rattle.draw_program.specs.Shown.{Held, Showable}

pub showable : (font text : List ℕ) (s : Setting) (color : FontColor) (format : PixelFormat) (before after : List ℕ) (d : Result Drawing DrawError)
    → IsDrawing font text s color format before after d → Showable format d
showable font text s color format before after (Ok d) h = by d.size h
  where
    by : (size : Option Size) → IsDrawnAs font text s color format before after d.dimensions size → IfSome size (Held format)
    by (Some size) h = subst (Held format) h.size_is h.called.fits
    by None h = tt
showable font text s color format before after (Err e) h = tt

-- The rows of the box are among the framebuffer's.
pub box_rows : (format : PixelFormat) (size : Size) → size.height * size.width ≤ whole_rows format size.height * size.width
box_rows format size = mul-le-mul_right size.width (holds_rows format size.height)
