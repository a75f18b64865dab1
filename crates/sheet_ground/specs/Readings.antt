-- The readings of the sheet, and where they are drawn.
use Rattle.std.specs.Prelude.{◌≡◌, false, List, [], ℕ, leb, pos, ◌-ℤ◌}
use Rattle.integers.specs.Integers.{pick}
use Rattle.redraw_checks.specs.Drawing.{Drawing, asked}
use Rattle.angles.specs.AngleText.{angle_text}
use Rattle.definitions.specs.Vocabulary.{Transparent, Place}
use Rattle.definitions.specs.Framebuffer.{BufferFits}
use Rattle.definitions.specs.Limits.{color_off}

-- The text of a reading, -45.0 to +45.0 in tenths, by its number from 0; no text past the last, which is 900.
abbrev pub reading_text : ℕ → List ℕ
reading_text k = pick (leb 901 k) [] (angle_text (pos k -ℤ pos 450))

-- how it is drawn at the place
abbrev pub reading : Place → ℕ → Drawing
reading place k = asked place (reading_text k)

-- The place's framebuffer has so many bytes, and its pixels take the background.
pub record PlaceFits (bytes : ℕ) (place : Place) : Type 0 where
  pub fits : BufferFits bytes place.framebuffer
  pub takes : color_off place.framebuffer.format (Transparent place.background) ≡ false
