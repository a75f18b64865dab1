-- A font, as texts and pictures see it: what it answers, whatever its bytes are.
use Rattle.std.specs.Prelude.{Bool, List, [], ℕ, ℤ}
use Rattle.definitions.specs.Vocabulary.{GlyphReader, LookupSteps}
use Rattle.definitions.specs.Refusals.{Outcome, success, refused, and_then, Cause}
use Rattle.definitions.specs.Header.{header, font_causes}
use Rattle.definitions.specs.Lookup.{search, steps_of}
use Rattle.definitions.specs.Glyph.{glyph}
use Rattle.definitions.specs.Runs.{Pixels, pixels, cut, glyph_pixels}
use Rattle.definitions.specs.Text.{Answer, answer}

pub record Font : Type 0 where
  pub causes : List Cause  -- `font_causes`, for a font of bytes
  pub ascent : ℤ
  pub descent : ℤ
  pub background : Bool  -- whether a background colour is allowed
  pub glyph : ℕ → Outcome GlyphReader  -- what it answers to a code point
  pub pixels : GlyphReader → Pixels
  pub steps : ℕ → LookupSteps  -- how it found that answer (request A1)

-- a font in the U8g2 format
abbrev pub u8g2 : List ℕ → Font
u8g2 font = record {
  causes = font_causes font;
  ascent = (header font).ascent;
  descent = (header font).descent;
  background = (header font).supports_background_color;
  glyph = glyph font;
  pixels = glyph_pixels font (header font);
  steps = λ c. steps_of (search font c);
}

-- ---- what a letter shows

-- In measuring, which reads no runs.
abbrev pub measured_answer : Font → Bool → ℕ → Answer
measured_answer font skip c = answer skip (font.glyph c)

-- In drawing a glyph whose runs are cut off by the font's end is number 8.
abbrev pub with_runs : ℕ → GlyphReader → Pixels → Outcome GlyphReader
with_runs c g (pixels ps) = success g
with_runs c g cut = refused 8 c

abbrev pub drawable : Font → ℕ → Outcome GlyphReader → Outcome GlyphReader
drawable font c o = and_then o (λ g. with_runs c g (font.pixels g))

abbrev pub drawn_answer : Font → Bool → ℕ → Answer
drawn_answer font skip c = answer skip (drawable font c (font.glyph c))

abbrev pub pixel_list : Pixels → List ℕ
pixel_list (pixels ps) = ps
pixel_list cut = []

-- the pixels of a glyph of the font
abbrev pub pixels_of : Font → GlyphReader → List ℕ
pixels_of font g = pixel_list (font.pixels g)
