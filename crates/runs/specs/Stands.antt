-- Where a reader of runs stands among a glyph's pixels.
use Rattle.std.specs.Prelude.{◌≡◌, true, List, ℕ, ◌+◌, ◌-◌, ◌*◌, ◌≤◌, ◌<◌, length, drop}
use Rattle.definitions.specs.Vocabulary.{FontReader, GlyphReader}
use Rattle.definitions.specs.Header.{Opened}
use Rattle.definitions.specs.Runs.{pixels, glyph_pixels, pixels_from}
use Rattle.definitions.specs.Font.{u8g2, pixels_of}
use Rattle.runs.specs.declared.Runs.{Runs}
use Rattle.runs.specs.declared.Place.{Place}
use Rattle.runs.specs.RunReads.{Short, is_whole}

-- The pixel i of n is the one after `offset` pixels of the pair; `before` pixels lie before the pair.
pub record Stands (font : List ℕ) (m0 m1 n : ℕ) (ps : List ℕ) (runs : Runs) (offset i : ℕ) : Type 0 where
  pub before : ℕ
  pub index : before + offset ≡ i
  pub rest : pixels_from font m0 m1 (n - before) runs.zeros runs.ones runs.bit_pos ≡ pixels (drop before ps)
  pub place : runs.bit_pos < 8 * length font

-- The same of a glyph of a font.
abbrev pub StandsAt : List ℕ → FontReader → GlyphReader → Runs → ℕ → ℕ → Type 0
StandsAt font head g runs offset i = Stands font head.m0 head.m1 (g.glyph_width * g.glyph_height) (pixels_of (u8g2 font) g) runs offset i

-- What the drawing may count on: the runs were checked.
pub record CheckedGlyph (font : List ℕ) (head : FontReader) (g : GlyphReader) : Type 0 where
  pub opened : Opened font head
  pub place : g.bit_pos ≤ 8 * length font
  pub whole : is_whole (glyph_pixels font head g) ≡ true

-- A pixel of such a glyph.
pub record CheckedPixel (font : List ℕ) (head : FontReader) (g : GlyphReader) (pixel : ℕ) : Type 0 where
  pub checked : CheckedGlyph font head g
  pub within : pixel < g.glyph_width * g.glyph_height

-- The place of a glyph's pixel: it lies in the pair.
pub record PlaceOf (font : List ℕ) (head : FontReader) (g : GlyphReader) (pixel : ℕ) (p : Place) : Type 0 where
  pub stands : StandsAt font head g p.runs p.offset pixel
  pub inside : p.offset < p.runs.zeros + p.runs.ones
  pub short : Short p.runs
