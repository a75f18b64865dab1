-- When a text may be drawn, and what it comes to: what is answered, with which sums, and what the framebuffer then holds.
use Rattle.std.specs.Prelude.{◌≡◌, List, ℕ}
use Rattle.definitions.specs.Vocabulary.{Point, RenderedDimensions, Framebuffer, HorizontalAlignment, Report}
use Rattle.types.specs.declared.style.HorizontalAlignment.TheVariants.{Left, Center, Right}
use Rattle.definitions.specs.Refusals.{Outcome, success, outcome}
use Rattle.definitions.specs.Geometry.{join, InReach}
use Rattle.definitions.specs.Utf8.{newlines}
use Rattle.definitions.specs.Text.{Answer, Layout, join_all, dimensions_of, dimensions, moved_line, aligned}
use Rattle.definitions.specs.TextSteps.{measure_from, draw_from}
use Rattle.definitions.specs.Font.{u8g2, measured_answer, drawn_answer, pixels_of}
use Rattle.definitions.specs.Picture.{text_picture}
use Rattle.definitions.specs.Framebuffer.{shown, BufferFits}
use Rattle.definitions.specs.Calls.{code_points_of}
use Rattle.definitions.specs.Sums.{sums}
use Rattle.checks.specs.declared.origin.Pen.{Pen}
use Rattle.checks.specs.Origins.{Checked, CheckedLine}
use Rattle.layout.specs.Ranges.{Within}
use Rattle.renderer.specs.declared.letters.Context.{Context}
use Rattle.renderer.specs.declared.lines.LineSetting.{LineSetting}

-- ---- letters, from the dimensions so far on

-- A line, or a whole text, room for it after what comes before, and a buffer for the framebuffer.
pub record DrawableLetters (text : List ℕ) (pen : Pen) (before : RenderedDimensions) (framebuffer : Framebuffer) (bytes : ℕ) : Type 0 where
  pub checked : CheckedLine text pen.origin pen.line_height
  pub room : Within pen.line_height 0 (code_points_of text) before
  pub fits : BufferFits bytes framebuffer

-- what each letter answers in measuring, and in drawing
abbrev pub measured_by : List ℕ → Pen → ℕ → Answer
measured_by font pen = measured_answer (u8g2 font) pen.ignore_unknown_chars

abbrev pub drawn_by : List ℕ → Pen → ℕ → Answer
drawn_by font pen = drawn_answer (u8g2 font) pen.ignore_unknown_chars

-- The letters are counted and shown, and their steps are added up.
pub record LettersDrawn (font text : List ℕ) (pen : Pen) (d : RenderedDimensions) (context : Context) (before after : List ℕ) (r : Report RenderedDimensions) : Type 0 where
  pub counted : outcome r.result ≡ measure_from (drawn_by font pen) pen.line_height pen.origin d (code_points_of text)
  pub shown : after ≡ draw_from context.framebuffer context.color (pixels_of (u8g2 font)) (drawn_by font pen)
      pen.line_height pen.origin d before (code_points_of text)
  pub summed : r.steps ≡ sums (u8g2 font) text (outcome r.result)
  pub reach : (e : RenderedDimensions) → outcome r.result ≡ success e → InReach e.bounding_box

-- ---- a line, measured and then drawn, with the dimensions before it

pub record DrawableLine (text : List ℕ) (s : LineSetting) (d : RenderedDimensions) (framebuffer : Framebuffer) (bytes : ℕ) : Type 0 where
  pub checked : Checked text s.pen.origin s.pen.line_height
  pub one : newlines (code_points_of text) ≡ 0
  pub room : Within s.pen.line_height 0 (code_points_of text) d
  pub fits : BufferFits bytes framebuffer

abbrev pub line_laid : List ℕ → HorizontalAlignment → Pen → Point → List ℕ → Layout
line_laid font a pen = moved_line a (measured_by font pen) (drawn_by font pen) pen.origin

pub record LineDrawn (font text : List ℕ) (s : LineSetting) (d : RenderedDimensions) (context : Context) (before after : List ℕ) (r : Report RenderedDimensions) : Type 0 where
  pub counted : outcome r.result
      ≡ (let l = line_laid font s.horizontal_align s.pen d.advance (code_points_of text) in
      dimensions_of (join d.bounding_box (join_all l.glyphs)) l.advance)
  pub painted : after
      ≡ shown context.framebuffer
      (text_picture context.color (pixels_of (u8g2 font)) (line_laid font s.horizontal_align s.pen d.advance (code_points_of text)).glyphs) before
  pub summed : r.steps ≡ sums (u8g2 font) text (outcome r.result)
  pub reach : (e : RenderedDimensions) → outcome r.result ≡ success e → InReach e.bounding_box

-- ---- a text, aligned

-- The alignments that move lines, which are measured for it.
abbrev pub Moves : HorizontalAlignment → Type 0
Moves Left = ⊥
Moves Center = Unit {0}
Moves Right = Unit {0}

-- A checked text, and a buffer for the framebuffer.
-- (It stays a clause, of a text, a pen and a framebuffer whose buffer is lent beside it: no one struct has all of them.)
pub record DrawableText (text : List ℕ) (pen : Pen) (framebuffer : Framebuffer) (bytes : ℕ) : Type 0 where
  pub checked : Checked text pen.origin pen.line_height
  pub fits : BufferFits bytes framebuffer

abbrev pub laid_with : List ℕ → List ℕ → HorizontalAlignment → Pen → Layout
laid_with font text a pen =
    aligned (measured_by font pen) (drawn_by font pen) pen.line_height a pen.origin (code_points_of text)

abbrev pub counted_with : List ℕ → List ℕ → HorizontalAlignment → Pen → Outcome RenderedDimensions
counted_with font text a pen = dimensions (laid_with font text a pen)

abbrev pub drawn_with : List ℕ → List ℕ → HorizontalAlignment → Pen → Context → List ℕ → List ℕ
drawn_with font text a pen context buffer =
    shown context.framebuffer (text_picture context.color (pixels_of (u8g2 font)) (laid_with font text a pen).glyphs) buffer

-- The text is counted, and its steps are added up ..
pub record TextCounted (font text : List ℕ) (a : HorizontalAlignment) (pen : Pen) (r : Report RenderedDimensions) : Type 0 where
  pub counted : outcome r.result ≡ counted_with font text a pen
  pub summed : r.steps ≡ sums (u8g2 font) text (outcome r.result)

-- .. and it is shown.
pub record TextDrawn (font text : List ℕ) (a : HorizontalAlignment) (pen : Pen) (context : Context) (before after : List ℕ) (r : Report RenderedDimensions) : Type 0 where
  pub told : TextCounted font text a pen r
  pub shown : after ≡ drawn_with font text a pen context before
