-- When a character and the answer to it may be drawn, and what that comes to.
use Rattle.std.specs.Prelude.{◌≡◌, List, ℕ, ◌≤◌}
use Rattle.definitions.specs.Refusals.{outcome}
use Rattle.definitions.specs.Vocabulary.{Point, FontReader, RenderedDimensions, Framebuffer, Report}
use Rattle.definitions.specs.Text.{Answer}
use Rattle.definitions.specs.TextSteps.{step, step_shown}
use Rattle.definitions.specs.Framebuffer.{BufferFits}
use Rattle.definitions.specs.Font.{u8g2, drawn_answer, pixels_of}
use Rattle.definitions.specs.Sums.{brings}
use Rattle.checks.specs.declared.origin.Pen.{Pen}
use Rattle.answers.specs.Answers.{RunsChecked}
use Rattle.layout.specs.Ranges.{HasRoom}
use Rattle.renderer.specs.declared.letters.Context.{Context}

-- The answer may be drawn.
pub record DrawableAnswer (font : List ℕ) (head : FontReader) (l : Answer) (origin : Point) (d : RenderedDimensions) (framebuffer : Framebuffer) (bytes : ℕ) : Type 0 where
  pub runs : RunsChecked font head l
  pub room : HasRoom origin d
  pub fits : BufferFits bytes framebuffer

-- A character may be drawn, whatever the answer.
pub record DrawableChar (pen : Pen) (d : RenderedDimensions) (framebuffer : Framebuffer) (bytes : ℕ) : Type 0 where
  pub room : HasRoom pen.origin d
  pub line : pen.line_height ≤ 65535
  pub fits : BufferFits bytes framebuffer

-- The character is counted, and shown; and it brings its steps.
pub record CharDrawn (font : List ℕ) (ch : ℕ) (d : RenderedDimensions) (pen : Pen) (context : Context) (before after : List ℕ) (r : Report RenderedDimensions) : Type 0 where
  pub counted : outcome r.result ≡ step (drawn_answer (u8g2 font) pen.ignore_unknown_chars) pen.line_height pen.origin d ch
  pub shown : after ≡ step_shown context.framebuffer context.color (pixels_of (u8g2 font))
      (drawn_answer (u8g2 font) pen.ignore_unknown_chars) pen.origin d ch before
  pub brought : r.steps ≡ brings (u8g2 font).steps ch
