-- What the loop over the letters keeps (`draw_text`). Assumes nothing.
use Rattle.integers.proofs.Prelude.{List, ℕ}
use Rattle.definitions.specs.Vocabulary.{RenderedDimensions, LookupSteps}
use Rattle.checks.specs.declared.origin.Pen.{Pen}
use Rattle.renderer.specs.declared.letters.Context.{Context}
use Rattle.definitions.specs.Font.{u8g2, drawn_answer, pixels_of}
use Rattle.layout.proofs.SumLoopLaws.{Summed}
use Rattle.renderer.proofs.LetterLaws.{DrawnTo}

pub record DrawingTo (font text before : List ℕ) (pen : Pen) (d₀ : RenderedDimensions) (context : Context) (buffer : List ℕ) (d : RenderedDimensions) (sum : LookupSteps) (left : List ℕ) : Type 0 where
  pub drawn : DrawnTo context.framebuffer context.color (pixels_of (u8g2 font)) (drawn_answer (u8g2 font) pen.ignore_unknown_chars)
      pen.line_height pen.origin text before d₀ buffer d left
  pub summed : Summed font (drawn_answer (u8g2 font) pen.ignore_unknown_chars) text sum left
