-- Where an aligned line begins: at the pen, moved by the offset that the line, measured from its own start, has.
use Rattle.std.specs.Prelude.{◌≡◌, Bool, List, ℕ, ℤ, pos, ◌+ℤ◌}
use Rattle.definitions.specs.Vocabulary.{RenderedDimensions, HorizontalAlignment, Report}
use Rattle.definitions.specs.Refusals.{Outcome, success, and_then, outcome}
use Rattle.definitions.specs.Text.{Layout, join_all, point, letters, horizontal_offset}
use Rattle.definitions.specs.Font.{u8g2, measured_answer}
use Rattle.definitions.specs.Calls.{code_points_of}
use Rattle.definitions.specs.Sums.{sums}
use Rattle.checks.specs.declared.origin.Pen.{Pen}
use Rattle.checks.specs.Origins.{CheckedLine}
use Rattle.layout.specs.Ranges.{Near, LineInReach}

abbrev pub measured_line : List ℕ → Bool → List ℕ → Layout
measured_line font skip text =
    letters (measured_answer (u8g2 font) skip) (point (pos 0) (pos 0)) (point (pos 0) (pos 0)) (code_points_of text)

abbrev pub moved_by : Pen → ℤ → Pen
moved_by pen x = record {
  origin = point (pen.origin.x +ℤ x) pen.origin.y;
  line_height = pen.line_height;
  ignore_unknown_chars = pen.ignore_unknown_chars;
}

-- by a line that was measured to these dimensions
abbrev pub pen_of_line : HorizontalAlignment → Pen → RenderedDimensions → Pen
pen_of_line a pen line = moved_by pen (horizontal_offset a line.bounding_box line.advance.x)

-- Near enough that the pen can be moved by it.
pub record MovesPen (a : HorizontalAlignment) (pen : Pen) (line : RenderedDimensions) : Type 0 where
  pub box : LineInReach line.bounding_box
  pub end : Near line.advance.x
  pub from : Near pen.origin.x
  pub by : Near (horizontal_offset a line.bounding_box line.advance.x)

abbrev pub aligned_pen : HorizontalAlignment → Pen → Layout → Outcome Pen
aligned_pen a pen line =
    and_then line.advance (λ end. success (moved_by pen (horizontal_offset a (join_all line.glyphs) end.x)))

pub record PenAligned (font text : List ℕ) (a : HorizontalAlignment) (pen : Pen) (r : Report Pen) : Type 0 where
  pub aligned : outcome r.result ≡ aligned_pen a pen (measured_line font pen.ignore_unknown_chars text)
  pub counted : r.steps ≡ sums (u8g2 font) text (measured_line font pen.ignore_unknown_chars text).advance
  -- the line may be drawn from there
  pub placed : (p : Pen) → outcome r.result ≡ success p → CheckedLine text p.origin p.line_height
