-- How the code's state of measuring line by line is read, what its steps may count on, and what they come to.
use Rattle.std.specs.Prelude.{◌≡◌, List, ℕ, ◌≤◌, ℤ, Result, Ok, Err}
use Rattle.definitions.specs.Vocabulary.{Error, BoundingBox, RenderedDimensions, HorizontalAlignment, Report}
use Rattle.definitions.specs.Refusals.{Outcome, success, refusal, outcome}
use Rattle.definitions.specs.TextSteps as steps
use Rattle.definitions.specs.Font.{u8g2, measured_answer}
use Rattle.definitions.specs.Calls.{code_points_of}
use Rattle.definitions.specs.Sums.{brings, sums}
use Rattle.checks.specs.declared.origin.Pen.{Pen}
use Rattle.layout.specs.Ranges.{Near, LineInReach, LineHasRoom}
use Rattle.text_lines.specs.declared.LineState.{LineState}

abbrev pub as_state : LineState → steps.LineState
as_state s = record { line = s.line; y = s.advance_y; box = s.bounding_box }

abbrev pub state_outcome : Result LineState Error → Outcome steps.LineState
state_outcome (Ok s) = success (as_state s)
state_outcome (Err e) = refusal e

-- A line's box that may be moved so far.
pub record Movable (b : BoundingBox) (x y : ℤ) : Type 0 where
  pub box : LineInReach b
  pub right : Near x
  pub down : Near y

-- Room for a character more.
pub record CanAdd (s : LineState) (pen : Pen) : Type 0 where
  pub room : LineHasRoom pen.origin (as_state s)
  pub line : pen.line_height ≤ 65535

-- The character is added, and brings its steps.
pub record CharAdded (font : List ℕ) (ch : ℕ) (a : HorizontalAlignment) (pen : Pen) (s : LineState) (r : Report LineState) : Type 0 where
  pub added : state_outcome r.result
      ≡ steps.line_step (measured_answer (u8g2 font) pen.ignore_unknown_chars) a pen.line_height pen.origin (as_state s) ch
  pub brought : r.steps ≡ brings (u8g2 font).steps ch

-- The text is measured, and its steps are added up.
pub record TextMeasured (font text : List ℕ) (a : HorizontalAlignment) (pen : Pen) (r : Report RenderedDimensions) : Type 0 where
  pub measured : outcome r.result
      ≡ steps.measure_lines (measured_answer (u8g2 font) pen.ignore_unknown_chars) a pen.line_height pen.origin (code_points_of text)
  pub summed : r.steps ≡ sums (u8g2 font) text (outcome r.result)
