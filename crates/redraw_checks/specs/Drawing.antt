-- What the step draws, and on what. Nothing is skipped.
use Rattle.std.specs.Prelude.{false, List, ℕ}
use Rattle.definitions.specs.Vocabulary.{Point, RenderedDimensions, FontColor, HorizontalAlignment, VerticalPosition, Place}
use Rattle.definitions.specs.Refusals.{Outcome}
use Rattle.definitions.specs.Font.{u8g2}
use Rattle.definitions.specs.Calls.{Request, placed, request, measure, draw, draw_buffer}
use Rattle.definitions.specs.Agreement.{Ground, on}

pub record Drawing : Type 0 where
  pub text : List ℕ
  pub position : Point
  pub anchor : VerticalPosition
  pub align : HorizontalAlignment
  pub color : FontColor
  pub line_height : ℕ

abbrev pub asks : Drawing → Request
asks d = request d.text (placed d.position d.line_height false) d.anchor d.align

-- another text in the same place and colour
abbrev pub with_text : List ℕ → Drawing → Drawing
with_text text d = record {
  text = text;
  position = d.position;
  anchor = d.anchor;
  align = d.align;
  color = d.color;
  line_height = d.line_height;
}

-- how a text is drawn at a place, and on what
abbrev pub asked : Place → List ℕ → Drawing
asked place text = record {
  text = text;
  position = place.position;
  anchor = place.style.vertical_pos;
  align = place.horizontal_align;
  color = place.style.color;
  line_height = place.line_height;
}

abbrev pub ground_of : Place → List ℕ → Ground
ground_of place bytes = on place.framebuffer bytes

-- what drawing answers and leaves, and what measuring answers
abbrev pub drawn : List ℕ → Drawing → Ground → Outcome RenderedDimensions
drawn font d p = draw (u8g2 font) (asks d) d.color p.framebuffer p.before

abbrev pub after : List ℕ → Drawing → Ground → List ℕ
after font d p = draw_buffer (u8g2 font) (asks d) d.color p.framebuffer p.before

abbrev pub measured : List ℕ → Drawing → Outcome RenderedDimensions
measured font d = measure (u8g2 font) (asks d)
