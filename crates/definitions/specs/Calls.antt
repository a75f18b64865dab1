-- SPECIFICATION, Calls: what each call answers, as a function of its inputs; and how the code's answer, an enum, is read.
-- (The redraw step is made of these: crates/redraw/specs/Redraw.antt.)
use Rattle.std.specs.Prelude.{Bool, List, [], ◌∷◌, ◌++◌, ℕ, ◌*◌, pos, nat_abs, ◌+ℤ◌, ◌-ℤ◌}
use Rattle.integers.specs.Integers.{pick}
use Rattle.definitions.specs.Vocabulary.{FontReader, Framebuffer, BoundingBox, Point, Rectangle, RenderedDimensions, FontColor, HorizontalAlignment, VerticalPosition, Placement}
use Rattle.types.specs.declared.style.HorizontalAlignment.TheVariants.{Left}
use Rattle.definitions.specs.Refusals.{Outcome, success, and_then, Cause, unless_refused, any_applies}
use Rattle.definitions.specs.Header.{header, font_causes}
use Rattle.definitions.specs.VerticalOffset.{vertical_offset}
use Rattle.definitions.specs.Utf8.{decode, code_points, newlines}
use Rattle.definitions.specs.Text.{Answer, Layout, point, join_all, dimensions, aligned}
use Rattle.definitions.specs.Font.{Font, measured_answer, drawn_answer, pixels_of}
use Rattle.definitions.specs.Picture.{text_picture}
use Rattle.definitions.specs.Framebuffer.{shown, framebuffer_cause}
use Rattle.definitions.specs.Limits.{text_cause, position_cause, color_cause, background_cause}

-- ---- opening: the header's values and the default line height

unfoldable pub open_font : List ℕ → Outcome FontReader
open_font font = unless_refused (font_causes font) (success (header font))

-- ---- the font box, at the anchor's number with t = 0

abbrev pub font_box : FontReader → VerticalPosition → Rectangle
font_box h v = record {
  top_left = record {
    x = h.font_bounding_box_x_offset;
    y = vertical_offset v (pos 0) h.ascent h.descent -ℤ (h.font_bounding_box_height +ℤ h.font_bounding_box_y_offset);
  };
  size = record {
    width = nat_abs h.font_bounding_box_width;
    height = nat_abs h.font_bounding_box_height;
  };
}

unfoldable pub font_bounding_box : List ℕ → VerticalPosition → Outcome Rectangle
font_bounding_box font v = unless_refused (font_causes font) (success (font_box (header font) v))

-- ---- a text

-- What a call on a text is asked. A plain call asks for Left; a colour is not part of it, since measuring looks at none.
pub record Request : Type 0 where
  pub text : List ℕ
  pub position : Point
  pub anchor : VerticalPosition
  pub align : HorizontalAlignment
  pub line_height : ℕ
  pub skip : Bool

abbrev pub placed : Point → ℕ → Bool → Placement
placed position line_height skip = record { position = position; line_height = line_height; ignore_unknown_chars = skip }

abbrev pub request : List ℕ → Placement → VerticalPosition → HorizontalAlignment → Request
request text p anchor align = record {
  text = text;
  position = p.position;
  anchor = anchor;
  align = align;
  line_height = p.line_height;
  skip = p.ignore_unknown_chars;
}

-- .. of a plain call
abbrev pub plain : List ℕ → Placement → VerticalPosition → Request
plain text p anchor = request text p anchor Left

-- The letters of a text.
abbrev pub code_points_of : List ℕ → List ℕ
code_points_of text = code_points (decode text)

-- The place moved by the anchor, t being the newlines times the line height.
abbrev pub origin : Font → Request → Point
origin font r =
    point
    r.position.x
    (r.position.y +ℤ vertical_offset r.anchor (pos (newlines (code_points_of r.text) * r.line_height)) font.ascent font.descent)

-- Its letters from there on, by what each of them shows, its lines aligned by what each of them measures. With Left this is the
-- plain layout (`left_is_plain`).
abbrev pub laid : Font → Request → (ℕ → Answer) → (ℕ → Answer) → Layout
laid font r measured answers = aligned measured answers r.line_height r.align (origin font r) (code_points_of r.text)

-- ---- measuring

-- The causes of measuring, in order.
abbrev pub measure_causes : Font → Request → List Cause
measure_causes font r = font.causes ++ text_cause r.text ∷ position_cause r.position r.line_height ∷ []

abbrev pub measured_text : Font → Request → Layout
measured_text font r = laid font r (measured_answer font r.skip) (measured_answer font r.skip)

unfoldable pub measure : Font → Request → Outcome RenderedDimensions
measure font r = unless_refused (measure_causes font r) (dimensions (measured_text font r))

-- ---- aligned measuring: the box or none

abbrev pub box_of_layout : Layout → Outcome Point → Outcome BoundingBox
box_of_layout l advance = and_then advance (λ a. success (join_all l.glyphs))

unfoldable pub measure_aligned : Font → Request → Outcome BoundingBox
measure_aligned font r = unless_refused (measure_causes font r) (let l = measured_text font r in box_of_layout l l.advance)

-- ---- drawing

abbrev pub draw_causes : Font → Request → FontColor → Framebuffer → List ℕ → List Cause
draw_causes font r color p buffer =
    font.causes
    ++ framebuffer_cause p buffer
    ∷ text_cause r.text
    ∷ position_cause r.position r.line_height
    ∷ color_cause p.format color
    ∷ background_cause color font.background
    ∷ []

abbrev pub drawn_text : Font → Request → Layout
drawn_text font r = laid font r (measured_answer font r.skip) (drawn_answer font r.skip)

-- What drawing answers ..
unfoldable pub draw : Font → Request → FontColor → Framebuffer → List ℕ → Outcome RenderedDimensions
draw font r color p buffer = unless_refused (draw_causes font r color p buffer) (dimensions (drawn_text font r))

-- .. and what the framebuffer then holds. A refused letter draws nothing, and earlier letters stay.
unfoldable pub draw_buffer : Font → Request → FontColor → Framebuffer → List ℕ → List ℕ
draw_buffer font r color p buffer =
    pick (any_applies (draw_causes font r color p buffer)) buffer
    (shown p (text_picture color (pixels_of font) (drawn_text font r).glyphs) buffer)

-- Aligned drawing answers with the box or none; the framebuffer then holds `draw_buffer` (request A2).
unfoldable pub draw_aligned : Font → Request → FontColor → Framebuffer → List ℕ → Outcome BoundingBox
draw_aligned font r color p buffer =
    unless_refused (draw_causes font r color p buffer) (let l = drawn_text font r in box_of_layout l l.advance)
