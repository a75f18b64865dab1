-- The same text, letter by letter, as a loop goes: each loop's state, what one code point makes of it, and the fold over the
-- code points. TextLaws.antt proves that these are the layouts of Text.antt.
use Rattle.std.specs.Prelude.{List, [], ◌∷◌, ℕ, eqb, ℤ, pos, ◌+ℤ◌}
use Rattle.integers.specs.Integers.{pick}
use Rattle.definitions.specs.Vocabulary.{BoundingBox, None, Some, Point, Rectangle, RenderedDimensions, GlyphReader, FontColor}
use Rattle.definitions.specs.Vocabulary.{HorizontalAlignment, Framebuffer}
use Rattle.definitions.specs.Refusals.{Outcome, success, refused, and_then}
use Rattle.definitions.specs.Geometry.{left, top, join}
use Rattle.definitions.specs.Text.{Answer, shows, nothing, stops, box_at, point, newline, horizontal_offset}
use Rattle.definitions.specs.Picture.{box_picture}
use Rattle.definitions.specs.Framebuffer.{shown}

-- ---- measuring: the state is the advance and the box so far

abbrev pub newline_step : ℕ → RenderedDimensions → RenderedDimensions
newline_step line_height d = record { advance = newline line_height d.advance; bounding_box = d.bounding_box }

-- the box of a glyph that comes next
abbrev pub next_box : Point → RenderedDimensions → GlyphReader → BoundingBox
next_box origin d g = box_at (origin.x +ℤ d.advance.x) (origin.y +ℤ d.advance.y) g

abbrev pub glyph_step : Point → RenderedDimensions → GlyphReader → RenderedDimensions
glyph_step origin d g = record {
  advance = point (d.advance.x +ℤ g.advance) d.advance.y;
  bounding_box = join d.bounding_box (next_box origin d g);
}

abbrev pub answer_step : Point → RenderedDimensions → Answer → Outcome RenderedDimensions
answer_step origin d (shows g) = success (glyph_step origin d g)
answer_step origin d nothing = success d
answer_step origin d (stops n c) = refused n c

abbrev pub step : (ℕ → Answer) → ℕ → Point → RenderedDimensions → ℕ → Outcome RenderedDimensions
step answers line_height origin d c = pick (eqb c 10) (success (newline_step line_height d)) (answer_step origin d (answers c))

unfoldable pub measure_from : (ℕ → Answer) → ℕ → Point → RenderedDimensions → List ℕ → Outcome RenderedDimensions
measure_from answers line_height origin d [] = success d
measure_from answers line_height origin d (c ∷ cs) =
    and_then (step answers line_height origin d c) (λ next. measure_from answers line_height origin next cs)

-- where a text begins
abbrev pub start : RenderedDimensions
start = record { advance = point (pos 0) (pos 0); bounding_box = None }

-- ---- drawing: the framebuffer too is carried along

-- A glyph that comes next is shown; other letters draw nothing.
abbrev pub answer_shown : Framebuffer → FontColor → (GlyphReader → List ℕ) → Point → RenderedDimensions → Answer → List ℕ → List ℕ
answer_shown p color pixels_of origin d (shows g) buffer =
    shown p (box_picture color (pixels_of g) (next_box origin d g)) buffer
answer_shown p color pixels_of origin d nothing buffer = buffer
answer_shown p color pixels_of origin d (stops n c) buffer = buffer

abbrev pub step_shown : Framebuffer → FontColor → (GlyphReader → List ℕ) → (ℕ → Answer) → Point → RenderedDimensions → ℕ → List ℕ → List ℕ
step_shown p color pixels_of answers origin d c buffer =
    pick (eqb c 10) buffer (answer_shown p color pixels_of origin d (answers c) buffer)

-- a refusal leaves what the letters before it drew
abbrev pub or_kept : Outcome RenderedDimensions → List ℕ → (RenderedDimensions → List ℕ) → List ℕ
or_kept (success d) buffer rest = rest d
or_kept (refused n c) buffer rest = buffer

unfoldable pub draw_from : Framebuffer → FontColor → (GlyphReader → List ℕ) → (ℕ → Answer) → ℕ → Point → RenderedDimensions → List ℕ → List ℕ → List ℕ
draw_from p color pixels_of answers line_height origin d buffer [] = buffer
draw_from p color pixels_of answers line_height origin d buffer (c ∷ cs) =
    let after = step_shown p color pixels_of answers origin d c buffer in
    or_kept (step answers line_height origin d c) after (λ next. draw_from p color pixels_of answers line_height origin next after cs)

-- ---- measuring line by line: each line is measured from its own start, and moved once it has ended

abbrev pub moved_rectangle : ℤ → ℤ → Rectangle → Rectangle
moved_rectangle x y r = record { top_left = record { x = x +ℤ left r; y = y +ℤ top r }; size = r.size }

abbrev pub moved_box : ℤ → ℤ → BoundingBox → BoundingBox
moved_box x y None = None
moved_box x y (Some r) = Some (moved_rectangle x y r)

pub record LineState : Type 0 where
  pub line : RenderedDimensions  -- the line's advance and box, counted from the line's start
  pub y : ℤ  -- the advance so far in y
  pub box : BoundingBox  -- the box of the lines that have ended

-- the box with the line, moved to its place
abbrev pub with_line : HorizontalAlignment → Point → LineState → BoundingBox
with_line a origin s =
    join s.box
    (moved_box (origin.x +ℤ horizontal_offset a s.line.bounding_box s.line.advance.x) (origin.y +ℤ s.y) s.line.bounding_box)

abbrev pub next_line : HorizontalAlignment → ℕ → Point → LineState → LineState
next_line a line_height origin s = record { line = start; y = s.y +ℤ pos line_height; box = with_line a origin s }

-- A letter of the line is measured as in plain measuring at (0, 0).
abbrev pub answer_of_line : LineState → Answer → Outcome LineState
answer_of_line s l =
    and_then (answer_step (point (pos 0) (pos 0)) s.line l) (λ line. success record { line = line; y = s.y; box = s.box })

abbrev pub line_step : (ℕ → Answer) → HorizontalAlignment → ℕ → Point → LineState → ℕ → Outcome LineState
line_step answers a line_height origin s c =
    pick (eqb c 10) (success (next_line a line_height origin s)) (answer_of_line s (answers c))

unfoldable pub measure_lines_from : (ℕ → Answer) → HorizontalAlignment → ℕ → Point → LineState → List ℕ → Outcome LineState
measure_lines_from answers a line_height origin s [] = success s
measure_lines_from answers a line_height origin s (c ∷ cs) =
    and_then (line_step answers a line_height origin s c) (λ next. measure_lines_from answers a line_height origin next cs)

abbrev pub start_lines : LineState
start_lines = record { line = start; y = pos 0; box = None }

-- what the lines come to at the end, the last one among them
abbrev pub lines_dimensions : HorizontalAlignment → Point → LineState → RenderedDimensions
lines_dimensions a origin s = record { advance = point s.line.advance.x s.y; bounding_box = with_line a origin s }

abbrev pub measure_lines : (ℕ → Answer) → HorizontalAlignment → ℕ → Point → List ℕ → Outcome RenderedDimensions
measure_lines answers a line_height origin cs =
    and_then (measure_lines_from answers a line_height origin start_lines cs) (λ s. success (lines_dimensions a origin s))
