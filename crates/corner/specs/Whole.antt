-- A text drawn where all of it is seen: it is measured at (0, 0), and then drawn at the opposite of its box's corner, on the
-- smallest framebuffer that holds its box. How its lines are set, a `Setting`, is the same both times.
use Rattle.std.specs.Prelude.{◌≡◌, false, List, ◌⊎◌, ℕ, pos, ◌-ℤ◌}
use Rattle.definitions.specs.Vocabulary.{Framebuffer, PixelFormat, Some, Point, Rectangle, RenderedDimensions, FontColor}
use Rattle.definitions.specs.Vocabulary.{HorizontalAlignment}
use Rattle.types.specs.declared.style.VerticalPosition.TheVariants.{Baseline}
use Rattle.definitions.specs.Refusals.{Outcome, success, refused}
use Rattle.definitions.specs.Geometry.{left, top}
use Rattle.definitions.specs.Text.{point}
use Rattle.definitions.specs.Font.{u8g2}
use Rattle.definitions.specs.Calls.{Request, placed, request, measure, draw, draw_buffer}
use Rattle.pixels.specs.Rooms.{room_for}
use Rattle.corner.specs.declared.Setting.{Setting}

abbrev pub at_zero : Point
at_zero = point (pos 0) (pos 0)

abbrev pub setting_of : ℕ → HorizontalAlignment → Setting
setting_of line_height align = record { line_height = line_height; align = align }

-- what is asked, for that place
abbrev pub whole : List ℕ → Setting → Point → Request
whole text s position = request text (placed position s.line_height false) Baseline s.align

abbrev pub measured_at_zero : List ℕ → List ℕ → Setting → Outcome RenderedDimensions
measured_at_zero font text s = measure (u8g2 font) (whole text s at_zero)

-- where a text with that box at (0, 0) is drawn
abbrev pub opposite : Rectangle → Point
opposite r = point (pos 0 -ℤ left r) (pos 0 -ℤ top r)

-- the smallest framebuffer that holds the box
abbrev pub room_of : PixelFormat → Rectangle → Framebuffer
room_of format r = room_for format r.size.width r.size.height

-- what drawing there answers, and what the framebuffer, which held `bytes`, then holds
abbrev pub drawn_whole : List ℕ → List ℕ → Setting → FontColor → PixelFormat → Rectangle → List ℕ → Outcome RenderedDimensions
drawn_whole font text s color format r bytes = draw (u8g2 font) (whole text s (opposite r)) color (room_of format r) bytes

abbrev pub shown_whole : List ℕ → List ℕ → Setting → FontColor → PixelFormat → Rectangle → List ℕ → List ℕ
shown_whole font text s color format r bytes = draw_buffer (u8g2 font) (whole text s (opposite r)) color (room_of format r) bytes

abbrev pub boxed : Point → Rectangle → RenderedDimensions
boxed advance r = record { advance = advance; bounding_box = Some r }

-- the rectangle of that size in the framebuffer's corner
abbrev pub in_corner : Rectangle → Rectangle
in_corner r = record { top_left = at_zero; size = r.size }

-- What the answer is: the advance that was measured, and the box in the corner; or a refusal for what measuring does not look at,
-- the background colour (6) and the runs of a glyph (8).
abbrev pub SeenWhole : Point → Rectangle → Outcome RenderedDimensions → Type 0
SeenWhole advance r (success d) = d ≡ boxed advance (in_corner r)
SeenWhole advance r (refused n c) = (n ≡ 6) ⊎ (n ≡ 8)
