-- The edges of all readings, and the framebuffer and the place that follow from them.
use Rattle.std.specs.Prelude.{◌≡◌, false, List, ℕ, zero, suc, ◌+◌, ◌<◌, min, max, ℤ, pos, negsuc, ◌+ℤ◌, ◌≤ℤ◌, Option}
use Rattle.integers.specs.Integers.{min_z, max_z}
use Rattle.definitions.specs.Vocabulary.{BoundingBox, None, Some, Point, Rectangle, RenderedDimensions, PixelFormat, Bytes, Packed}
use Rattle.definitions.specs.Vocabulary.{Transparent, HorizontalAlignment, VerticalPosition, Place}
use Rattle.definitions.specs.Refusals.{Outcome, success, refused}
use Rattle.definitions.specs.Geometry.{left, top, right, bottom, InsideBox}
use Rattle.definitions.specs.Text.{point}
use Rattle.definitions.specs.Font.{u8g2}
use Rattle.definitions.specs.Calls.{placed, request, measure}
use Rattle.pixels.specs.Rooms.{room_for}
use Rattle.redraw_checks.specs.Drawing.{measured}
use Rattle.sheet_extent.specs.declared.values.Extent.{Extent}
use Rattle.sheet_extent.specs.declared.values.Options.{Options}
use Rattle.sheet_ground.specs.Readings.{reading_text, reading}
use Rattle.sight.specs.Sights.{OnFramebuffer}

-- ---- the edges

-- what a reading measures at (0, 0), in one line
abbrev pub at_origin : List ℕ → VerticalPosition → HorizontalAlignment → ℕ → Outcome RenderedDimensions
at_origin font v a k = measure (u8g2 font) (request (reading_text k) (placed (point (pos 0) (pos 0)) 0 false) v a)

abbrev pub widened : Extent → Rectangle → Extent
widened e r = record {
  left = min_z e.left (left r);
  top = min_z e.top (top r);
  right = max_z e.right (right r);
  bottom = max_z e.bottom (bottom r);
}

abbrev pub with_box : Extent → BoundingBox → Extent
with_box e None = e
with_box e (Some r) = widened e r

abbrev pub with_reading : Extent → Outcome RenderedDimensions → Extent
with_reading e (success d) = with_box e d.bounding_box
with_reading e (refused n c) = e

-- the origin alone, then the boxes of the first k readings
unfoldable pub extent_of : List ℕ → VerticalPosition → HorizontalAlignment → ℕ → Extent
extent_of font v a zero = record { left = pos 0; top = pos 0; right = pos 0; bottom = pos 0 }
extent_of font v a (suc k) = with_reading (extent_of font v a k) (at_origin font v a k)

-- The rectangle lies between the edges.
pub record Within (r : Rectangle) (e : Extent) : Type 0 where
  pub from_left : e.left ≤ℤ left r
  pub from_top : e.top ≤ℤ top r
  pub to_right : right r ≤ℤ e.right
  pub to_bottom : bottom r ≤ℤ e.bottom

-- Each of the first n readings that has a box lies between them.
abbrev pub HoldsReadings : ℕ → List ℕ → VerticalPosition → HorizontalAlignment → Extent → Type 0
HoldsReadings n font v a e =
    (k : ℕ) → k < n → (d : RenderedDimensions) → at_origin font v a k ≡ success d
    → (r : Rectangle) → d.bounding_box ≡ Some r → Within r e

-- Edges far inside 64 bits, so that a coordinate and the margin can be added.
pub record NearEdge (z : ℤ) : Type 0 where
  pub low : negsuc 8589934591 ≤ℤ z
  pub high : z ≤ℤ pos 8589934592

pub record NearExtent (e : Extent) : Type 0 where
  pub left : NearEdge e.left
  pub top : NearEdge e.top
  pub right : NearEdge e.right
  pub bottom : NearEdge e.bottom

-- The edges of all readings.
pub record AllMeasured (font : List ℕ) (v : VerticalPosition) (a : HorizontalAlignment) (e : Extent) : Type 0 where
  pub edges : e ≡ extent_of font v a 901
  pub between : HoldsReadings 901 font v a e
  pub near : NearExtent e

-- ---- place and framebuffer; the margin is 3 pixels

-- how far an edge lies before 0, at most 1000: a framebuffer has at most 256 pixels
abbrev pub before_zero : ℤ → ℕ
before_zero (pos n) = 0
before_zero (negsuc n) = min 1000 (suc n)

-- where the readings stand so that their first edge lies past the margin
abbrev pub inside : ℤ → ℤ
inside edge = pos (3 + before_zero edge)

abbrev pub position_for : Option Point → Extent → Point
position_for None e = point (inside e.left) (inside e.top)
position_for (Some p) e = p

-- A side of 1 to 256 pixels.
abbrev pub side_of : ℤ → ℕ
side_of (pos n) = max 1 (min 256 n)
side_of (negsuc n) = 1

-- from the framebuffer's first pixel to the margin past the readings' last edge
abbrev pub side : ℤ → ℤ → ℕ
side start end = side_of (start +ℤ end +ℤ pos 3)

-- what ink 0 stands on: 255, and on a packed framebuffer 1, its other colour
abbrev pub background_of : PixelFormat → ℕ
background_of Bytes = 255
background_of Packed = 1

abbrev pub place_at : Options → Point → Extent → Place
place_at o p e = record {
  position = p;
  style = record { color = Transparent 0; vertical_pos = o.vertical_pos };
  horizontal_align = o.horizontal_align;
  line_height = 0;
  background = background_of o.format;
  framebuffer = room_for o.format (side p.x e.right) (side p.y e.bottom);
}

unfoldable pub place_for : List ℕ → Options → Place
place_for font o =
    let e = extent_of font o.vertical_pos o.horizontal_align 901 in
    place_at o (position_for o.at e) e

-- ---- all of it is seen

-- No side is cut off at 256 pixels.
abbrev pub Uncut : Place → Extent → Type 0
Uncut place e =
    ((place.position.x +ℤ e.right +ℤ pos 3) ≤ℤ pos 256) × ((place.position.y +ℤ e.bottom +ℤ pos 3) ≤ℤ pos 256)

-- Every pixel of every reading's box lies on the framebuffer.
abbrev pub AllSeen : List ℕ → Place → Type 0
AllSeen font place =
    (k : ℕ) → k < 901 → (d : RenderedDimensions) → measured font (reading place k) ≡ success d
    → (column row : ℤ) → InsideBox column row d.bounding_box → OnFramebuffer place.framebuffer column row
