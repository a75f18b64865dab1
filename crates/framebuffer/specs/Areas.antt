-- The part of a rectangle that the framebuffer shows, and a box filled with one colour.
use Rattle.std.specs.Prelude.{ℕ, ◌-◌, ◌≤◌, ltb, ℤ, pos, nat_abs}
use Rattle.std.specs.Int.Signed.{lt_z}
use Rattle.integers.specs.Integers.{pick}
use Rattle.definitions.specs.Vocabulary.{BoundingBox, None, Some, Rectangle, Framebuffer}
use Rattle.definitions.specs.Picture.{keep, put, Picture, covers}
use Rattle.definitions.specs.Framebuffer.{BufferFits}

-- the nearest number from 0 to the limit
unfoldable pub clamped : ℤ → ℕ → ℕ
clamped x limit = pick (lt_z x (pos 0)) 0 (pick (ltb limit (nat_abs x)) limit (nat_abs x))

-- the columns from `left` to before `right` in the rows from `top` to before `bottom`
abbrev pub area : (left right top bottom : ℕ) → Rectangle
area left right top bottom = record { top_left = record { x = pos left; y = pos top }; size = record { width = right - left; height = bottom - top } }

-- Such an area lies on the framebuffer, whose buffer has so many bytes.
pub record AreaFits (bytes : ℕ) (p : Framebuffer) (left right top bottom : ℕ) : Type 0 where
  pub fits : BufferFits bytes p
  pub columns : left ≤ right
  pub within : right ≤ p.width
  pub rows : top ≤ bottom
  pub below : bottom ≤ p.height

-- a box full of one colour
abbrev pub fill_picture : ℕ → BoundingBox → Picture
fill_picture color None column row = keep
fill_picture color (Some r) column row = pick (covers r column row) (put color) keep
