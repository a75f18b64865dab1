-- How much of a text that was drawn is seen on a framebuffer.
use Rattle.std.specs.Prelude.{ℕ, ℤ, pos, ◌+ℤ◌, ◌≤ℤ◌, ◌<ℤ◌}
use Rattle.std.specs.Int.Signed.{le_z, lt_z}
use Rattle.integers.specs.Integers.{pick}
use Rattle.definitions.specs.Vocabulary.{Framebuffer, BoundingBox, Option, None, Some, RenderedDimensions}
use Rattle.definitions.specs.Refusals.{Outcome, success, refused}
use Rattle.definitions.specs.Geometry.{left, top}
use Rattle.sight.specs.declared.Sight.{Sight}
use Rattle.sight.specs.declared.Sight.TheVariants.{Whole, Part, Unseen}

-- in one direction: pixels from `start` on, beside a side of the framebuffer
abbrev pub side_seen : ℤ → ℕ → ℕ → Sight
side_seen start len side =
    pick (le_z (start +ℤ pos len) (pos 0)) Unseen
    (pick (le_z (pos side) start) Unseen
    (pick (lt_z start (pos 0)) Part
    (pick (lt_z (pos side) (start +ℤ pos len)) Part Whole)))

abbrev pub at_most_part : Sight → Sight
at_most_part Whole = Part
at_most_part Part = Part
at_most_part Unseen = Unseen

abbrev pub both_seen : Sight → Sight → Sight
both_seen Whole rows = rows
both_seen Part rows = at_most_part rows
both_seen Unseen rows = Unseen

-- A text without a pixel is not seen.
abbrev pub box_seen : Framebuffer → BoundingBox → Sight
box_seen p None = Unseen
box_seen p (Some r) = both_seen (side_seen (left r) r.size.width p.width) (side_seen (top r) r.size.height p.height)

-- none of a refused one
abbrev pub sight_of : Framebuffer → Outcome RenderedDimensions → Option Sight
sight_of p (success d) = Some (box_seen p d.bounding_box)
sight_of p (refused n c) = None

-- ---- what it means

-- a pixel of the framebuffer
pub record OnFramebuffer (p : Framebuffer) (column row : ℤ) : Type 0 where
  pub from_left : pos 0 ≤ℤ column
  pub to_right : column <ℤ pos p.width
  pub from_top : pos 0 ≤ℤ row
  pub to_bottom : row <ℤ pos p.height
