-- The step of the gauge with a fault put in: of the old reading one column too few is filled.
use Rattle.std.specs.Prelude.{Bool, true, false, List, ℕ, ◌-◌}
use Rattle.integers.specs.Integers.{pick}
use Rattle.definitions.specs.Vocabulary.{BoundingBox, None, Some, RenderedDimensions}
use Rattle.definitions.specs.Refusals.{Outcome, success, refused, any_applies}
use Rattle.definitions.specs.Agreement.{on, Ground}
use Rattle.redraw_checks.specs.Drawing.{Drawing, with_text, drawn}
use Rattle.redraw_checks.specs.Checks.{redraw_causes}
use Rattle.redraw.specs.Redraw.{reading_on, cleared_by}

-- a box one column too narrow
abbrev pub narrowed_box : BoundingBox → BoundingBox
narrowed_box None = None
narrowed_box (Some r) = Some record {
  top_left = r.top_left;
  size = record { width = r.size.width - 1; height = r.size.height };
}

-- What is filled of the old reading: its box, or with the fault put in one column less.
abbrev pub to_fill : Bool → Outcome RenderedDimensions → Outcome RenderedDimensions
to_fill true (success d) = success record { advance = d.advance; bounding_box = narrowed_box d.bounding_box }
to_fill true (refused n c) = refused n c
to_fill false o = o

-- What the step leaves, with the fault or without: without it `redrawn_buffer`. What it answers is `redrawn` either way.
unfoldable pub step_buffer : Bool → List ℕ → List ℕ → Drawing → ℕ → Ground → List ℕ
step_buffer narrow font old new color p =
    pick (any_applies (redraw_causes font old new color p)) p.before
    (reading_on font new
    (on p.framebuffer (cleared_by p.framebuffer color (to_fill narrow (drawn font (with_text old new) p)) p.before)))
