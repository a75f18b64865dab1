-- A reading drawn over the one before, whole or not at all: the one call that the gauge makes.
use Rattle.std.specs.Prelude.{◌≡◌, Bool, true, false, ◌||◌, List, ℕ, ◌<◌, eqb, pos}
use Rattle.integers.specs.Integers.{pick}
use Rattle.definitions.specs.Vocabulary.{Framebuffer, BoundingBox, RenderedDimensions, Place, Report}
use Rattle.definitions.specs.Refusals.{Outcome, success, refused, unless_refused, any_applies}
use Rattle.definitions.specs.Geometry.{InsideBox}
use Rattle.definitions.specs.Framebuffer.{shown}
use Rattle.definitions.specs.Agreement.{Ground, on, pixel, width, height}
use Rattle.checks.specs.declared.origin.Pen.{Pen}
use Rattle.framebuffer.specs.Areas.{fill_picture}
use Rattle.renderer.specs.Texts.{counted_with, drawn_with, TextCounted}
use Rattle.redraw_checks.specs.Drawing.{Drawing, with_text, drawn, after}
use Rattle.redraw_checks.specs.Checks.{redraw_causes}
use Rattle.redraw.specs.Contexts.{context_of}

-- ---- a reading on a ground

-- what a drawing leaves where none may be left half done: the drawing if it succeeded, and the ground if it did not
abbrev pub whole_or : Outcome RenderedDimensions → List ℕ → List ℕ → List ℕ
whole_or (success d) drawing untouched = drawing
whole_or (refused n c) drawing untouched = untouched

-- A checked text is counted, and shown whole or not at all.
pub record ReadingDrawn (font text : List ℕ) (pen : Pen) (place : Place) (before after : List ℕ) (r : Report RenderedDimensions) : Type 0 where
  pub told : TextCounted font text place.horizontal_align pen r
  pub shown : after
      ≡ whole_or (counted_with font text place.horizontal_align pen) (drawn_with font text place.horizontal_align pen (context_of place) before) before

-- What a reading shows on a ground: the ground with the text drawn on it if drawing the text succeeds, and the ground as it was if
-- it does not.
abbrev pub reading_on : List ℕ → Drawing → Ground → List ℕ
reading_on font r p = whole_or (drawn font r p) (after font r p) p.before

-- ---- filling

-- Every pixel of the framebuffer that lies in the box has that colour.
abbrev pub AllOf : ℕ → Ground → BoundingBox → Type 0
AllOf color p box =
    (column row : ℕ) → column < width p → row < height p → InsideBox (pos column) (pos row) box
    → pixel p p.before column row ≡ color

-- The box of a text that draws is filled. A text that does not draw has left nothing, so nothing is filled for it.
abbrev pub cleared_by : Framebuffer → ℕ → Outcome RenderedDimensions → List ℕ → List ℕ
cleared_by p color (success d) bytes = shown p (fill_picture color d.bounding_box) bytes
cleared_by p color (refused n c) bytes = bytes

-- As `cleared_by`, but what is filled is a box that `fills` allows for the text's own.
abbrev pub Cleared : (BoundingBox → BoundingBox → Type 0) → Framebuffer → ℕ → Outcome RenderedDimensions → List ℕ → List ℕ → Type 0
Cleared fills p color (success d) before after =
    (filled : BoundingBox) × fills d.bounding_box filled × (after ≡ shown p (fill_picture color filled) before)
Cleared fills p color (refused n c) before after = after ≡ before

-- ---- the step

-- the framebuffer with the old reading cleared
abbrev pub cleared : List ℕ → Drawing → ℕ → Ground → Ground
cleared font old background p =
    on p.framebuffer (cleared_by p.framebuffer background (drawn font old p) p.before)

-- What the step answers: what drawing the new text does, unless a cause applies to either text ..
unfoldable pub redrawn : List ℕ → List ℕ → Drawing → ℕ → Ground → Outcome RenderedDimensions
redrawn font old new background p = unless_refused (redraw_causes font old new background p) (drawn font new p)

-- .. and what the framebuffer then holds: the new reading on the framebuffer with the old one, which stands in the same place, cleared.
-- Refused by a cause, the step leaves it as it was.
unfoldable pub redrawn_buffer : List ℕ → List ℕ → Drawing → ℕ → Ground → List ℕ
redrawn_buffer font old new background p =
    pick (any_applies (redraw_causes font old new background p)) p.before
    (reading_on font new (cleared font (with_text old new) background p))

-- As `redrawn_buffer`, but that the old reading is cleared by a box that `fills` allows for its own.
pub record RedrawnFilling (fills : BoundingBox → BoundingBox → Type 0) (font old : List ℕ) (new : Drawing) (background : ℕ) (p : Ground)
    (exit : List ℕ) : Type 0 where
  pub refuses : any_applies (redraw_causes font old new background p) ≡ true → exit ≡ p.before
  pub clears : any_applies (redraw_causes font old new background p) ≡ false
      → (between : List ℕ) × Cleared fills p.framebuffer background (drawn font (with_text old new) p) p.before between
      × (exit ≡ reading_on font new (on p.framebuffer between))

-- Whether a step was taken: it succeeded, or a letter of the new text refused it (7 or 8) and the old reading is cleared. A step
-- that one of the other causes refused has changed nothing, and the old reading still stands.
abbrev pub taken : Outcome RenderedDimensions → Bool
taken (success d) = true
taken (refused n c) = eqb n 7 || eqb n 8
