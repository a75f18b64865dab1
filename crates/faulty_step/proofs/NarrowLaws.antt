-- The step with the fault and without it. Assumes nothing.
use Rattle.integers.proofs.Prelude.{◌≡◌, refl, true, false, List, ℕ}
use Rattle.definitions.specs.Vocabulary.{BoundingBox, RenderedDimensions}
use Rattle.definitions.specs.Refusals.{Outcome, success, refused}
use Rattle.definitions.specs.Agreement.{Ground}
use Rattle.redraw_checks.specs.Drawing.{Drawing, with_text, drawn}
use Rattle.redraw.specs.Redraw.{RedrawnFilling, redrawn_buffer}
use Rattle.redraw.proofs.RedrawLaws.{with_box, left_by}
use Rattle.faulty_step.specs.Fault.{narrowed_box, to_fill, step_buffer}

narrow_box : (o : Outcome RenderedDimensions) → with_box narrowed_box o ≡ to_fill true o
narrow_box (success d) = refl
narrow_box (refused n c) = refl

module _ (font old : List ℕ) (new : Drawing) (color : ℕ) (p : Ground) where
  -- Without the fault the step is the gauge's ..
  pub faultless : step_buffer false font old new color p ≡ redrawn_buffer font old new color p
  unfolding step_buffer redrawn_buffer
  faultless = refl

  -- .. and with it the narrowed box is filled.
  pub left_narrow : {fills : BoundingBox → BoundingBox → Type 0} {exit : List ℕ}
      → ((box filled : BoundingBox) → fills box filled → filled ≡ narrowed_box box)
      → RedrawnFilling fills font old new color p exit → exit ≡ step_buffer true font old new color p
  unfolding step_buffer
  left_narrow is_narrow h = left_by font old new color p narrowed_box is_narrow (narrow_box (drawn font (with_text old new) p)) h
