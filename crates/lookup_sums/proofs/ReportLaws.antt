-- An aligned call's report, by what the dimensions come to. Assumes nothing.
use Rattle.std.specs.Prelude.{Result, Ok, Err}
use Rattle.integers.proofs.Prelude.{◌≡◌, refl, sym, ap, ◌∙◌, List, ℕ}
use Rattle.definitions.specs.Vocabulary.{BoundingBox, RenderedDimensions, Report, Error}
use Rattle.definitions.specs.Refusals.{Outcome, outcome}
use Rattle.definitions.specs.Font.{Font}
use Rattle.definitions.specs.Sums.{sums}
use Rattle.definitions.proofs.SumsLaws.{sums_then}
use Rattle.definitions.proofs.TextLaws.{box_alone}
use Rattle.lookup_sums.specs.Reports.{box_result, box_report}

box_outcome : (r : Result RenderedDimensions Error) → outcome (box_result r) ≡ box_alone (outcome r)
box_outcome (Ok d) = refl
box_outcome (Err e) = refl

module _ (font : Font) (text : List ℕ) (report : Report RenderedDimensions) {o : Outcome RenderedDimensions} (e : outcome report.result ≡ o)
    {b : Outcome BoundingBox} (box : b ≡ box_alone o) where
  pub box_answered : outcome (box_report report).result ≡ b
  box_answered = box_outcome report.result ∙ ap box_alone e ∙ sym box

  pub box_summed : report.steps ≡ sums font text o → (box_report report).steps ≡ sums font text b
  box_summed s = s ∙ sym (sums_then font text o (λ d. d.bounding_box)) ∙ ap (sums font text) (sym box)
