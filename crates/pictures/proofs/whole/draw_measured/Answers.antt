-- A text with a box was measured.
use Rattle.integers.proofs.Prelude.{ap}
use Rattle.definitions.specs.Refusals.{outcome}
use Rattle.pictures.proofs.DrawingLaws.{measured_box}
use Rattle.pictures.proofs.whole.draw_measured.Goals as goal

pub draw_box-requires : goal.draw_box-requires
draw_box-requires c =
    let is = ap outcome c.in_ok-dimensions.was in
    record { measured = measured_box c.requires.0 c.aligned_dimensions-measured.ensures.answered is c.in-Some.is; drawable = c.requires.1 }
