-- The sums of a near number and an edge of a line's box fit.
use Rattle.integers.proofs.Prelude.{to_z-of_z}
use Rattle.layout.specs.Ranges.{LineRectangle}
use Rattle.text_lines.proofs.LinesLaws.{start_fits, moved_fits}
use Rattle.text_lines.proofs.move_box.Goals as goal

pub returns : goal.returns
returns c =
    let s = c.requires in
    let r : LineRectangle c.in_ok-rectangle.rectangle = simp c.in_ok-rectangle.was at s.box in
    simp c.in_ok-rectangle.was
    (simp
    (to_z-of_z, c.ranges.x, c.ranges.y, start_fits r.columns, start_fits r.rows, moved_fits s.right r.columns, moved_fits s.down r.rows))
