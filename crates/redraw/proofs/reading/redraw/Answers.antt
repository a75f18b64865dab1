-- The whole box is filled; what that leaves on a ground is `leaves_reading` of StepsLaws.
use Rattle.integers.proofs.Prelude.{rules}
use Rattle.redraw_checks.specs.Drawing.{asked, ground_of}
use Rattle.redraw.specs.Steps.{setting_of, reading_of}
use Rattle.redraw.proofs.RedrawLaws.{left_whole}
use Rattle.redraw.proofs.StepsLaws.{leaves_reading}
use Rattle.redraw.proofs.reading.redraw.Goals as goal

pub returns : goal.returns
returns c =
    let a = c.args in
    let r = c.redraw_filling.ensures in
    let shown = left_whole a.font.now a.old_text.now (asked a.place a.new_text.now) a.place.background (ground_of a.place a.buffer.now)
    (λ box filled f. search rules) r.shown in
    record {
      answered = r.answered;
      shown = shown;
      leaves = leaves_reading (setting_of a.font.now a.place) a.old_text.now (reading_of a.new_text.now a.place.style.color) r.answered shown;
      summed = r.summed;
    }
