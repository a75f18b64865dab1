-- A refused drawing is taken back.
use Rattle.integers.proofs.Prelude.{refl, sym, ◌∙◌}
use Rattle.redraw_checks.specs.Drawing.{asked, ground_of}
use Rattle.readings.proofs.AloneLaws.{drawn_alone, refused_alone}
use Rattle.readings.proofs.check.draw_alone.Goals as goal

pub returns-else-is_err : goal.returns-else-is_err
returns-else-is_err c =
    let a = c.args in
    let r = c.render_aligned-drawn.ensures in
    drawn_alone a.font.now (asked a.place a.text.now) (ground_of a.place a.ground.now) c.copy_from_slice.ensures.after r.answered
    c.render_aligned-drawn.result.result r.shown refl (sym c.is_err.ensures.value ∙ c.if-is_err.false)

pub returns-then-is_err : goal.returns-then-is_err
returns-then-is_err c =
    let a = c.args in
    let r = c.render_aligned-drawn.ensures in
    c.copy_from_slice-then-is_err.ensures.after
    ∙ refused_alone a.font.now (asked a.place a.text.now) (ground_of a.place a.ground.now) c.copy_from_slice.ensures.after r.answered
    c.render_aligned-drawn.result.result refl (sym c.is_err.ensures.value ∙ c.if-is_err.true)
