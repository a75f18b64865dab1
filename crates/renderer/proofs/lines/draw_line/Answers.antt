-- The pen is where the definition puts the line; what it then draws is the definition's line.
use Rattle.integers.proofs.Prelude.{◌≡◌, refl, sym, ap, ◌∙◌}
use Rattle.definitions.specs.Refusals.{success, outcome}
use Rattle.renderer.proofs.DrawnLineLaws.{Moved, pen_came, stopped_line, drawn_line}
use Rattle.renderer.proofs.lines.draw_line.Goals as goal
use Rattle.renderer.proofs.lines.draw_line.Goals.{In-Ok}

-- the line was measured
module _ (c : In-Ok) where
  comes : outcome c.align_pen-aligned.result.result ≡ success c.in-Ok.line_pen
  comes = ap outcome c.in-Ok.is

  moved : Moved c.args.font.now.bytes.now c.args.line.now c.args.setting.horizontal_align c.args.setting.pen c.in-Ok.line_pen
  moved = pen_came _ _ _ _ c.in-Ok.line_pen (sym comes ∙ c.align_pen-aligned.ensures.aligned)

-- stopped in measuring
pub returns-in-Err : goal.returns-in-Err
returns-in-Err c =
    rw c.stopped.ensures
    (stopped_line (sym (ap outcome c.in-Err.is) ∙ c.align_pen-aligned.ensures.aligned) c.align_pen-aligned.ensures.counted refl)

pub returns-in-Ok : goal.returns-in-Ok
returns-in-Ok c = drawn_line c.requires.one (moved (goal.at.returns-in-Ok c).In-Ok) c.draw_text.ensures
