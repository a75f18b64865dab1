-- LineLoopLaws has the loop's step and its ends; here they are applied to the line that was found.
use Rattle.integers.proofs.Prelude.{◌≡◌, refl, ap, ◌≤◌, arith, length}
use Rattle.definitions.proofs.TextLaws.{default_dimensions}
use Rattle.definitions.proofs.SumsLaws.{default_steps}
use Rattle.definitions.specs.Refusals.{outcome}
use Rattle.definitions.specs.Utf8.{newlines}
use Rattle.renderer.specs.Lines.{rest_of}
use Rattle.renderer.proofs.FirstLineLaws.{rest_shorter}
use Rattle.renderer.proofs.LineLoopLaws.{as_text, lines_begin, line_drawable, line_fits, last_counted, last_shown, last_summed, next_turn, next_near}
use Rattle.renderer.proofs.LineLoopLaws.{stopped_counted, stopped_shown, stopped_summed}
use Rattle.renderer.proofs.lines.draw_lines.Goals as goal
use Rattle.renderer.proofs.lines.draw_lines.Goals.{In-Some}

pub loop-error-init : goal.loop-error-init
loop-error-init c =
    let a = c.args in
    simp (default_dimensions c.default-dimensions.ensures, default_steps c.default-steps.ensures)
    (lines_begin a.font.now.bytes.now a.text.now a.buffer.now a.setting a.context c.requires.0.checked)

pub draw_line-drawn-requires : goal.draw_line-drawn-requires
draw_line-drawn-requires c =
    let k = c.requires.0 in
    line_drawable _ _ _ _ _ c.loop-error.invariant k.checked k.fits c.split_line.ensures.line

pub add_steps-sum-requires : goal.add_steps-sum-requires
add_steps-sum-requires c =
    let p = c.requires.0 in
    let o = c.args.font.now.opened in
    line_fits _ _ _ _ _ c.loop-error.invariant c.split_line.ensures.line _ c.draw_line-drawn.ensures refl o.least o.most p.checked.short

pub returns-in-Err : goal.returns-in-Err
returns-in-Err c =
    let i = c.loop-error.invariant in
    let d = c.draw_line-drawn.ensures in
    let is = c.in-Err.is in
    let stop = ap outcome is in
    rw c.stopped.ensures
    (as_text _ _ _ _ _ c.requires.1 _
    (stopped_counted _ _ _ _ _ i c.split_line.ensures.line _ d stop)
    (stopped_shown _ _ _ _ _ i c.split_line.ensures.line _ d stop)
    (stopped_summed _ _ _ _ _ i c.split_line.ensures.line _ d stop refl c.add_steps-sum.ensures refl))

pub returns-in_default : goal.returns-in_default
returns-in_default c =
    let i = c.loop-error.invariant in
    let d = c.draw_line-drawn.ensures in
    let is = c.in-Ok.is in
    let goes = ap outcome is in
    let over : newlines c.loop-error.rest.now ≡ 0 = rw c.in_default.is at c.split_line.ensures.after in
    as_text _ _ _ _ _ c.requires.1 _
    (last_counted _ _ _ _ _ i c.split_line.ensures.line _ d goes refl c.add_steps-sum.ensures over)
    (last_shown _ _ _ _ _ i c.split_line.ensures.line _ d goes refl c.add_steps-sum.ensures over)
    (last_summed _ _ _ _ _ i c.split_line.ensures.line _ d goes refl c.add_steps-sum.ensures over)

-- a newline was found
next_line : (c : In-Some) → (1 ≤ newlines c.loop-error.rest.now) × (c.in-Some.next.now ≡ rest_of c.loop-error.rest.now)
next_line c = rw c.in-Some.is at c.split_line.ensures.after

pub add_newline-dimensions-requires : goal.add_newline-dimensions-requires
add_newline-dimensions-requires c =
    let is = c.in-Ok.is in (
      next_near _ _ _ _ _ c.loop-error.invariant c.split_line.ensures.line _ c.draw_line-drawn.ensures (ap outcome is) refl
          c.add_steps-sum.ensures (next_line (goal.at.add_newline-dimensions-requires c).In-Some).0,
      c.requires.0.checked.line,
    )

pub loop-error-smaller : goal.loop-error-smaller
loop-error-smaller c =
    let n = next_line (goal.at.loop-error-smaller c).In-Some in
    omega (arith, ap length n.1, rest_shorter c.loop-error.rest.now n.0)

pub loop-error-preserved : goal.loop-error-preserved
loop-error-preserved c =
    let is = c.in-Ok.is in
    next_turn _ _ _ _ _ c.loop-error.invariant c.split_line.ensures.line _ c.draw_line-drawn.ensures (ap outcome is) refl
    c.add_steps-sum.ensures (next_line (goal.at.loop-error-preserved c).In-Some).0 c.add_newline-dimensions.ensures (next_line (goal.at.loop-error-preserved c).In-Some).1
