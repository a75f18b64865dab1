-- With the fault the narrowed box is filled; without it the step is the gauge's (NarrowLaws).
use Rattle.integers.proofs.Prelude.{sym, ◌∙◌, rules}
use Rattle.redraw_checks.specs.Drawing.{asked, ground_of}
use Rattle.faulty_step.proofs.NarrowLaws.{faultless, left_narrow}
use Rattle.faulty_step.proofs.redraw_on.Goals as goal

pub returns-then-trial-clause-shown : goal.returns-then-trial-clause-shown
returns-then-trial-clause-shown c =
    let a = c.args in
    rw c.if-trial.true (left_narrow a.font.now a.old_text.now (asked a.trial.place a.new_text.now) a.trial.place.background
    (ground_of a.trial.place a.screen.now) (λ box filled f. search rules) c.redraw_filling-report.ensures.shown)

pub returns-else-trial-clause-shown : goal.returns-else-trial-clause-shown
returns-else-trial-clause-shown c = rw c.if-trial.false (c.redraw-report.ensures.shown ∙ sym (faultless _ _ _ _ _))
