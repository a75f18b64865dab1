-- The screen and the totals are those of the first k readings.
use Rattle.std.proofs.Common.{◌≡◌, length}
use Rattle.readings.specs.Sheet.{screen_of, screen_at, totals_to}
use Rattle.sheet_program.proofs.run.run.Given as goal

abbrev pub invariant-loop-k : goal.invariant-loop-k
invariant-loop-k g l = record {
  screen-length : length l.screen ≡ length l.initial.screen;
  alone-length : length l.alone ≡ length l.initial.alone;
  here : screen_of l.old l.screen ≡ screen_at l.trial.narrow l.font l.trial.place l.ground l.k;
  counts : l.totals ≡ totals_to l.trial.narrow l.font l.trial.place l.ground l.k;
}
