-- The place that is asked for so far is within the limits. Assumes nothing.
use Rattle.sheet_options.specs.Limits.{WithinLimits}
use Rattle.sheet_options.proofs.read.Given as goal

abbrev pub invariant-loop-word : goal.invariant-loop-word
invariant-loop-word g l = WithinLimits l.options
