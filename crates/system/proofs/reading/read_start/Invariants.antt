-- Each turn reads at least one byte more, behind those that were read. Assumes nothing.
use Rattle.std.proofs.Common.{length, take, ◌-◌, ◌≤◌}
use Rattle.std.specs.Io.KnownBytes.{Consumes}
use Rattle.system.proofs.reading.read_start.Given as goal

abbrev pub invariant-loop-n : goal.invariant-loop-n
invariant-loop-n g l = (l.n ≤ length l.buffer)
    × Consumes (g.I.Read.remaining l.initial.input) (g.I.Read.remaining l.input) (take l.n l.buffer)

abbrev pub decreases-loop-n : goal.decreases-loop-n
decreases-loop-n g l = length l.buffer - l.n
