-- `fill_bytes`: the columns before `column` are filled where they are visible. Assumes nothing.
use Rattle.std.proofs.Common.{◌≤◌, max}
use Rattle.definitions.specs.Vocabulary.{Bytes}
use Rattle.framebuffer.specs.Columns.{Filled}
use Rattle.framebuffer.proofs.row_writers.fill_bytes.Given as goal

abbrev pub invariant-loop-column : goal.invariant-loop-column
invariant-loop-column l = record { within : l.column ≤ max l.from l.to; filled : Filled Bytes 0 l.first l.from l.column l.value l.initial.part l.part }
