-- The parts so far were read.
use Rattle.std.proofs.Common.{◌-◌, drop}
use Rattle.cases.specs.Reading.{rest}
use Rattle.cases.specs.Strings.{number}
use Rattle.cases.proofs.StringLaws.{Reached}
use Rattle.cases.proofs.reader.Reader.bytes.Given as goal

abbrev pub invariant-loop : goal.invariant-loop
invariant-loop l = Reached (number (rest l.fn.self)) (drop 4 (rest l.fn.self)) l.out.items (rest l.self) (l.end - l.counter)
