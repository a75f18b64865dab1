-- The parts so far were read.
use Rattle.std.proofs.Common.{◌-◌, ◌≤◌, length, take}
use Rattle.cases.specs.Reading.{number_or_zero, passed}
use Rattle.cases.proofs.CutStringLaws.{Reached}
use Rattle.cases.proofs.reader.Reader.bytes_in.Given as goal

abbrev pub invariant-loop : goal.invariant-loop
invariant-loop l = record {
  within : l.len ≤ length l.fn.room;
  reached : Reached (length l.fn.room) (number_or_zero l.fn.self) (passed 4 l.fn.self) (take l.len l.room) l.self (l.end - l.counter);
}
