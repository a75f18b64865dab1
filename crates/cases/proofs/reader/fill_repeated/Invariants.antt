-- The room holds the pieces so far. Assumes nothing.
use Rattle.std.proofs.Common.{◌-◌, ◌≤◌, length, take}
use Rattle.std.specs.List.{repeat}
use Rattle.cases.proofs.CutLaws.{Holds}
use Rattle.cases.proofs.reader.fill_repeated.Given as goal

abbrev pub invariant-loop : goal.invariant-loop
invariant-loop l = record {
  within : l.filled ≤ length l.fn.room;
  holds : Holds (length l.fn.room) (repeat l.times l.piece) (take l.filled l.room) (repeat (l.times - l.counter) l.piece);
}
