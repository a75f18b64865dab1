-- The first bytes show the pixels so far. Assumes nothing.
use Rattle.std.proofs.Common.{◌≡◌, length, map, take}
use Rattle.picture_text.specs.Marks.{shade}
use Rattle.picture_text.proofs.marks.Given as goal

abbrev pub invariant-loop-i : goal.invariant-loop-i
invariant-loop-i l = record {
  long : length l.bytes ≡ 257;
  shown : take l.i l.bytes ≡ map shade (take l.i l.row);
}
