-- The loop's invariant: the rest of the table, with the sum and the entries so far, answers as the whole table does. The sum grows
-- by less than 65536 an entry, so it stays far below 2 to the power 64.
use Rattle.unicode_jumptable_reader.proofs.TableLaws.{SummedTo}
use Rattle.unicode_jumptable_reader.proofs.calculate_jump_offset.Given as goal

abbrev pub invariant-loop-before : goal.invariant-loop-before
invariant-loop-before l = SummedTo l.table l.encoding l.jump_offset l.before
