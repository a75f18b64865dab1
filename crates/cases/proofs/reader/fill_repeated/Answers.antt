-- A piece more was written; or nothing is to come, or the room is full.
use Rattle.std.proofs.Common.{rules, arith, eqb-true}
use Rattle.std.proofs.lemmas.List.{length-take-le}
use Rattle.cases.proofs.CutLaws.{again, cut_piece, none, full}
use Rattle.cases.proofs.reader.fill_repeated.Goals as goal
use Rattle.cases.proofs.reader.fill_repeated.Goals.{then-is_empty-via-then-is_empty}
use Rattle.cases.proofs.reader.fill_repeated.Goals.{then-is_empty-via-else-is_empty+then-filled-room}

pub loop-preserved : goal.loop-preserved
loop-preserved c = record {
  within = omega arith;
  holds = again c.args.piece.now c.loop.invariant.holds (omega arith)
      (cut_piece c.loop.room c.args.piece.now c.copy_from_slice.new.self _ c.loop.auto.room (omega arith)
      (rw c.loop.auto.room at c.min-count.ensures) (search rules));
}

pub returns-then-is_empty-clause-filled : goal.returns-then-is_empty-clause-filled
returns-then-is_empty-clause-filled c =
    elim c.then-is_empty.branch [
      | then-is_empty-via-then-is_empty w ↦ none _ c.args.piece.now (eqb-true _ _ (search rules)) c.loop.invariant.holds
      | then-is_empty-via-else-is_empty+then-filled-room w ↦
          full c.loop.invariant.holds (omega (arith, length-take-le c.loop.filled c.loop.room (omega arith)))
    ]
