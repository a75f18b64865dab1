-- `fill_rows`: the rows above the next one are filled. Assumes nothing.
use Rattle.integers.proofs.Prelude.{◌≡◌, ◌≤◌, ◌<◌}
use Rattle.framebuffer.proofs.FillLaws.{filled_to}
use Rattle.framebuffer.proofs.fill.fill_rows.Given as goal

abbrev pub invariant-loop-row : goal.invariant-loop-row
invariant-loop-row l = record {
  end : l.row-iterator.end ≡ l.fn.rows.end;
  begun : l.fn.rows.start ≤ l.row-iterator.start;
  within : l.row-iterator.start ≤ l.fn.rows.end;
  filled : (some : 0 < l.framebuffer.width) → l.buffer ≡ filled_to l.framebuffer some l.color l.columns.start l.columns.end l.fn.rows.start l.initial.buffer l.row-iterator.start;
}
