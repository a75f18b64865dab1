-- `measure_all` meets its contract: the extent is that of the first k readings. Assumes nothing.
use Rattle.integers.proofs.Prelude.{arith}
use Rattle.sheet_extent.proofs.ExtentLaws.{no_readings, next_reading, all_readings}
use Rattle.sheet_extent.proofs.extent.measure_all.Goals as goal

pub loop-k-init : goal.loop-k-init
loop-k-init c = no_readings c.args.font.now c.args.vertical_pos c.args.horizontal_align (grind arith)

pub loop-k-preserved : goal.loop-k-preserved
loop-k-preserved c =
    let a = c.args in
    let w = c.with_reading-extent.ensures in
    record {
      edges = next_reading a.font.now a.vertical_pos a.horizontal_align c.loop-k.k c.loop-k.invariant.edges w.0;
      near = w.1;
    }

pub returns : goal.returns
returns c = let a = c.args in all_readings a.font.now a.vertical_pos a.horizontal_align (omega arith) c.loop-k.invariant
