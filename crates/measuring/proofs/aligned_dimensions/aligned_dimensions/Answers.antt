-- What passes its tests is measured; else the call is refused as its causes say.
use Rattle.measuring.proofs.AlignedLaws.{refused_by, measured_as}
use Rattle.measuring.proofs.aligned_dimensions.aligned_dimensions.Goals as goal

pub returns-in-Err : goal.returns-in-Err
returns-in-Err c = refused_by _ _ _ _ c.args.horizontal_align c.refused.ensures c.in-Err.ensures

pub returns-in-Ok : goal.returns-in-Ok
returns-in-Ok c = measured_as _ _ _ _ c.args.horizontal_align c.in-Ok.ensures.0 c.in-Ok.ensures.1 c.measure_lines.ensures
