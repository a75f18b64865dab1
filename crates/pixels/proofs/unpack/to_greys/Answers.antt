-- One grey value more. Assumes nothing.
use Rattle.std.proofs.Common.{arith}
use Rattle.std.proofs.lemmas.Grind.{common_steps}
use Rattle.std.proofs.lemmas.List.Edits.{map_over_more}
use Rattle.pixels.specs.Greys.{grey}
use Rattle.pixels.proofs.unpack.to_greys.Goals as goal

pub loop-pixel-preserved : goal.loop-pixel-preserved
loop-pixel-preserved c = grind (arith, common_steps, map_over_more (grey c.args.format))
