-- The first pixels are grey values, and the others are as they were. Assumes nothing.
use Rattle.std.proofs.Common.{◌≡◌, map, take, drop, ◌++◌}
use Rattle.pixels.specs.Greys.{grey}
use Rattle.pixels.proofs.unpack.to_greys.Given as goal

abbrev pub invariant-loop-pixel : goal.invariant-loop-pixel
invariant-loop-pixel l = l.pixels ≡ map (grey l.format) (take l.pixel-index l.initial.pixels) ++ drop l.pixel-index l.initial.pixels
