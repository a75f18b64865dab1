-- The offset of a centred line.
use Rattle.std.specs.Prelude.{ℤ, pos}
use Rattle.definitions.specs.Vocabulary.{BoundingBox}
use Rattle.types.specs.declared.style.HorizontalAlignment.TheVariants.{Center}
use Rattle.definitions.specs.Text.{horizontal_offset}

-- the alignment Center
abbrev pub center_offset : BoundingBox → ℤ
center_offset box = horizontal_offset Center box (pos 0)
