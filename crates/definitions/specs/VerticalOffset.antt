-- SPECIFICATION, Anchors: by how much a text is moved down, with t the newlines times the line height, and a and d
-- the font's ascent and descent.
use Rattle.std.specs.Prelude.{ℤ, pos, ◌+ℤ◌, ◌-ℤ◌}
use Rattle.integers.specs.Integers.{half}
use Rattle.definitions.specs.Vocabulary.{VerticalPosition}
use Rattle.types.specs.declared.style.VerticalPosition.TheVariants.{Baseline, Top, Center, Bottom}

abbrev pub vertical_offset : VerticalPosition → ℤ → ℤ → ℤ → ℤ
vertical_offset Baseline t a d = pos 0
vertical_offset Top t a d = a +ℤ pos 1
vertical_offset Center t a d = half (t +ℤ a -ℤ d +ℤ pos 1) +ℤ d -ℤ t
vertical_offset Bottom t a d = d -ℤ t
