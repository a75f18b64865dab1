-- `utils::span_length` meets its contract: each sum fits by SpanLaws, and what is subtracted is what `span_length` subtracts.
-- Assumes nothing.
use Rattle.integers.proofs.Prelude.{◌≡◌, ◌∙◌, refl, ℤ, ◌-ℤ◌, w32, SFits, to_z, of_z, to_z-of_z}
use Rattle.integers.specs.Integers.{min_z, max_z}
use Rattle.definitions.proofs.JoinLaws.{end}
use Rattle.utils.proofs.StdLaws.{smaller, greater}
use Rattle.utils.proofs.SpanLaws.{end_fits, end_stored, length_fits, length_casts}
use Rattle.utils.proofs.span_length.Goals as goal
use Rattle.utils.proofs.span_length.Goals.{After-min}

-- what `span_length` takes the size of
abbrev difference : After-min → ℤ
difference c = max_z (end c.args.start1 c.args.length1) (end c.args.start2 c.args.length2) -ℤ min_z c.args.start1 c.args.start2

fits : (c : After-min) → SFits w32 (difference c)
fits c = length_fits c.requires

subtracted : (c : After-min) → (to_z w32 (of_z w32 c.max.result) -ℤ to_z w32 (of_z w32 c.min.result)) ≡ difference c
subtracted c =
    let a = c.args in
    let f : SFits w32 c.max.result = record { sfits = c.max.type_inv } in
    let g : SFits w32 c.min.result = record { sfits = c.min.type_inv } in
    let ends = simp (end_stored c.requires.first c.ranges.start1, end_stored c.requires.second c.ranges.start2) at c.max.ensures.value in
    let m = simp (to_z-of_z, end_fits c.requires.first, end_fits c.requires.second) at ends ∙ greater (end a.start1 a.length1) (end a.start2 a.length2) in
    let n = simp (to_z-of_z, c.ranges.start1, c.ranges.start2) at c.min.ensures.value ∙ smaller a.start1 a.start2 in
    simp (to_z-of_z, f, g) (simp (m, n) refl)

pub overflow_sub-result : goal.overflow_sub-result
overflow_sub-result c = simp (subtracted c) (fits c)

pub overflow_cast-result : goal.overflow_cast-result
overflow_cast-result c = simp (subtracted c, to_z-of_z, fits c) (length_casts c.requires)

pub returns : goal.returns
returns c = simp (subtracted c, to_z-of_z, fits c)
