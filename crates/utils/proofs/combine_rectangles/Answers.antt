-- Each part is the definition's; std's smaller of two numbers is `min_z` (StdLaws). Assumes nothing.
use Rattle.integers.proofs.Prelude.{◌∙◌, ℤ, w32, to_z, of_z}
use Rattle.std.proofs.Common.{rules}
use Rattle.utils.proofs.StdLaws.{smaller}
use Rattle.utils.proofs.combine_rectangles.Goals as goal

-- a number as it is stored
abbrev stored : ℤ → ℤ
stored a = to_z w32 (of_z w32 a)

pub returns : goal.returns
returns c =
    let p = c.args.r1.top_left in
    let q = c.args.r2.top_left in
    let x = c.min.ensures.value ∙ smaller (stored p.x) (stored q.x) in
    let y = c.min-2.ensures.value ∙ smaller (stored p.y) (stored q.y) in
    search rules
