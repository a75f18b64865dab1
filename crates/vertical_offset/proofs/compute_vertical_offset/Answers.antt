-- `compute_vertical_offset` meets its contract: every value on the way fits, by OffsetLaws and by the range of the definition's
-- result, so each one is read back as it was stored. Assumes nothing.
use Rattle.std.proofs.Common.{◌≤◌, ◌*◌, ◌∙◌, ℕ, arith, ◌≡◌, pos, w32, to_z, of_z}
use Rattle.integers.proofs.Prelude.{mul-le-mul, T, leb, to_z_pos, to_z-of_z}
use Rattle.integers.proofs.Laws.{stored}
use Rattle.vertical_offset.proofs.OffsetLaws.{CenterFits, center_fits}
use Rattle.vertical_offset.proofs.compute_vertical_offset.Goals as goal
use Rattle.vertical_offset.proofs.compute_vertical_offset.Goals.{After-from-descent}

limit : {n h : ℕ} → n ≤ 4096 → h ≤ 65535 → n * h ≤ 268431360
limit p q = mul-le-mul p q

total_read : {n h : ℕ} → n ≤ 4096 → h ≤ 65535 → to_z w32 (n * h) ≡ pos (n * h)
total_read p q = to_z_pos w32 (omega (arith, limit p q))

-- the ascent and the descent, widened
module _ (c : After-from-descent) where
  ascent_is : to_z w32 (of_z w32 c.from-ascent.result) ≡ c.args.ascent
  ascent_is = stored w32 c.from-ascent.type_inv c.from-ascent.ensures ∙ to_z-of_z c.ranges.ascent

  descent_is : to_z w32 (of_z w32 c.from-descent.result) ≡ c.args.descent
  descent_is = stored w32 c.from-descent.type_inv c.from-descent.ensures ∙ to_z-of_z c.ranges.descent

  -- the facts of the values as they were stored, from those of the values themselves
  center : {k : ℕ} → T (leb k 1)
      → CenterFits (to_z w32 (c.args.newline_count * c.args.line_height)) (to_z w32 (of_z w32 c.from-ascent.result)) (to_z w32 (of_z w32 c.from-descent.result)) k
  center b =
      simp (total_read c.requires.0 c.requires.1, ascent_is, descent_is)
      (center_fits (limit c.requires.0 c.requires.1) c.ranges.ascent c.ranges.descent b)

pub overflow_add-result-in-Center-2 : goal.overflow_add-result-in-Center-2
overflow_add-result-in-Center-2 c = (center (goal.at.overflow_add-result-in-Center-2 c).After-from-descent tt).next

pub overflow_sub-result-in-Center : goal.overflow_sub-result-in-Center
overflow_sub-result-in-Center c = (center (goal.at.overflow_sub-result-in-Center c).After-from-descent tt).offset

pub returns-in-Center : goal.returns-in-Center
returns-in-Center c =
    let k = (goal.at.returns-in-Center c).After-from-descent in
    simp (c.in-Center.is, total_read c.requires.0 c.requires.1, ascent_is k, descent_is k)
    (center_fits (limit c.requires.0 c.requires.1) c.ranges.ascent c.ranges.descent tt).result
