-- `side` meets its contract: in 64 bits the sums fit, and ExtentLaws.antt has the tests. Assumes nothing.
use Rattle.integers.proofs.Prelude.{ap, ◌∙◌, ℤ, pos, nat_abs, ◌+ℤ◌, w32, w64, SFits, to_z-of_z, sfits_widen}
use Rattle.integers.proofs.Laws.{zarith, plus, range, stored}
use Rattle.sheet_extent.specs.Extent.{NearEdge}
use Rattle.sheet_extent.proofs.ExtentLaws.{clamped_side}
use Rattle.sheet_extent.proofs.extent.side.Goals as goal

module _ (start end : ℤ) (f : SFits w32 start) (near : NearEdge end) where
  sum_fits : SFits w64 (start +ℤ end)
  sum_fits = omega (zarith, near.low, near.high, plus start end, range f)

  total_fits : SFits w64 (start +ℤ end +ℤ pos 3)
  total_fits = omega (zarith, near.low, near.high, plus start end, plus (start +ℤ end) (pos 3), range f)

pub returns : goal.returns
returns c =
    let a = c.args in
    let f = c.ranges.start in
    let w : SFits w64 a.start = sfits_widen tt f in
    let s = sum_fits a.start a.end f c.requires in
    let t = total_fits a.start a.end f c.requires in
    let h = simp (to_z-of_z, f, w, c.ranges.end, c.from.ensures, s, t) at c.clamp.ensures.value in
    ap nat_abs (stored w64 c.clamp.type_inv h) ∙ clamped_side (a.start +ℤ a.end +ℤ pos 3)
