-- `widened` meets its contract: each edge is chosen and stored, and ExtentLaws.antt has that it stays in reach. Assumes nothing.
use Rattle.integers.proofs.Prelude.{refl, sym, ap, subst, ◌∙◌, ◌<◌, ◌^◌, ℤ, pos, ◌+ℤ◌, w32, w64, SFits, rules}
use Rattle.integers.proofs.Laws.{stored}
use Rattle.sheet_extent.specs.Extent.{NearExtent}
use Rattle.sheet_extent.proofs.ExtentLaws.{near_widened, least_stored, most_stored, four_edges}
use Rattle.sheet_extent.proofs.extent.widened.Goals as goal

pub returns : goal.returns
returns c =
    let a = c.args in
    let fl : SFits w64 a.extent.left = search rules in
    let ft : SFits w64 a.extent.top = search rules in
    let fr : SFits w64 a.extent.right = search rules in
    let fb : SFits w64 a.extent.bottom = search rules in
    let fx : SFits w32 a.r.top_left.x = search rules in
    let fy : SFits w32 a.r.top_left.y = search rules in
    let fw : a.r.size.width < 2 ^ 32 = search rules in
    let fh : a.r.size.height < 2 ^ 32 = search rules in
    let x = stored w32 fx.sfits refl in
    let y = stored w32 fy.sfits refl in
    let l = least_stored c.min.type_inv c.from.type_inv fl c.min.ensures.value (c.from.ensures ∙ x) in
    let t = least_stored c.min-2.type_inv c.from-2.type_inv ft c.min-2.ensures.value (c.from-2.ensures ∙ y) in
    let width = ap (λ (z : ℤ). z +ℤ pos a.r.size.width) x in
    let r = most_stored c.max.type_inv c.end_edge.type_inv fr c.max.ensures.value (c.end_edge.ensures ∙ width) in
    let height = ap (λ (z : ℤ). z +ℤ pos a.r.size.height) y in
    let m = most_stored c.max-2.type_inv c.end_edge-2.type_inv fb c.max-2.ensures.value (c.end_edge-2.ensures ∙ height) in
    let e = four_edges a.extent a.r l t r m in
    let near = near_widened a.extent a.r c.requires fx fy fw fh in
    (e, subst NearExtent (sym e) near)
