-- `draw_at_corner` meets its contract: CornerLaws.antt has what the call comes to. Assumes nothing.
use Rattle.integers.proofs.Prelude.{negsuc, ◌≤ℤ◌, w32, SFits, to_z, of_z, to_z-of_z}
use Rattle.std.proofs.Common.{rules}
use Rattle.integers.proofs.Laws.{stored}
use Rattle.corner.proofs.CornerLaws.{corner_low, corner_drawn}
use Rattle.corner.proofs.draw_at_corner.Goals as goal

-- The opposite of either side fits.
pub opposite-requires : goal.opposite-requires
opposite-requires c =
    let r = c.args.rectangle.top_left in
    let fits_x : SFits w32 r.x = search rules in
    let fits_y : SFits w32 r.y = search rules in
    let near_x : negsuc 1048575 ≤ℤ to_z w32 (of_z w32 r.x) = simp to_z-of_z (corner_low c.requires.measured).0 in
    let near_y : negsuc 1048575 ≤ℤ to_z w32 (of_z w32 r.y) = simp to_z-of_z (corner_low c.requires.measured).1 in
    search rules

pub opposite-requires-2 : goal.opposite-requires-2
opposite-requires-2 c =
    let r = c.args.rectangle.top_left in
    let fits_x : SFits w32 r.x = search rules in
    let fits_y : SFits w32 r.y = search rules in
    let near_x : negsuc 1048575 ≤ℤ to_z w32 (of_z w32 r.x) = simp to_z-of_z (corner_low c.requires.measured).0 in
    let near_y : negsuc 1048575 ≤ℤ to_z w32 (of_z w32 r.y) = simp to_z-of_z (corner_low c.requires.measured).1 in
    search rules

pub returns : goal.returns
returns c =
    let a = c.args in
    let fits_x : SFits w32 a.rectangle.top_left.x = search rules in
    let fits_y : SFits w32 a.rectangle.top_left.y = search rules in
    let x = stored w32 c.opposite.type_inv (simp to_z-of_z at c.opposite.ensures) in
    let y = stored w32 c.opposite-2.type_inv (simp to_z-of_z at c.opposite-2.ensures) in
    let call = c.aligned_drawing-report.ensures in
    corner_drawn a.font.now a.text.now a.setting a.color a.rectangle _ _ a.framebuffer a.buffer.now x y
    c.requires.measured c.requires.framed call.answered call.shown
