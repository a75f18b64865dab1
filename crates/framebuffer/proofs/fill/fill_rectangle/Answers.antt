-- `fill_rectangle` meets its contract: what the framebuffer shows of the rectangle lies between the edges that are computed.
-- Assumes nothing.
use Rattle.integers.proofs.Prelude.{refl, ◌∙◌, w32, SFits, to_z-of_z}
use Rattle.std.proofs.Common.{rules}
use Rattle.framebuffer.proofs.FillLaws.{edges_fit, edges_shown}
use Rattle.framebuffer.proofs.fill.fill_rectangle.Goals as goal

pub fill_rows-requires : goal.fill_rows-requires
fill_rows-requires c =
    let r = c.args.rectangle in
    let x : SFits w32 r.top_left.x = search rules in
    let y : SFits w32 r.top_left.y = search rules in
    edges_fit r c.requires
    (simp (to_z-of_z, x) at c.shown_range-columns.ensures.start)
    (simp (to_z-of_z, x) at c.shown_range-columns.ensures.end)
    (simp (to_z-of_z, y) at c.shown_range-rows.ensures.start)
    (simp (to_z-of_z, y) at c.shown_range-rows.ensures.end)

pub returns : goal.returns
returns c =
    let r = c.args.rectangle in
    let x : SFits w32 r.top_left.x = search rules in
    let y : SFits w32 r.top_left.y = search rules in
    c.fill_rows.ensures
    ∙ edges_shown r c.requires
    (simp (to_z-of_z, x) at c.shown_range-columns.ensures.start)
    (simp (to_z-of_z, x) at c.shown_range-columns.ensures.end)
    (simp (to_z-of_z, y) at c.shown_range-rows.ensures.start)
    (simp (to_z-of_z, y) at c.shown_range-rows.ensures.end)
    c.args.color c.args.buffer.now refl
