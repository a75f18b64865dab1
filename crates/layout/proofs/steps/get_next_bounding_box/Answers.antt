-- Where there is room, the glyph's box lies within the reach of joining.
use Rattle.integers.proofs.Prelude.{◌≡◌, sym, subst, ◌≤◌, w8, w32, SFits, to_z-of_z, rules}
use Rattle.definitions.specs.Geometry.{InReach}
use Rattle.definitions.specs.TextSteps.{next_box}
use Rattle.layout.proofs.RangeLaws.{near_fits, fits_small, box_in_reach}
use Rattle.layout.proofs.steps.get_next_bounding_box.Goals as goal

pub returns : goal.returns
returns c =
    let origin_x : SFits w32 c.args.origin.x = search rules in
    let origin_y : SFits w32 c.args.origin.y = search rules in
    let width : c.args.glyph.glyph_width ≤ 255 = search rules in
    let height : c.args.glyph.glyph_height ≤ 255 = search rules in
    let offset_x : SFits w8 c.args.glyph.offset_x = search rules in
    let offset_y : SFits w8 c.args.glyph.offset_y = search rules in
    let advance : SFits w8 c.args.glyph.advance = search rules in
    let box_is : c.get_glyph_bounding_box.result ≡ next_box c.args.origin c.args.dimensions c.args.glyph =
    simp c.get_glyph_bounding_box.ensures
    (simp (to_z-of_z, origin_x, origin_y, near_fits c.requires.x, near_fits c.requires.y, near_fits c.requires.column, near_fits c.requires.row)) in
    record {
      is = box_is;
      reach = subst InReach (sym box_is)
          (box_in_reach c.args.glyph c.requires.column c.requires.row (fits_small width height offset_x offset_y advance));
    }
