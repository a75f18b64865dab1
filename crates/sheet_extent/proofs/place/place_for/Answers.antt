-- `place_for` meets its contract: ExtentLaws.antt has that all readings are seen. Assumes nothing.
use Rattle.integers.proofs.Prelude.{sym, subst, ◌∙◌, w32, w64, SFits, to_z-of_z, rules}
use Rattle.definitions.specs.Vocabulary.{Place}
use Rattle.sheet_extent.specs.Extent.{extent_of, side, Uncut, AllSeen}
use Rattle.definitions.specs.Framebuffer.{size_in_bytes}
use Rattle.sheet_ground.specs.Readings.{PlaceFits}
use Rattle.sheet_extent.proofs.ExtentLaws.{is_place, fits_for, all_seen, both}
use Rattle.sheet_extent.proofs.place.place_for.Goals as goal

pub returns : goal.returns
returns c =
    let a = c.args in
    let m = c.measure_all-extent in
    let p = c.position_for-position in
    let fx : SFits w32 p.result.x = search rules in
    let fy : SFits w32 p.result.y = search rules in
    let fr : SFits w64 m.result.right = search rules in
    let fb : SFits w64 m.result.bottom = search rules in
    let w = c.side-width.ensures ∙ both side (to_z-of_z fx) (to_z-of_z fr) in
    let h = c.side-height.ensures ∙ both side (to_z-of_z fy) (to_z-of_z fb) in
    let e = is_place a.font.now a.options m.ensures.edges p.ensures w h c.background.ensures c.room_for.ensures in
    let edges = extent_of a.font.now a.options.vertical_pos a.options.horizontal_align 901 in
    record {
      place = e;
      fits = subst (λ (q : Place). PlaceFits (size_in_bytes q.framebuffer) q) (sym e) (fits_for a.font.now a.options);
      seen = λ nowhere. subst (λ (q : Place). Uncut q edges → AllSeen a.font.now q) (sym e) (all_seen a.font.now a.options nowhere);
    }
