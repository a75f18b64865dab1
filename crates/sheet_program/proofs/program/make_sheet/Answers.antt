-- `make_sheet` meets its contract: FitLaws.antt has that the framebuffers are large enough. Assumes nothing.
use Rattle.std.proofs.Common.{sym, subst, ℕ}
use Rattle.sheet_ground.specs.Readings.{PlaceFits}
use Rattle.sheet_program.proofs.FitLaws.{buffers_fit}
use Rattle.sheet_program.proofs.program.make_sheet.Goals as goal

pub fill_sheet-requires : goal.fill_sheet-requires
fill_sheet-requires g c =
    let place = c.place_for-place in
    let fits = subst (λ (n : ℕ). PlaceFits n place.result) (sym c.size_in_bytes-bytes.ensures.size) place.ensures.fits in
    buffers_fit fits c.args.ground.now c.args.screen.now c.args.alone.now c.requires
