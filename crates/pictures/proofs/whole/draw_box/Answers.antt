-- The text is drawn in the corner of the smallest framebuffer (DrawingLaws).
use Rattle.std.proofs.lemmas.Result.{err_from_is_err_and}
use Rattle.integers.proofs.Prelude.{ap, inr, arith}
use Rattle.definitions.specs.Refusals.{outcome}
use Rattle.pictures.proofs.DrawingLaws.{cornered, called, is_drawn}
use Rattle.pictures.proofs.whole.draw_box.Goals as goal

pub draw_at_corner-requires : goal.draw_at_corner-requires
draw_at_corner-requires c = cornered c.args.buffer.now c.requires (omega arith) (omega arith) c.room_for-framebuffer.ensures c.size_in_bytes.ensures.size

pub returns-in_err-dimensions : goal.returns-in_err-dimensions
returns-in_err-dimensions c =
    let p = err_from_is_err_and c.from_residual.result c.from_residual.ensures.1 in
    let e =
    called c.args.buffer.now c.requires (omega arith) (omega arith) c.room_for-framebuffer.ensures c.size_in_bytes.ensures.size
    (ap outcome c.in_err-dimensions.was) c.draw_at_corner.ensures in
    rw (p.1, p.2) (inr (c.args.rectangle, e))

pub returns : goal.returns
returns c =
    is_drawn
    (called c.args.buffer.now c.requires (omega arith) (omega arith) c.room_for-framebuffer.ensures c.size_in_bytes.ensures.size
    (ap outcome c.in_ok-dimensions.was) c.draw_at_corner.ensures)
