-- What passes its tests is drawn; else the call is refused as its causes say.
use Rattle.renderer.proofs.RenderLaws.{refused_by, drawn_as}
use Rattle.renderer.proofs.aligned_drawing.aligned_drawing.Goals as goal

pub returns-in-Err : goal.returns-in-Err
returns-in-Err c =
    let k = refused_by _ _ _ _ c.args.horizontal_align _ _ _ c.refused.ensures c.in-Err.ensures in
    record { answered = k.answered; shown = k.shown; summed = k.summed }

pub returns-in-Ok : goal.returns-in-Ok
returns-in-Ok c =
    let k = drawn_as _ _ _ _ c.args.horizontal_align _ _ _ c.in-Ok.ensures.0 c.in-Ok.ensures.1 c.draw_aligned.ensures in
    record { answered = k.answered; shown = k.shown; summed = k.summed }
