-- The contracts of the two calls, and the law of such calls.
use Rattle.definitions.specs.Font.{u8g2}
use Rattle.definitions.specs.Calls.{request}
use Rattle.definitions.specs.Agreement.{on}
use Rattle.agreement.proofs.formats.draw_in_both_formats_by.Goals as goal

pub returns-clause-called : goal.returns-clause-called
returns-clause-called g c = cc

pub returns-clause-alike : goal.returns-clause-alike
returns-clause-alike g c h e =
    let a = c.args in
    let r = request a.text.now a.placement a.style.vertical_pos (g.C.Calls.align a.calls.now) in
    let d = g.met.C.Calls.unpacks (u8g2 a.font.now) r a.style.color (on a.framebuffer a.buffer.now) h in
    record { same_answer = cc (d.answers, e); same_steps = cc (d.answers, e); same_pixels = cc (d.pixels, e) }
