-- The answer is the box of the drawn text's dimensions.
use Rattle.definitions.specs.Font.{u8g2}
use Rattle.definitions.specs.Calls.{request}
use Rattle.definitions.proofs.AlignedLaws.{drawn_box}
use Rattle.lookup_sums.proofs.ReportLaws.{box_answered, box_summed}
use Rattle.renderer.proofs.render_aligned.render_aligned.Goals as goal

pub returns : goal.returns
returns c =
    let m = c.aligned_drawing in
    let a = c.args in
    let font = u8g2 a.font.now in
    let box = drawn_box font (request a.text.now a.placement a.style.vertical_pos a.horizontal_align) a.style.color a.framebuffer a.buffer.now in
    simp c.box_alone.ensures record {
      answered = box_answered font a.text.now m.result m.ensures.answered box;
      shown = m.ensures.shown;
      summed = box_summed font a.text.now m.result m.ensures.answered box m.ensures.summed;
    }
