-- The answer is the box of the aligned text's dimensions.
use Rattle.definitions.specs.Font.{u8g2}
use Rattle.definitions.specs.Calls.{request}
use Rattle.definitions.proofs.AlignedLaws.{measured_box}
use Rattle.lookup_sums.proofs.ReportLaws.{box_answered, box_summed}
use Rattle.measuring.proofs.rendered_dimensions_aligned.get_rendered_dimensions_aligned.Goals as goal

pub returns-clause-answered : goal.returns-clause-answered
returns-clause-answered c =
    let m = c.aligned_dimensions in
    let font = u8g2 c.args.font.now in
    let box = measured_box font (request c.args.text.now c.args.placement c.args.vertical_pos c.args.horizontal_align) in
    simp c.box_alone.ensures (box_answered font c.args.text.now m.result m.ensures.answered box)

pub returns-clause-summed : goal.returns-clause-summed
returns-clause-summed c =
    let m = c.aligned_dimensions in
    let font = u8g2 c.args.font.now in
    let box = measured_box font (request c.args.text.now c.args.placement c.args.vertical_pos c.args.horizontal_align) in
    simp c.box_alone.ensures (box_summed font c.args.text.now m.result m.ensures.answered box m.ensures.summed)
