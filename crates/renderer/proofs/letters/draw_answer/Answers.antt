-- `answer_shown` goes by the same cases.
use Rattle.integers.proofs.Prelude.{◌≡◌, ◌+ℤ◌}
use Rattle.definitions.specs.Text.{shows}
use Rattle.answers.specs.Answers.{as_answer}
use Rattle.renderer.proofs.letters.draw_answer.Goals as goal

pub render_glyph-requires : goal.render_glyph-requires
render_glyph-requires c =
    let d = c.args.dimensions.advance in
    let b = c.get_next_bounding_box-glyph_box.ensures in
    let shown : as_answer c.args.answer ≡ shows c.in-Some.glyph = simp (c.in-Ok.is, c.in-Some.is) in
    record {
      checked = c.requires.runs _ shown;
      box = record { x = c.args.origin.x +ℤ d.x; y = c.args.origin.y +ℤ d.y; is = b.is; reach = b.reach };
      window = c.requires.fits;
    }
