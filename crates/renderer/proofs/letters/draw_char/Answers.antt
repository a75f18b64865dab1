-- A newline is code point 10; any other is looked up, counted and drawn.
use Rattle.integers.proofs.Prelude.{sym, ◌∙◌}
use Rattle.answers.proofs.AnswersLaws.{runs_checked}
use Rattle.renderer.proofs.letters.draw_char.Goals as goal

pub draw_answer-requires : goal.draw_answer-requires
draw_answer-requires c =
    let looked = c.retrieve_answer-answer.ensures.is in
    record {
      runs = λ g e. runs_checked c.args.font.now.opened c.args.pen.ignore_unknown_chars c.args.ch g (sym looked ∙ e);
      room = c.requires.room;
      fits = c.requires.fits;
    }
