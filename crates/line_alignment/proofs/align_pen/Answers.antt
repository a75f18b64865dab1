-- The line is measured from its own start; its box, its advance and its offset are near 0.
use Rattle.std.proofs.Common.{◌≡◌, sym, ap, subst, ◌∙◌, List, ℕ, pos, Result, Ok, Err, IfOk}
use Rattle.integers.proofs.Laws.{zarith}
use Rattle.integers.proofs.Choices.{impossible}
use Rattle.definitions.specs.Vocabulary.{Error, FontReader, Report, RenderedDimensions, HorizontalAlignment}
use Rattle.types.specs.declared.style.HorizontalAlignment.TheVariants.{Left}
use Rattle.definitions.specs.Refusals.{Outcome, success, refused, and_then, outcome}
use Rattle.definitions.specs.Header.{Opened}
use Rattle.definitions.specs.Utf8.{newlines}
use Rattle.definitions.specs.Font.{u8g2}
use Rattle.definitions.specs.Sums.{sums}
use Rattle.definitions.specs.Text.{point, dimensions}
use Rattle.definitions.specs.Calls.{code_points_of}
use Rattle.checks.specs.declared.origin.Pen.{Pen}
use Rattle.checks.specs.Origins.{Checked, CheckedText, CheckedLine}
use Rattle.text_lines.specs.Lines.{TextMeasured}
use Rattle.line_alignment.specs.Pens.{MovesPen, measured_line, pen_of_line, aligned_pen}
use Rattle.line_alignment.proofs.PenLaws.{line_measured, line_summed, pen_refused, box_near, advance_near, offset_near, pen_is, pen_placed}
use Rattle.line_alignment.proofs.align_pen.Goals as goal

abbrev from_start : Pen → Pen
from_start pen = record { origin = point (pos 0) (pos 0); line_height = pen.line_height; ignore_unknown_chars = pen.ignore_unknown_chars }

in_open_font : {font text : List ℕ} {head : FontReader} {pen : Pen} → Opened font head → Checked text pen.origin pen.line_height → CheckedText font head text pen
in_open_font o k = record { opened = o; checked = k }

-- the line was measured
module _ {font line : List ℕ} {head : FontReader} {pen : Pen} (k : CheckedText font head line pen) (one : newlines (code_points_of line) ≡ 0) where
  module _ {r : Report RenderedDimensions} (m : TextMeasured font line Left (from_start pen) r) where
    measured : outcome r.result ≡ dimensions (measured_line font pen.ignore_unknown_chars line)
    measured = m.measured ∙ line_measured k one

    counted : r.steps ≡ sums (u8g2 font) line (measured_line font pen.ignore_unknown_chars line).advance
    counted = m.summed ∙ ap (sums (u8g2 font) line) measured ∙ line_summed k one

  module _ (a : HorizontalAlignment) where
    moves : (r : Result RenderedDimensions Error) → outcome r ≡ dimensions (measured_line font pen.ignore_unknown_chars line) → IfOk r (MovesPen a pen)
    moves (Ok d) e = record {
      box = box_near k one e;
      end = advance_near k one e;
      from = record { low = omega (zarith, k.checked.left); high = omega (zarith, k.checked.right) };
      by = offset_near k one e a;
    }
    moves (Err e) _ = tt

    came : (o : Outcome RenderedDimensions) → o ≡ dimensions (measured_line font pen.ignore_unknown_chars line)
        → and_then o (λ d. success (pen_of_line a pen d)) ≡ aligned_pen a pen (measured_line font pen.ignore_unknown_chars line)
    came (success d) e = pen_is k one e a
    came (refused n c) e = pen_refused k one a e

    placed : (o : Outcome RenderedDimensions) → o ≡ dimensions (measured_line font pen.ignore_unknown_chars line)
        → (p : Pen) → and_then o (λ d. success (pen_of_line a pen d)) ≡ success p → CheckedLine line p.origin p.line_height
    placed (success d) e p is =
        let same : pen_of_line a pen d ≡ p = cc in
        subst (λ (q : Pen). CheckedLine line q.origin q.line_height) same (pen_placed k one e a)
    placed (refused n c) e p is = impossible cc

pub pen_by-requires : goal.pen_by-requires
pen_by-requires c =
    let k = in_open_font c.args.font.now.opened c.requires.0 in
    moves k c.requires.1 c.args.horizontal_align _ (measured k c.requires.1 c.measure_lines-measured.ensures)

pub returns : goal.returns
returns c =
    let k = in_open_font c.args.font.now.opened c.requires.0 in
    let one = c.requires.1 in
    let a = c.args.horizontal_align in
    let m = c.measure_lines-measured.ensures in
    record {
      aligned = c.pen_by.ensures ∙ came k one a _ (measured k one m);
      counted = counted k one m;
      placed = λ p is. placed k one a _ (measured k one m) p (sym c.pen_by.ensures ∙ is);
    }
