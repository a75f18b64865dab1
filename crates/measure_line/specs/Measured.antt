-- SPECIFICATION, Measuring program: what it measures and the line that it prints, as functions of the font's bytes and the
-- text's bytes.
use Rattle.std.specs.Prelude.{false, List, ℕ, ltb, pos, length}
use Rattle.integers.specs.Integers.{pick}
use Rattle.definitions.specs.Vocabulary.{FontReader, RenderedDimensions}
use Rattle.types.specs.declared.style.VerticalPosition.TheVariants.{Baseline}
use Rattle.definitions.specs.Refusals.{Outcome, success, refused}
use Rattle.definitions.specs.Text.{point}
use Rattle.definitions.specs.Font.{u8g2}
use Rattle.definitions.specs.Calls.{open_font, Request, placed, plain, measure}
use Rattle.answer_line.specs.Line.{outcome_line}

-- place (0, 0), Baseline, the font's default line height, nothing skipped
abbrev pub by_program : List ℕ → FontReader → Request
by_program text head = plain text (placed (point (pos 0) (pos 0)) head.line_height false) Baseline

abbrev pub measure_opened : List ℕ → List ℕ → Outcome FontReader → Outcome RenderedDimensions
measure_opened font text (success head) = measure (u8g2 font) (by_program text head)
measure_opened font text (refused n c) = refused n c

-- A font of more than 65,536 bytes is number 1.
unfoldable pub measured_by_program : List ℕ → List ℕ → Outcome RenderedDimensions
measured_by_program font text = pick (ltb 65536 (length font)) (refused 1 0) (measure_opened font text (open_font font))

unfoldable pub measuring_line : List ℕ → List ℕ → List ℕ
measuring_line font text = outcome_line (measured_by_program font text)
