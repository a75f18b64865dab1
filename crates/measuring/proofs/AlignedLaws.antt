-- What the tests leave of a call. Assumes nothing.
use Rattle.integers.proofs.Prelude.{◌≡◌, refl, sym, ap, subst, ◌∙◌, false, List, ℕ}
use Rattle.definitions.specs.Vocabulary.{Error, Report, RenderedDimensions, HorizontalAlignment, VerticalPosition, Placement}
use Rattle.definitions.specs.Refusals.{error_number, code_point, any_applies}
use Rattle.definitions.specs.Text.{dimensions}
use Rattle.definitions.specs.Font.{u8g2, measured_answer}
use Rattle.definitions.specs.Calls.{Request, request, plain, code_points_of, origin, measure_causes, measured_text, measure}
use Rattle.definitions.specs.Sums.{sums}
use Rattle.definitions.proofs.RefusalLaws.{none_applies, stopped}
use Rattle.definitions.proofs.SumsLaws.{no_sums, refused_early}
use Rattle.definitions.proofs.TextLaws.{measure_lines_lem}
use Rattle.checks.specs.declared.origin.Pen.{Pen}
use Rattle.checks.specs.declared.origin.Setup.{Setup}
use Rattle.checks.specs.Setups.{SetFor, Refuse}
use Rattle.lookup_sums.specs.Reports.{refused_report}
use Rattle.text_lines.specs.Lines.{TextMeasured}
use Rattle.measuring.specs.Aligned.{AlignedMeasured}

module _ (font text : List ℕ) (p : Placement) (v : VerticalPosition) (a : HorizontalAlignment) where
  abbrev r : Request
  r = request text p v a

  -- refused by a cause, and so before its first character
  pub refused_by : {report : Report RenderedDimensions} {e : Error} → report ≡ refused_report e
      → Refuse (measure_causes (u8g2 font) (plain text p v)) (error_number e) (code_point e) → AlignedMeasured font r report
  unfolding measure
  refused_by is off =
      let causes = measure_causes (u8g2 font) r in
      let h = stopped (tt {0}) (dimensions (measured_text (u8g2 font) r)) causes off in
      let early = refused_early (tt {0}) causes (refl, (refl, (refl, (refl, tt)))) off in
      rw is record { answered = sym h.1; summed = no_sums (u8g2 font) r.text (sym h.1) early }

  -- measured with the font's bytes and the request's pen
  pub measured_as : {report : Report RenderedDimensions} {s : Setup} → any_applies (measure_causes (u8g2 font) (plain text p v)) ≡ false → SetFor font (plain text p v) s
      → TextMeasured s.font.bytes.now r.text r.align s.pen report → AlignedMeasured font r report
  unfolding measure
  measured_as {report} {s} off k m =
      let here = subst (λ (b : List ℕ). TextMeasured b r.text r.align s.pen report) k.bytes m in
      let there = subst (λ (q : Pen). TextMeasured font r.text r.align q report) k.pen here in
      let causes = measure_causes (u8g2 font) r in
      let answered = there.measured
      ∙ measure_lines_lem (measured_answer (u8g2 font) r.skip) r.align r.line_height (origin (u8g2 font) r) (code_points_of r.text)
      ∙ sym (none_applies (dimensions (measured_text (u8g2 font) r)) causes off) in
      record { answered = answered; summed = there.summed ∙ ap (sums (u8g2 font) r.text) answered }
