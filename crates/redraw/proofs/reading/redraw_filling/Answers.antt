-- A refused step is that of its causes; else the old reading is cleared and the new one drawn (RedrawLaws).
use Rattle.integers.proofs.Prelude.{sym, ap, subst, ◌∙◌, ℕ}
use Rattle.definitions.specs.Vocabulary.{Report, RenderedDimensions}
use Rattle.definitions.specs.Refusals.{outcome}
use Rattle.definitions.specs.Framebuffer.{BufferFits}
use Rattle.definitions.specs.Font.{u8g2}
use Rattle.definitions.specs.Sums.{sums}
use Rattle.definitions.proofs.SumsLaws.{no_sums}
use Rattle.redraw_checks.specs.Drawing.{asked, ground_of}
use Rattle.redraw_checks.proofs.ChecksLaws.{checks_early}
use Rattle.redraw.proofs.RedrawLaws.{stops, stays, answers, leaves}
use Rattle.redraw.proofs.reading.redraw_filling.Goals as goal

pub clear_reading-requires-clause-drawable : goal.clear_reading-requires-clause-drawable
clear_reading-requires-clause-drawable g c = let r = c.in-Ok.ensures.1 in record { checked = r.old_set.checked; fits = r.fits }

pub draw_reading-requires : goal.draw_reading-requires
draw_reading-requires g c =
    let r = c.in-Ok.ensures.1 in
    record {
      checked = r.new_set.checked;
      fits = subst (λ (n : ℕ). BufferFits n c.args.place.framebuffer) (sym c.clear_reading.auto.buffer) r.fits;
    }

pub returns-in-Err : goal.returns-in-Err
returns-in-Err g c =
    let a = c.args in
    let p = ground_of a.place a.buffer.now in
    let r = asked a.place a.new_text.now in
    let e = c.in-Err.ensures in
    let is_refused = stops a.font.now a.old_text.now r a.place.background p e in
    let none = no_sums (u8g2 a.font.now) a.new_text.now is_refused (checks_early a.font.now a.old_text.now r a.place.background p e) in
    record {
      answered = ap (λ (r : Report RenderedDimensions). outcome r.result) c.refused.ensures ∙ is_refused;
      shown = stays a.font.now a.old_text.now r a.place.background p e;
      summed = ap (λ (r : Report RenderedDimensions). r.steps) c.refused.ensures ∙ none;
    }

-- `between` is read with either pen, so that clearing the new text (must-fail) is refused by `leaves`.
pub returns-in-Ok : goal.returns-in-Ok
returns-in-Ok g c =
    let a = c.args in
    let new = asked a.place a.new_text.now in
    let screen = ground_of a.place a.buffer.now in
    let off = c.in-Ok.ensures.0 in
    let r = c.in-Ok.ensures.1 in
    let d = rw (r.new_set.bytes, r.new_set.pen) at c.draw_reading.ensures in
    let between = simp (r.new_set.bytes, r.old_set.pen, r.new_set.pen) at c.clear_reading.ensures in
    let answered = answers a.font.now a.old_text.now new a.place.background screen off d.told.counted in
    record {
      answered = answered;
      shown = leaves a.font.now a.old_text.now new a.place.background screen off _ between c.clear_reading.auto.buffer d.shown;
      summed = d.told.summed ∙ ap (sums (u8g2 a.font.now) a.new_text.now) answered;
    }
