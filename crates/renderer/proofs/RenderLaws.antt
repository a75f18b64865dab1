-- What the causes leave of a call that draws. Assumes nothing.
use Rattle.integers.proofs.Prelude.{◌≡◌, refl, sym, ap, subst, ◌∙◌, false, List, ℕ, length}
use Rattle.definitions.specs.Vocabulary.{Framebuffer, RenderedDimensions, FontColor, Error, Report, HorizontalAlignment}
use Rattle.definitions.specs.Vocabulary.{VerticalPosition, Placement}
use Rattle.definitions.specs.Refusals.{Outcome, error_number, code_point, Cause, any_applies, outcome}
use Rattle.definitions.specs.Text.{dimensions}
use Rattle.definitions.specs.Font.{u8g2}
use Rattle.definitions.specs.Calls.{Request, request, plain, drawn_text, draw_causes, draw, draw_buffer}
use Rattle.definitions.specs.Sums.{sums}
use Rattle.definitions.proofs.SumsLaws.{no_sums, refused_early}
use Rattle.definitions.proofs.RefusalLaws.{none_applies, stopped}
use Rattle.checks.specs.declared.origin.Pen.{Pen}
use Rattle.checks.specs.declared.origin.Setup.{Setup}
use Rattle.checks.specs.Origins.{pen_of}
use Rattle.checks.specs.Setups.{Refuse}
use Rattle.lookup_sums.specs.Reports.{refused_report}
use Rattle.renderer.specs.declared.letters.Context.{Context}
use Rattle.renderer.specs.Texts.{counted_with, drawn_with, TextDrawn}
use Rattle.renderer.specs.Checks.{DrawnFor}

-- ---- a call that none of its causes refuses

module _ (font : List ℕ) (r : Request) (color : FontColor) (p : Framebuffer) (buffer : List ℕ) where
  -- the answer and the bytes are those of the definitions
  abbrev pub Defined : Outcome RenderedDimensions → List ℕ → Type 0
  Defined answer bytes = (answer ≡ draw (u8g2 font) r color p buffer) × (bytes ≡ draw_buffer (u8g2 font) r color p buffer)

  abbrev context : Context
  context = record { color = color; framebuffer = p }

  -- the text with the request's pen
  pub drawn_unrefused : any_applies (draw_causes (u8g2 font) r color p buffer) ≡ false
      → Defined (counted_with font r.text r.align (pen_of font r)) (drawn_with font r.text r.align (pen_of font r) context buffer)
  unfolding draw draw_buffer
  drawn_unrefused off = (sym (none_applies (dimensions (drawn_text (u8g2 font) r)) (draw_causes (u8g2 font) r color p buffer) off), rw off)

-- ---- the call

module _ (font text : List ℕ) (placement : Placement) (v : VerticalPosition) (a : HorizontalAlignment) (color : FontColor) (p : Framebuffer) (buffer : List ℕ) where
  abbrev r : Request
  r = request text placement v a

  abbrev checked : List Cause
  checked = draw_causes (u8g2 font) (plain text placement v) color p buffer

  -- the answer, the bytes and the sums are those of the definitions
  pub record Reported (report : Report RenderedDimensions) (bytes : List ℕ) : Type 0 where
    pub answered : outcome report.result ≡ draw (u8g2 font) r color p buffer
    pub shown : bytes ≡ draw_buffer (u8g2 font) r color p buffer
    pub summed : report.steps ≡ sums (u8g2 font) text (draw (u8g2 font) r color p buffer)

  -- refused by a cause, and so before its first character
  pub refused_by : {report : Report RenderedDimensions} {e : Error} → report ≡ refused_report e → Refuse checked (error_number e) (code_point e)
      → Reported report buffer
  unfolding draw draw_buffer
  refused_by is off =
      let h = stopped (tt {0}) (dimensions (drawn_text (u8g2 font) r)) checked off in
      let early = refused_early (tt {0}) checked (refl, (refl, (refl, (refl, (refl, (refl, (refl, tt))))))) off in
      rw is record { answered = sym h.1; shown = rw h.0; summed = no_sums (u8g2 font) text (sym h.1) early }

  -- drawn with the font's bytes and the request's pen
  pub drawn_as : {report : Report RenderedDimensions} {s : Setup} {after : List ℕ} → any_applies checked ≡ false
      → DrawnFor font (plain text placement v) p (length buffer) s
      → TextDrawn s.font.bytes.now text a s.pen record { color = color; framebuffer = p } buffer after report → Reported report after
  drawn_as {report} {s} {after} off k d =
      let context : Context = record { color = color; framebuffer = p } in
      let here = subst (λ (b : List ℕ). TextDrawn b text a s.pen context buffer after report) k.set.bytes d in
      let there = subst (λ (q : Pen). TextDrawn font text a q context buffer after report) k.set.pen here in
      let whole = drawn_unrefused font r color p buffer off in
      let answered = there.told.counted ∙ whole.0 in
      record { answered = answered; shown = there.shown ∙ whole.1; summed = there.told.summed ∙ ap (sums (u8g2 font) text) answered }
