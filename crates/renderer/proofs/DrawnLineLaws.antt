-- A line that was measured, and is then drawn where its offset puts it. Assumes nothing.
use Rattle.integers.proofs.Prelude.{◌≡◌, refl, sym, ap, subst, ◌∙◌, Bool, true, false, List, ℕ, eqb}
use Rattle.integers.specs.Integers.{pick}
use Rattle.integers.proofs.Choices.{impossible}
use Rattle.definitions.specs.Vocabulary.{Point, RenderedDimensions, GlyphReader, LookupSteps, FontColor, HorizontalAlignment}
use Rattle.definitions.specs.Vocabulary.{Framebuffer, Error, Report}
use Rattle.types.specs.declared.style.HorizontalAlignment.TheVariants.{Left}
use Rattle.definitions.specs.Refusals.{Outcome, success, refused, and_then, refusal}
use Rattle.definitions.specs.Lookup.{no_steps}
use Rattle.definitions.specs.Utf8.{newlines}
use Rattle.definitions.specs.Text.{Answer, Layout, join_all, letters, Lines, line_by_line, layout, horizontal_offset}
use Rattle.definitions.specs.TextSteps.{measure_from, draw_from, start}
use Rattle.definitions.specs.Font.{u8g2, pixels_of}
use Rattle.definitions.specs.Picture.{text_picture}
use Rattle.definitions.specs.Framebuffer.{shown}
use Rattle.definitions.specs.Calls.{code_points_of}
use Rattle.definitions.specs.Sums.{sums}
use Rattle.definitions.proofs.SumsLaws.{no_sums}
use Rattle.definitions.proofs.FramebufferLaws.{shown_blank}
use Rattle.definitions.proofs.TextLaws.{lines_last, dimensions_from, measure_from_lem, draw_from_lem}
use Rattle.checks.specs.declared.origin.Pen.{Pen}
use Rattle.line_alignment.specs.Pens.{measured_line, moved_by, aligned_pen}
use Rattle.lookup_sums.specs.Reports.{stopped_report}
use Rattle.renderer.specs.declared.letters.Context.{Context}
use Rattle.renderer.specs.declared.lines.LineSetting.{LineSetting}
use Rattle.renderer.specs.Texts.{drawn_by, LettersDrawn, line_laid, LineDrawn, TextDrawn}

-- A text of one line is its letters.
pub one_line : (answers : ℕ → Answer) (line_height : ℕ) (origin advance : Point) (cs : List ℕ) → newlines cs ≡ 0
    → layout answers line_height origin advance cs ≡ letters answers origin advance cs
unfolding line_by_line
one_line answers line_height origin advance cs one =
    ap (λ (ls : Lines). line_by_line (letters answers origin) line_height advance ls) (lines_last cs one)

-- Letters from nothing on are the text aligned Left.
from_start : {font text : List ℕ} {pen : Pen} {context : Context} {before after : List ℕ} {r : Report RenderedDimensions}
    → LettersDrawn font text pen start context before after r → TextDrawn font text Left pen context before after r
from_start {font} {text} {pen} {context} {before} l = record {
  told = record {
    counted = l.counted ∙ measure_from_lem (drawn_by font pen) pen.line_height pen.origin (code_points_of text) start;
    summed = l.summed;
  };
  shown = l.shown
      ∙ draw_from_lem context.framebuffer context.color (pixels_of (u8g2 font)) (drawn_by font pen) pen.line_height pen.origin (code_points_of text) start before;
}

pub plain_text : {font text : List ℕ} {pen : Pen} {context : Context} {before after : List ℕ} {r : Report RenderedDimensions} {a : HorizontalAlignment} {d : RenderedDimensions}
    → a ≡ Left → d ≡ start → LettersDrawn font text pen d context before after r → TextDrawn font text a pen context before after r
plain_text {font} {text} {pen} {context} {before} {after} {r} p q l =
    subst (λ (b : HorizontalAlignment). TextDrawn font text b pen context before after r) (sym p)
    (from_start (subst (λ (e : RenderedDimensions). LettersDrawn font text pen e context before after r) q l))

module _ (font text : List ℕ) (a : HorizontalAlignment) (pen : Pen) where
  abbrev line : Layout
  line = measured_line font pen.ignore_unknown_chars text

  abbrev pen_at : Point → Pen
  pen_at end = moved_by pen (horizontal_offset a (join_all line.glyphs) end.x)

  -- the line's last advance, and the pen that is moved by its offset
  pub record Moved (p : Pen) : Type 0 where
    pub end : Point
    pub measured : line.advance ≡ success end
    pub is : pen_at end ≡ p

  pub pen_came : (p : Pen) → success p ≡ aligned_pen a pen line → Moved p
  pen_came p e = by line.advance refl e
    where
      by : (o : Outcome Point) → line.advance ≡ o → success p ≡ and_then o (λ end. success (pen_at end)) → Moved p
      by (success end) k e = record { end = end; measured = k; is = cc }
      by (refused n c) k e = impossible cc

  pen_stopped : {n c : ℕ} → refused n c ≡ aligned_pen a pen line → line.advance ≡ refused n c
  pen_stopped {n} {c} e = by line.advance e
    where
      by : (o : Outcome Point) → refused n c ≡ and_then o (λ end. success (pen_at end)) → o ≡ refused n c
      by (success end) e = impossible cc
      by (refused m d) e = cc

  -- a line that was stopped in measuring shows nothing
  module _ {n c : ℕ} (e : line.advance ≡ refused n c) where
    stopped_counted : (d : RenderedDimensions) → refused n c ≡ dimensions_from d.bounding_box (line_laid font a pen d.advance (code_points_of text))
    stopped_counted d = rw e

    stopped_painted : (q : Framebuffer) (color : FontColor) (pixels_of : GlyphReader → List ℕ) (advance : Point) (before : List ℕ)
        → before ≡ shown q (text_picture color pixels_of (line_laid font a pen advance (code_points_of text)).glyphs) before
    unfolding text_picture
    stopped_painted q color pixels_of advance before = rw e (sym (shown_blank q before))

  module _ (one : newlines (code_points_of text) ≡ 0) {p : Pen} (m : Moved p) (d : RenderedDimensions) where
    abbrev there : Point → Layout
    there origin = letters (drawn_by font pen) origin d.advance (code_points_of text)

    laid_there : line_laid font a pen d.advance (code_points_of text) ≡ there (pen_at m.end).origin
    laid_there = rw m.measured

    line_counted : measure_from (drawn_by font p) p.line_height p.origin d (code_points_of text)
        ≡ dimensions_from d.bounding_box (line_laid font a pen d.advance (code_points_of text))
    line_counted =
        subst (λ (q : Pen). measure_from (drawn_by font q) q.line_height q.origin d (code_points_of text)
        ≡ dimensions_from d.bounding_box (line_laid font a pen d.advance (code_points_of text))) m.is
        (measure_from_lem (drawn_by font pen) pen.line_height (pen_at m.end).origin (code_points_of text) d
        ∙ ap (dimensions_from d.bounding_box)
        (one_line (drawn_by font pen) pen.line_height (pen_at m.end).origin d.advance (code_points_of text) one ∙ sym laid_there))

    line_painted : (q : Framebuffer) (color : FontColor) (pixels_of : GlyphReader → List ℕ) (before : List ℕ)
        → draw_from q color pixels_of (drawn_by font p) p.line_height p.origin d before (code_points_of text)
        ≡ shown q (text_picture color pixels_of (line_laid font a pen d.advance (code_points_of text)).glyphs) before
    line_painted q color pixels_of before =
        subst (λ (r : Pen). draw_from q color pixels_of (drawn_by font r) r.line_height r.origin d before (code_points_of text)
        ≡ shown q (text_picture color pixels_of (line_laid font a pen d.advance (code_points_of text)).glyphs) before) m.is
        (draw_from_lem q color pixels_of (drawn_by font pen) pen.line_height (pen_at m.end).origin (code_points_of text) d before
        ∙ ap (λ (l : Layout). shown q (text_picture color pixels_of l.glyphs) before)
        (one_line (drawn_by font pen) pen.line_height (pen_at m.end).origin d.advance (code_points_of text) one ∙ sym laid_there))

-- ---- what the line comes to

-- The sums of a text that is stopped are kept with 7; with another number they are nothing.
kept_sums : (font text : List ℕ) (n c : ℕ) {q : LookupSteps} → q ≡ sums {A = Point} (u8g2 font) text (refused n c)
    → pick (eqb n 7) q no_steps ≡ sums {A = RenderedDimensions} (u8g2 font) text (refused n c)
kept_sums font text n c {q} e = by (eqb n 7) refl
  where
    by : (t : Bool) → eqb n 7 ≡ t → pick t q no_steps ≡ sums {A = RenderedDimensions} (u8g2 font) text (refused n c)
    by true k = e
    by false k = no_sums {A = RenderedDimensions} (u8g2 font) text {o = refused n c} refl k

module _ {font text : List ℕ} {s : LineSetting} {d : RenderedDimensions} {context : Context} {before after : List ℕ} where
  -- stopped in measuring
  pub stopped_line : {e : Error} {q : LookupSteps} → refusal e ≡ aligned_pen s.horizontal_align s.pen (line font text s.horizontal_align s.pen)
      → q ≡ sums (u8g2 font) text (line font text s.horizontal_align s.pen).advance → after ≡ before → LineDrawn font text s d context before after (stopped_report e q)
  stopped_line none counted kept =
      let stop = pen_stopped font text s.horizontal_align s.pen none in
      record {
        counted = stopped_counted font text s.horizontal_align s.pen stop d;
        painted = kept
            ∙ stopped_painted font text s.horizontal_align s.pen stop context.framebuffer context.color (pixels_of (u8g2 font)) d.advance before;
        summed = kept_sums font text _ _ (counted ∙ ap (sums (u8g2 font) text) stop);
        reach = λ e k. impossible cc;
      }

  -- .. or drawn
  pub drawn_line : newlines (code_points_of text) ≡ 0 → {p : Pen} → Moved font text s.horizontal_align s.pen p
      → {r : Report RenderedDimensions} → LettersDrawn font text p d context before after r → LineDrawn font text s d context before after r
  drawn_line one m l = record {
    counted = l.counted ∙ line_counted font text s.horizontal_align s.pen one m d;
    painted = l.shown ∙ line_painted font text s.horizontal_align s.pen one m d context.framebuffer context.color (pixels_of (u8g2 font)) before;
    summed = l.summed;
    reach = l.reach;
  }
