-- Request A2, sentence by sentence: aligned drawing beside aligned measuring, beside plain drawing, its sums, and agreement.
-- Assumes nothing.
use Rattle.integers.proofs.Prelude.{◌≡◌, refl, sym, ap, subst, ◌∙◌, Bool, true, false, ◌||◌, List, [], ◌∷◌, ℕ, pos}
use Rattle.integers.specs.Integers.{pick}
use Rattle.integers.proofs.Choices.{impossible}
use Rattle.definitions.specs.Vocabulary.{Framebuffer, BoundingBox, Point, RenderedDimensions, GlyphReader, FontColor, HorizontalAlignment, VerticalPosition, Placement}
use Rattle.types.specs.declared.style.HorizontalAlignment.TheVariants.{Left}
use Rattle.definitions.specs.Refusals.{Outcome, success, refused, Cause, unless_refused, any_applies}
use Rattle.definitions.specs.Text.{Answer, shows, nothing, stops, answer, join_all, Layout, point, dimensions, letters, Lines, first, line_by_line, layout, moved_line}
use Rattle.definitions.specs.Runs.{Pixels, pixels, cut}
use Rattle.definitions.specs.Font.{Font, u8g2, measured_answer, with_runs, drawable, drawn_answer}
use Rattle.definitions.specs.Framebuffer.{framebuffer_cause}
use Rattle.definitions.specs.Limits.{text_cause, position_cause, color_cause, background_cause}
use Rattle.definitions.specs.Calls.{Request, request, plain, code_points_of, origin, measure_causes, measured_text, measure, measure_aligned, box_of_layout}
use Rattle.definitions.specs.Calls.{draw_causes, drawn_text, draw, draw_buffer, draw_aligned}
use Rattle.definitions.specs.Sums.{sums}
use Rattle.definitions.specs.Agreement.{Ground, after, aligned_results, aligned_box, KeptOutside, MeasuredAsDrawn}
use Rattle.definitions.proofs.RefusalLaws.{none_applies, succeeded, each_off, all_off, any_parts, parts_any, went_on}
use Rattle.definitions.proofs.TextLaws.{box_alone, box_of_layout_lem, Follows, same_aligned}
use Rattle.definitions.proofs.LetterRefusals.{refused_by}
use Rattle.definitions.proofs.Agreement.{dimensions_success, agreement}

-- ---- aligned calls answer with the box alone

box_unless : (cs : List Cause) (o : Outcome RenderedDimensions) → unless_refused cs (box_alone o) ≡ box_alone (unless_refused cs o)
box_unless [] o = refl
box_unless (c ∷ cs) o = by c.applies (box_unless cs o)
  where
    by : (t : Bool) → unless_refused cs (box_alone o) ≡ box_alone (unless_refused cs o)
        → pick t (refused c.number 0) (unless_refused cs (box_alone o)) ≡ box_alone (pick t (refused c.number 0) (unless_refused cs o))
    by true e = refl
    by false e = e

box_of_call : (cs : List Cause) (l : Layout) → unless_refused cs (box_of_layout l l.advance) ≡ box_alone (unless_refused cs (dimensions l))
box_of_call cs l = ap (unless_refused cs) (box_of_layout_lem l) ∙ box_unless cs (dimensions l)

pub measured_box : (font : Font) (r : Request) → measure_aligned font r ≡ box_alone (measure font r)
unfolding measure measure_aligned
measured_box font r = box_of_call (measure_causes font r) (measured_text font r)

pub drawn_box : (font : Font) (r : Request) (color : FontColor) (p : Framebuffer) (buffer : List ℕ)
    → draw_aligned font r color p buffer ≡ box_alone (draw font r color p buffer)
unfolding draw draw_aligned
drawn_box font r color p buffer = box_of_call (draw_causes font r color p buffer) (drawn_text font r)

-- the dimensions of which the box was answered
box_came : (o : Outcome RenderedDimensions) (b : BoundingBox) → box_alone o ≡ success b → (d : RenderedDimensions) × ((o ≡ success d) × (d.bounding_box ≡ b))
box_came o b e =
    let t = went_on o (λ d. success d.bounding_box) b e in
    let same : t.value.bounding_box ≡ b = cc t.gives in
    (t.value, (t.was, same))

-- ---- "each line is moved by exactly the offset that aligned measuring uses, so the returned box is the measured one"

-- A letter that shows a glyph in drawing, or nothing, shows the same in measuring.
module _ (font : Font) (skip : Bool) (c : ℕ) (a : Answer) (goes_on : (n k : ℕ) → a ≡ stops n k → ⊥) where
  whole : (g : GlyphReader) (p : Pixels) (s : Bool) → answer s (with_runs c g p) ≡ a → shows g ≡ a
  whole g (pixels ps) s e = e
  whole g cut true e = absurd (goes_on 8 c (sym e))
  whole g cut false e = absurd (goes_on 8 c (sym e))

  measured_alike : (o : Outcome GlyphReader) → answer skip (drawable font c o) ≡ a → answer skip o ≡ a
  measured_alike (success g) e = whole g (font.pixels g) skip e
  measured_alike (refused n k) e = e

pub measured_follows : (font : Font) (skip : Bool) → Follows (drawn_answer font skip) (measured_answer font skip)
measured_follows font skip = record {
  same = λ c g e. measured_alike font skip c (shows g) (λ n k e. impossible cc) (font.glyph c) e;
  skips = λ c e. measured_alike font skip c nothing (λ n k e. impossible cc) (font.glyph c) e;
}

module _ (font : Font) (r : Request) (color : FontColor) (p : Framebuffer) (buffer : List ℕ) where
  -- measuring has no cause of its own
  measuring : any_applies (draw_causes font r color p buffer) ≡ false → any_applies (measure_causes font r) ≡ false
  measuring e =
      let k = any_parts font.causes _ e in
      let o = each_off (framebuffer_cause p buffer ∷ text_cause r.text ∷ position_cause r.position r.line_height ∷ color_cause p.format color ∷ background_cause color font.background ∷ []) k.1 in
      parts_any font.causes _ k.0 (all_off (text_cause r.text ∷ position_cause r.position r.line_height ∷ []) (o.1.0, (o.1.1.0, tt)))

  -- Whatever is skipped, and whatever the alignment.
  pub drawn_is_measured : (d : RenderedDimensions) → draw font r color p buffer ≡ success d → measure font r ≡ success d
  unfolding draw measure
  drawn_is_measured d e =
      let l = drawn_text font r in
      let s = succeeded (dimensions l) d (draw_causes font r color p buffer) e in
      let f = measured_follows font r.skip in
      let same = same_aligned f f f (origin font r) r.line_height r.align (code_points_of r.text) d.advance
      (dimensions_success (join_all l.glyphs) l.advance d s.1).0 in
      none_applies _ (measure_causes font r) (measuring s.0) ∙ ap dimensions same ∙ s.1

  pub box_measured : (b : BoundingBox) → draw_aligned font r color p buffer ≡ success b → measure_aligned font r ≡ success b
  box_measured b e =
      let t = box_came (draw font r color p buffer) b (sym (drawn_box font r color p buffer) ∙ e) in
      measured_box font r ∙ ap box_alone (drawn_is_measured t.0 t.1.0) ∙ ap success t.1.1

-- ---- "a 7 or 8 met in measuring leaves the panel as earlier lines drew it": the line has no glyph, whatever its letters would draw

pub stopped_in_measuring : (a : HorizontalAlignment) (measured answers : ℕ → Answer) (origin advance : Point) (l : List ℕ) {n c : ℕ}
    → (letters measured (point (pos 0) (pos 0)) (point (pos 0) (pos 0)) l).advance ≡ refused n c
    → moved_line a measured answers origin advance l ≡ record { glyphs = []; advance = refused n c }
stopped_in_measuring a measured answers origin advance l e = rw e

-- .. and no line comes after it
pub stopped_text : (line : Point → List ℕ → Layout) (line_height : ℕ) (advance : Point) (l : List ℕ) (ls : Lines) {n c : ℕ}
    → line advance l ≡ record { glyphs = []; advance = refused n c }
    → line_by_line line line_height advance (first l ls) ≡ record { glyphs = []; advance = refused n c }
unfolding line_by_line
stopped_text line line_height advance l ls e = rw e

-- ---- "Left draws as plain drawing does"

module _ (font : Font) (text : List ℕ) (placement : Placement) (anchor : VerticalPosition) where
  -- where no line is measured, and no alignment is spoken of
  pub plain_text : drawn_text font (plain text placement anchor)
      ≡ layout (drawn_answer font placement.ignore_unknown_chars) placement.line_height (origin font (plain text placement anchor))
      (point (pos 0) (pos 0)) (code_points_of text)
  plain_text = refl

  module _ (color : FontColor) (p : Framebuffer) (buffer : List ℕ) where
    pub left_draws : draw_aligned font (request text placement anchor Left) color p buffer ≡ box_alone (draw font (plain text placement anchor) color p buffer)
    left_draws = drawn_box font (plain text placement anchor) color p buffer

    pub left_buffer : draw_buffer font (request text placement anchor Left) color p buffer ≡ draw_buffer font (plain text placement anchor) color p buffer
    left_buffer = refl

-- ---- "A1's sums take each letter once"

-- Both succeed, or the same letter refuses both.
abbrev pub EndsAlike : {A : Type 0} → Outcome A → Outcome A → Type 0
EndsAlike (success a) (success b) = Unit {0}
EndsAlike (success a) (refused m d) = ⊥
EndsAlike (refused n c) (success b) = ⊥
EndsAlike (refused n c) (refused m d) = c ≡ d

-- A cause that applies refuses whatever is left.
refused_whatever : {A : Type 0} (x y : Outcome A) (cs : List Cause) → any_applies cs ≡ true → unless_refused cs x ≡ unless_refused cs y
refused_whatever x y [] e = impossible cc
refused_whatever x y (c ∷ cs) e = by c.applies (refused_whatever x y cs) e
  where
    by : (t : Bool) → (any_applies cs ≡ true → unless_refused cs x ≡ unless_refused cs y) → (t || any_applies cs) ≡ true
        → pick t (refused c.number 0) (unless_refused cs x) ≡ pick t (refused c.number 0) (unless_refused cs y)
    by true rest e = refl
    by false rest e = rest e

module _ (font text : List ℕ) (placement : Placement) (anchor : VerticalPosition) (color : FontColor) (p : Framebuffer) (buffer : List ℕ) where
  abbrev asking : HorizontalAlignment → Request
  asking a = request text placement anchor a

  abbrev answered : HorizontalAlignment → Outcome BoundingBox
  answered a = draw_aligned (u8g2 font) (asking a) color p buffer

  -- The number with which a letter refuses is its own, whatever the alignment.
  abbrev causes : List Cause
  causes = draw_causes (u8g2 font) (asking Left) color p buffer

  own_number : (a : HorizontalAlignment) {n c : ℕ} → any_applies causes ≡ false → answered a ≡ refused n c
      → drawn_answer (u8g2 font) placement.ignore_unknown_chars c ≡ stops n c
  unfolding draw_aligned
  own_number a {n} {c} off e =
      let l = drawn_text (u8g2 font) (asking a) in
      refused_by font placement.ignore_unknown_chars placement.line_height a (origin (u8g2 font) (asking a)) (code_points_of text)
      (came l.advance (sym (none_applies (box_of_layout l l.advance) causes off) ∙ e))
    where
      came : (o : Outcome Point) → box_of_layout (drawn_text (u8g2 font) (asking a)) o ≡ refused n c → o ≡ refused n c
      came (success q) k = impossible cc
      came (refused m d) k = cc

  same_number : (a b : HorizontalAlignment) {n m c : ℕ} → answered a ≡ refused n c → answered b ≡ refused m c → (t : Bool) → any_applies causes ≡ t → n ≡ m
  unfolding draw_aligned
  same_number a b {n} {m} {c} e k true on =
      let x = drawn_text (u8g2 font) (asking a) in
      let y = drawn_text (u8g2 font) (asking b) in
      let same : refused n c ≡ refused m c = sym e ∙ refused_whatever (box_of_layout x x.advance) (box_of_layout y y.advance) causes on ∙ k in
      cc
  same_number a b {n} {m} {c} e k false off =
      let same : stops n c ≡ stops m c = sym (own_number a off e) ∙ own_number b off k in
      cc

  -- So the sums of one text are the same for two alignments wherever the same letter ends it.
  pub same_sums : (a b : HorizontalAlignment) → EndsAlike (answered a) (answered b) → sums (u8g2 font) text (answered a) ≡ sums (u8g2 font) text (answered b)
  same_sums a b alike = by (answered a) (answered b) refl refl alike
    where
      by : (o q : Outcome BoundingBox) → answered a ≡ o → answered b ≡ q → EndsAlike o q → sums (u8g2 font) text o ≡ sums (u8g2 font) text q
      by (success x) (success y) e k h = refl
      by (success x) (refused m d) e k h = absurd h
      by (refused n c) (success y) e k h = absurd h
      by (refused n c) (refused m d) e k h =
          let number : n ≡ m = same_number a b e (k ∙ ap (refused m) (sym h)) (any_applies causes) refl in
          rw (number, h)

-- ---- "What holds of cells outside the box, longer fonts and larger panels extends to every alignment."

pub aligned_agreement : (first_font second_font : List ℕ) (r : Request) (color : FontColor) (p q : Ground)
    → MeasuredAsDrawn aligned_box first_font second_font r p q (aligned_results (u8g2 first_font) (u8g2 second_font) r color p q)
aligned_agreement first_font second_font r color p q h b e =
    let f = u8g2 first_font in
    let g = u8g2 second_font in
    let t = box_came (draw f r color p.framebuffer p.before) b (sym (drawn_box f r color p.framebuffer p.before) ∙ e) in
    let box : t.0.bounding_box ≡ b = t.1.1 in
    let k = agreement first_font second_font r color p q h t.0 t.1.0 in
    record {
      second_succeeds = drawn_box g r color q.framebuffer q.before ∙ ap box_alone k.second_succeeds ∙ ap success box;
      first_measures = measured_box f r ∙ ap box_alone k.first_measures ∙ ap success box;
      second_measures = measured_box g r ∙ ap box_alone k.second_measures ∙ ap success box;
      alike = k.alike;
      first_kept = subst (KeptOutside p (after f r color p)) box k.first_kept;
      second_kept = subst (KeptOutside q (after g r color q)) box k.second_kept;
    }
