-- SPECIFICATION, Agreement: two drawings of one text agree, however it is aligned. A longer font answers each letter that the first drew with
-- the same glyph and the same pixels; so both texts are laid out alike and make one picture, and the framebuffer's law does
-- the rest.
-- Assumes nothing.
use Rattle.integers.proofs.Prelude.{◌≡◌, refl, sym, ap, subst, ◌∙◌, Bool, false, List, [], ◌∷◌, ◌++◌, ℕ, ◌*◌, ◌≤◌, ◌<◌}
use Rattle.integers.proofs.Prelude.{arith, ℤ, pos, length}
use Rattle.integers.proofs.Choices.{LedOn, impossible}
use Rattle.definitions.specs.Vocabulary.{PixelFormat, FontReader, BoundingBox, Point, RenderedDimensions, GlyphReader, FontColor}
use Rattle.definitions.specs.Refusals.{Outcome, success, refused, Cause, any_applies}
use Rattle.definitions.specs.Header.{header}
use Rattle.definitions.specs.Lookup.{Search, found, missing, short, search, steps_of}
use Rattle.definitions.specs.Glyph.{fields, from_search, glyph}
use Rattle.definitions.specs.Geometry.{InsideBox}
use Rattle.definitions.specs.Text.{Answer, shows, nothing, answer, join_all, Layout, dimensions_of, dimensions}
use Rattle.definitions.specs.Runs.{Pixels, pixels, cut}
use Rattle.definitions.specs.Font.{Font, u8g2, measured_answer, with_runs, drawable, drawn_answer, pixel_list, pixels_of}
use Rattle.definitions.specs.Picture.{Paint, text_picture}
use Rattle.definitions.specs.Framebuffer.{over, stored, byte_at, framebuffer_cause}
use Rattle.definitions.specs.Limits.{text_cause, position_cause, color_off, color_cause, background_off, background_cause}
use Rattle.definitions.specs.Calls.{Request, code_points_of, origin, laid, measure_causes, measured_text, measure, draw_causes, drawn_text, draw, draw_buffer}
use Rattle.definitions.specs.Agreement.{Ground, WithinLimits, drawn, after, pixel, width, height, results, plain_box, KeptOutside, Agree, MeasuredAsDrawn}
use Rattle.definitions.proofs.RefusalLaws.{went_on, none_applies, succeeded, NoneApplies, each_off, all_off, any_parts, parts_any}
use Rattle.definitions.proofs.OpenedLaws.{opened_by_causes}
use Rattle.definitions.proofs.LookupLaws.{header_longer, search_longer}
use Rattle.definitions.proofs.GlyphLaws.{fields_longer}
use Rattle.definitions.proofs.RunsLaws.{glyph_pixels_longer}
use Rattle.definitions.proofs.TextLaws.{Follows, same_aligned, each_glyph}
use Rattle.definitions.proofs.PictureLaws.{picture_outside, same_pixels_picture}
use Rattle.definitions.proofs.ByteLaws.{over_keep}
use Rattle.definitions.proofs.FramebufferLaws.{shown_at, size_fits, on_buffer}

-- ---- what a letter that shows a glyph tells, where nothing is skipped

shown_answer : (o : Outcome GlyphReader) (g : GlyphReader) → answer false o ≡ shows g → o ≡ success g
shown_answer (success h) g e = cc
shown_answer (refused n c) g e = impossible cc

no_nothing : (o : Outcome GlyphReader) → answer false o ≡ nothing → ⊥
no_nothing (success h) e = impossible cc
no_nothing (refused n c) e = impossible cc

-- a glyph that can be drawn, with its pixels
pub record Drawable (font : Font) (c : ℕ) (g : GlyphReader) : Type 0 where
  pub answer : font.glyph c ≡ success g
  pub bits : List ℕ
  pub runs : font.pixels g ≡ pixels bits

-- all runs were there
with_runs_lem : (font : Font) (c : ℕ) (h g : GlyphReader) (p : Pixels) → font.glyph c ≡ success h → font.pixels h ≡ p → with_runs c h p ≡ success g → Drawable font c g
with_runs_lem font c h g (pixels ps) a k e =
    let same : h ≡ g = cc in
    record { answer = a ∙ ap success same; bits = ps; runs = ap font.pixels (sym same) ∙ k }
with_runs_lem font c h g cut a k e = impossible cc

drawable_glyph : (font : Font) (c : ℕ) (g : GlyphReader) → drawn_answer font false c ≡ shows g → Drawable font c g
drawable_glyph font c g e =
    let s = went_on (font.glyph c) (λ h. with_runs c h (font.pixels h)) g (shown_answer (drawable font c (font.glyph c)) g e) in
    with_runs_lem font c s.value g (font.pixels s.value) s.was refl s.gives

-- ---- a font that follows another

-- Wherever f answers a code point with a glyph whose pixels are whole, g answers with the same glyph and the same pixels; and both
-- have the same ascent, descent and leave for a background colour. What f refuses, g may answer.
infix 20 ◌⊑◌
pub record ◌⊑◌ (f g : Font) : Type 0 where
  pub ascent : g.ascent ≡ f.ascent
  pub descent : g.descent ≡ f.descent
  pub background : g.background ≡ f.background
  pub letter : (c : ℕ) (h : GlyphReader) (ps : List ℕ) → f.glyph c ≡ success h → f.pixels h ≡ pixels ps
      → (g.glyph c ≡ success h) × (g.pixels h ≡ pixels ps)

pub follows_itself : (f : Font) → f ⊑ f
follows_itself f = record { ascent = refl; descent = refl; background = refl; letter = λ c h ps e k. (e, k) }

from_search_lem : (font : List ℕ) (c : ℕ) (g : GlyphReader) (s : Search) → from_search font c s ≡ success g
    → LedOn (λ start. found start (steps_of s)) s (λ start. fields font (header font) c (start * 8)) (success g)
from_search_lem font c g (found start steps) e = record { value = start; was = refl; gives = e }
from_search_lem font c g (missing steps) e = impossible cc
from_search_lem font c g short e = impossible cc

module _ (font more : List ℕ) (least : 23 ≤ length font) where
  glyph_longer : (c : ℕ) (g : GlyphReader) → glyph font c ≡ success g → glyph (font ++ more) c ≡ success g
  unfolding glyph
  glyph_longer c g e =
      let t = from_search_lem font c g (search font c) e in
      rw (search_longer font more least c t.value _ t.was, header_longer font more least)
      (fields_longer font (header font) c (t.value * 8) g more t.gives)

  -- A longer font follows the font.
  pub longer_follows : u8g2 font ⊑ u8g2 (font ++ more)
  longer_follows = record {
    ascent = ap (λ (h : FontReader). h.ascent) (header_longer font more least);
    descent = ap (λ (h : FontReader). h.descent) (header_longer font more least);
    background = ap (λ (h : FontReader). h.supports_background_color) (header_longer font more least);
    letter = λ c h ps e k.
        (glyph_longer c h e, rw (header_longer font more least) (glyph_pixels_longer font (header font) h ps more k));
  }

-- ---- one drawing within the limits

pub dimensions_success : (b : BoundingBox) (o : Outcome Point) (d : RenderedDimensions) → dimensions_of b o ≡ success d
    → (o ≡ success d.advance) × (b ≡ d.bounding_box)
dimensions_success b o d e =
    let t = went_on o (λ a. success record { advance = a; bounding_box = b }) d e in
    let same : record { advance = t.value; bounding_box = b } ≡ d = cc t.gives in
    (t.was ∙ ap (λ (x : RenderedDimensions). success x.advance) same, ap (λ (x : RenderedDimensions). x.bounding_box) same)

abbrev causes : Font → Request → FontColor → Ground → List Cause
causes font r color p = draw_causes font r color p.framebuffer p.before

module _ (font : Font) (r : Request) (p : Ground) (within : WithinLimits font r p) where
  abbrev later : List Cause
  later = framebuffer_cause p.framebuffer p.before ∷ text_cause r.text ∷ position_cause r.position r.line_height ∷ []

  pub font_off : any_applies font.causes ≡ false
  font_off = (any_parts font.causes later within).0

  later_off : any_applies later ≡ false
  later_off = (any_parts font.causes later within).1

  off : NoneApplies later
  off = each_off later later_off

  -- measuring has no cause of its own
  measuring : any_applies (measure_causes font r) ≡ false
  measuring =
      parts_any font.causes _ font_off (all_off (text_cause r.text ∷ position_cause r.position r.line_height ∷ []) off.1)

  -- drawing has those of the colours
  drawing : (color : FontColor) → color_off p.framebuffer.format color ≡ false → background_off color font.background ≡ false
      → any_applies (causes font r color p) ≡ false
  drawing color b e =
      let last = color_cause p.framebuffer.format color ∷ background_cause color font.background ∷ [] in
      parts_any font.causes _ font_off (parts_any later last later_off (all_off last (b, (e, tt))))

  lies : (column row : ℕ) → column < width p → row < height p → byte_at p.framebuffer column row < length p.before
  lies column row c k = on_buffer (size_fits p.framebuffer p.before off.0) column row c k

  module _ (color : FontColor) (unrefused : any_applies (causes font r color p) ≡ false) where
    pixel_after : (column row : ℕ) → column < width p → row < height p
        → pixel p (after font r color p) column row
        ≡ over (stored p.framebuffer.format (text_picture color (pixels_of font) (drawn_text font r).glyphs (pos column) (pos row))) (pixel p p.before column row)
    unfolding draw_buffer
    pixel_after column row c k =
        rw unrefused
        (shown_at p.framebuffer (text_picture color (pixels_of font) (drawn_text font r).glyphs) p.before column row c (lies column row c k))

    kept : (b : BoundingBox) → join_all (drawn_text font r).glyphs ≡ b → KeptOutside p (after font r color p) b
    kept b box column row c k out =
        pixel_after column row c k
        ∙ ap (λ (x : Paint). over (stored p.framebuffer.format x) (pixel p p.before column row))
        (picture_outside color (pixels_of font) (drawn_text font r).glyphs (pos column) (pos row)
        (λ i. out (subst (InsideBox (pos column) (pos row)) box i)))
        ∙ over_keep p.framebuffer.format (pixel p p.before column row)

-- ---- two drawings

module _ {f g : Font} (h : f ⊑ g) where
  drawable_follows : (c : ℕ) (k : GlyphReader) (d : Drawable f c k) → (g.glyph c ≡ success k) × (g.pixels k ≡ pixels d.bits)
  drawable_follows c k d = h.letter c k d.bits d.answer d.runs

  never : (c : ℕ) → drawn_answer f false c ≡ nothing → ⊥
  never c e = no_nothing (drawable f c (f.glyph c)) e

  drawn_follows : Follows (drawn_answer f false) (drawn_answer g false)
  drawn_follows = record {
    same = λ c k e. let d = drawable_follows c k (drawable_glyph f c k e) in rw d.0 (rw d.1);
    skips = λ c e. absurd (never c e);
  }

  measured_follows : Follows (drawn_answer f false) (measured_answer g false)
  measured_follows = record { same = λ c k e. rw (drawable_follows c k (drawable_glyph f c k e)).0; skips = λ c e. absurd (never c e) }

  same_pixels : (c : ℕ) (k : GlyphReader) → drawn_answer f false c ≡ shows k → pixels_of f k ≡ pixels_of g k
  same_pixels c k e =
      let d = drawable_glyph f c k e in
      ap pixel_list d.runs ∙ sym (ap pixel_list (drawable_follows c k d).1)

  same_origin : (r : Request) → origin g r ≡ origin f r
  same_origin r = rw (h.ascent, h.descent)

module _ (f g : Font) (h : f ⊑ g) (r : Request) (no_skips : r.skip ≡ false) (color : FontColor) (p q : Ground)
    (first_within : WithinLimits f r p) (second_within : WithinLimits g r q)
    (same_format : q.framebuffer.format ≡ p.framebuffer.format) (d : RenderedDimensions) (first_succeeds : drawn f r color p ≡ success d) where
  -- what the first drawing's success tells
  first : (any_applies (causes f r color p) ≡ false) × (dimensions (drawn_text f r) ≡ success d)
  unfolding draw
  first = succeeded (dimensions (drawn_text f r)) d (causes f r color p) first_succeeds

  advance_and_box : ((drawn_text f r).advance ≡ success d.advance) × (join_all (drawn_text f r).glyphs ≡ d.bounding_box)
  advance_and_box = dimensions_success (join_all (drawn_text f r).glyphs) (drawn_text f r).advance d first.1

  second_unrefused : any_applies (causes g r color q) ≡ false
  second_unrefused =
      let last = color_cause p.framebuffer.format color ∷ background_cause color f.background ∷ [] in
      let allowed = (any_parts f.causes _ first.0).1 in
      let colors = each_off last (any_parts (later f r p first_within) last allowed).1 in
      drawing g r q second_within color
      (ap (λ (format : PixelFormat). color_off format color) same_format ∙ colors.0)
      (ap (background_off color) h.background ∙ colors.1.0)

  -- letters that follow the first drawing's are laid out alike
  follows_laid : (k : Font) → origin k r ≡ origin f r → (measured answers : ℕ → Answer)
      → Follows (drawn_answer f false) measured → Follows (drawn_answer f false) answers → laid k r measured answers ≡ drawn_text f r
  follows_laid k same measured answers m e =
      rw (same, no_skips)
      (same_aligned (measured_follows (follows_itself f)) m e (origin f r) r.line_height r.align (code_points_of r.text) d.advance (rw no_skips at advance_and_box.0))

  same_text : drawn_text g r ≡ drawn_text f r
  same_text =
      ap (λ (s : Bool). laid g r (measured_answer g s) (drawn_answer g s)) no_skips
      ∙ follows_laid g (same_origin h r) (measured_answer g false) (drawn_answer g false) (measured_follows h) (drawn_follows h)

  measured_text_lem : (k : Font) → f ⊑ k → measured_text k r ≡ drawn_text f r
  measured_text_lem k l =
      ap (λ (s : Bool). laid k r (measured_answer k s) (measured_answer k s)) no_skips
      ∙ follows_laid k (same_origin l r) (measured_answer k false) (measured_answer k false) (measured_follows l) (measured_follows l)

  same_picture : (column row : ℤ)
      → text_picture color (pixels_of f) (drawn_text f r).glyphs column row
      ≡ text_picture color (pixels_of g) (drawn_text g r).glyphs column row
  same_picture column row =
      same_pixels_picture color (pixels_of f) (pixels_of g) (drawn_text f r).glyphs
      (each_glyph (λ k. pixels_of f k ≡ pixels_of g k) (measured_answer f r.skip) (drawn_answer f r.skip)
      (λ c k e. same_pixels h c k (rw no_skips at e))
      r.line_height (origin f r) r.align (code_points_of r.text))
      column row
      ∙ ap (λ (l : Layout). text_picture color (pixels_of g) l.glyphs column row) (sym same_text)

  second : drawn g r color q ≡ success d
  unfolding draw
  second = none_applies (dimensions (drawn_text g r)) (causes g r color q) second_unrefused ∙ ap dimensions same_text ∙ first.1

  measures : (k : Font) (o : Ground) → f ⊑ k → WithinLimits k r o → measure k r ≡ success d
  unfolding measure
  measures k o l within = none_applies _ (measure_causes k r) (measuring k r o within) ∙ ap dimensions (measured_text_lem k l) ∙ first.1

  pub agree : width p ≤ width q → height p ≤ height q → Agree plain_box p q (results f g r color p q) d
  agree as_wide as_high = record {
    second_succeeds = second;
    first_measures = measures f p (follows_itself f) first_within;
    second_measures = measures g q h second_within;
    alike = λ column row c k began.
        pixel_after f r p first_within color first.0 column row c k
        ∙ (cc (same_picture (pos column) (pos row), same_format))
        ∙ sym (pixel_after g r q second_within color second_unrefused column row (omega arith) (omega arith));
    first_kept = kept f r p first_within color first.0 d.bounding_box advance_and_box.1;
    second_kept = kept g r q second_within color second_unrefused d.bounding_box (ap (λ (l : Layout). join_all l.glyphs) same_text ∙ advance_and_box.1);
  }

-- SPECIFICATION, Agreement, of the definitions.
pub agreement : (first_font second_font : List ℕ) (r : Request) (color : FontColor) (p q : Ground)
    → MeasuredAsDrawn plain_box first_font second_font r p q (results (u8g2 first_font) (u8g2 second_font) r color p q)
agreement first_font second_font r color p q h d e =
    let longer = h.longer in
    let least = (opened_by_causes first_font (font_off (u8g2 first_font) r p h.first_within)).least in
    let follows = subst (λ (font : List ℕ). u8g2 first_font ⊑ u8g2 font) (sym longer) (longer_follows first_font h.more least) in
    agree (u8g2 first_font) (u8g2 second_font) follows r h.no_skips color p q h.first_within h.second_within h.same_format d e h.as_wide h.as_high

-- One drawing that succeeds: it is measured alike, and keeps what is outside its box.
pub alone : (font : Font) (r : Request) (no_skips : r.skip ≡ false) (color : FontColor) (p : Ground) (d : RenderedDimensions)
    → WithinLimits font r p → drawn font r color p ≡ success d → Agree plain_box p p (results font font r color p p) d
alone font r no_skips color p d within e = agree font font (follows_itself font) r no_skips color p p within within refl d e (omega arith) (omega arith)
