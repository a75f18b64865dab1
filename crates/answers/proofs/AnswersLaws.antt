-- The glyphs that the answers to characters show: found, and in drawing with all their runs. Assumes nothing.
use Rattle.integers.proofs.Prelude.{◌≡◌, refl, sym, ap, ◌∙◌, Bool, true, false, ◌&&◌, List, ℕ, arith, eqb}
use Rattle.integers.proofs.Choices.{impossible}
use Rattle.integers.specs.Integers.{pick}
use Rattle.definitions.specs.Vocabulary.{FontReader, GlyphReader}
use Rattle.definitions.specs.Refusals.{Outcome, success, refused}
use Rattle.definitions.specs.Header.{header, Opened}
use Rattle.definitions.specs.Glyph.{glyph}
use Rattle.definitions.specs.Text.{Answer, shows, nothing, stops, answer}
use Rattle.definitions.specs.Runs.{Pixels, pixels, cut, glyph_pixels}
use Rattle.definitions.specs.Font.{u8g2, with_runs, drawable, drawn_answer}
use Rattle.definitions.proofs.GlyphLaws.{glyph_range}
use Rattle.runs.specs.RunReads.{is_whole}
use Rattle.answers.specs.Answers.{RunsChecked}

-- the glyphs that the letters of an opened font show
pub shown_glyph : (skip : Bool) (o : Outcome GlyphReader) (g : GlyphReader) → answer skip o ≡ shows g → o ≡ success g
shown_glyph skip (success h) g e = cc
shown_glyph skip (refused n c) g e = by (skip && eqb n 7) e
  where
    by : (t : Bool) → pick t nothing (stops n c) ≡ shows g → refused n c ≡ success g
    by true e = impossible cc
    by false e = impossible cc

-- An 8 is not skipped, and no other number but 7.
pub stays : (skip : Bool) (l : Answer) → l ≡ pick (skip && false) nothing l
stays true l = refl
stays false l = refl

whole_runs : (c : ℕ) (g : GlyphReader) (p : Pixels) → is_whole p ≡ true → success g ≡ with_runs c g p
whole_runs c g (pixels ps) e = refl
whole_runs c g cut e = impossible cc

cut_runs : (c : ℕ) (g : GlyphReader) (p : Pixels) → is_whole p ≡ false → refused 8 c ≡ with_runs c g p
cut_runs c g (pixels ps) e = impossible cc
cut_runs c g cut e = refl

-- the header that was read is the font's
module _ {font : List ℕ} {head : FontReader} (o : Opened font head) where
  read_whole : (g : GlyphReader) → is_whole (glyph_pixels font head g) ≡ is_whole (glyph_pixels font (header font) g)
  read_whole g = ap (λ (h : FontReader). is_whole (glyph_pixels font h g)) o.read

  -- a glyph that was found, by whether its runs are all there
  module _ (c : ℕ) {g : GlyphReader} (found : glyph font c ≡ success g) where
    pub whole_glyph : is_whole (glyph_pixels font head g) ≡ true → success g ≡ drawable (u8g2 font) c (glyph font c)
    whole_glyph e = rw found (whole_runs c g (glyph_pixels font (header font) g) (sym (read_whole g) ∙ e))

    pub cut_glyph : is_whole (glyph_pixels font head g) ≡ false → refused 8 c ≡ drawable (u8g2 font) c (glyph font c)
    cut_glyph e = rw found (cut_runs c g (glyph_pixels font (header font) g) (sym (read_whole g) ∙ e))

-- a glyph that a letter shows was found, and its runs are all there
pub drawn_glyph : (font : List ℕ) (skip : Bool) (c : ℕ) (g : GlyphReader) → drawn_answer (u8g2 font) skip c ≡ shows g
    → (glyph font c ≡ success g) × (is_whole (glyph_pixels font (header font) g) ≡ true)
drawn_glyph font skip c g e = by (glyph font c) refl (shown_glyph skip (drawable (u8g2 font) c (glyph font c)) g e)
  where
    with_runs_lem : (h : GlyphReader) → glyph font c ≡ success h → (p : Pixels) → glyph_pixels font (header font) h ≡ p → with_runs c h p ≡ success g
        → (glyph font c ≡ success g) × (is_whole (glyph_pixels font (header font) g) ≡ true)
    with_runs_lem h k (pixels ps) q d =
        let same : h ≡ g = cc in
        (k ∙ ap success same, ap (λ (x : GlyphReader). is_whole (glyph_pixels font (header font) x)) (sym same) ∙ ap is_whole q)
    with_runs_lem h k cut q d = impossible cc

    by : (o : Outcome GlyphReader) → glyph font c ≡ o → drawable (u8g2 font) c o ≡ success g
        → (glyph font c ≡ success g) × (is_whole (glyph_pixels font (header font) g) ≡ true)
    by (success h) k d = with_runs_lem h k (glyph_pixels font (header font) h) refl d
    by (refused n m) k d = impossible cc

module _ {font : List ℕ} {head : FontReader} (o : Opened font head) (skip : Bool) (c : ℕ) where
  pub runs_checked : RunsChecked font head (drawn_answer (u8g2 font) skip c)
  runs_checked g e =
      let d = drawn_glyph font skip c g e in
      let r = glyph_range font head c g o d.0 in
      record { opened = o; place = omega arith; whole = read_whole o g ∙ d.1 }
