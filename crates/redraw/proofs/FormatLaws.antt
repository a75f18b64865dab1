-- Request A4, of the step: on a framebuffer of any format it answers, and leaves, unpacked, what it does on one of as many pixels in
-- bytes that begins alike. Assumes nothing.
use Rattle.integers.proofs.Prelude.{◌≡◌, refl, sym, ap, ◌∙◌, Bool, true, false, ◌||◌, not, List, [], ◌∷◌, ◌++◌, ℕ, ℤ, eqb}
use Rattle.integers.specs.Integers.{pick}
use Rattle.definitions.specs.Vocabulary.{BoundingBox, None, Some, PixelFormat, RenderedDimensions, Transparent}
use Rattle.definitions.specs.Refusals.{Outcome, success, refused, Cause, unless_refused, any_applies}
use Rattle.definitions.specs.Header.{font_causes}
use Rattle.definitions.specs.Font.{u8g2}
use Rattle.definitions.specs.Picture.{put, keep, covers}
use Rattle.definitions.specs.Framebuffer.{stored, unpacked, size_in_bytes, size_off}
use Rattle.definitions.specs.Limits.{text_cause, position_cause, color_off, background_cause}
use Rattle.definitions.specs.Agreement.{Ground, on}
use Rattle.definitions.specs.Unpacking.{Unpackable, unpacked_ground, DrawnAlike}
use Rattle.definitions.proofs.ByteLaws.{keep_stored}
use Rattle.definitions.proofs.FramebufferLaws.{size_fits}
use Rattle.definitions.proofs.UnpackLaws.{unpacked_shown, color_stored, sized_in_bytes, drawn_alike}
use Rattle.framebuffer.specs.Areas.{fill_picture}
use Rattle.redraw_checks.specs.Drawing.{Drawing, asks, with_text, drawn, after}
use Rattle.redraw_checks.specs.Checks.{redraw_causes}
use Rattle.redraw.specs.Redraw.{whole_or, reading_on, cleared_by, cleared, redrawn, redrawn_buffer}
use Rattle.redraw.proofs.RedrawLaws.{length_cleared}

-- a box filled with a colour that the pixels can take
fill_stored : (f : PixelFormat) (color : ℕ) → color_off f (Transparent color) ≡ false → (b : BoundingBox) (column row : ℤ)
    → stored f (fill_picture color b column row) ≡ fill_picture color b column row
fill_stored f color bits None column row = keep_stored f
fill_stored f color bits (Some r) column row = by (covers r column row)
  where
    by : (t : Bool) → stored f (pick t (put color) keep) ≡ pick t (put color) keep
    by true = color_stored f (Transparent color) bits 1
    by false = keep_stored f

module _ (font : List ℕ) (d : Drawing) (p : Ground) (h : Unpackable d.color p) where
  abbrev q : Ground
  q = unpacked_ground p

  -- a reading on a ground
  reading_alike : reading_on font d q ≡ unpacked p.framebuffer (reading_on font d p)
  reading_alike =
      let same = drawn_alike (u8g2 font) (asks d) d.color p h in
      rw (same.answers, same.pixels) (by (drawn font d p))
    where
      by : (o : Outcome RenderedDimensions)
          → whole_or o (unpacked p.framebuffer (after font d p)) q.before ≡ unpacked p.framebuffer (whole_or o (after font d p) p.before)
      by (success e) = refl
      by (refused n c) = refl

  -- the ground with the text's reading cleared
  cleared_alike : (background : ℕ) → color_off p.framebuffer.format (Transparent background) ≡ false
      → (cleared font d background q).before ≡ unpacked p.framebuffer (cleared font d background p).before
  cleared_alike background clears = rw (drawn_alike (u8g2 font) (asks d) d.color p h).answers (by (drawn font d p))
    where
      by : (o : Outcome RenderedDimensions)
          → cleared_by q.framebuffer background o q.before ≡ unpacked p.framebuffer (cleared_by p.framebuffer background o p.before)
      by (success e) =
          unpacked_shown p.framebuffer (fill_picture background e.bounding_box)
          (fill_stored p.framebuffer.format background clears e.bounding_box) p.before (size_fits p.framebuffer p.before h.sized)
      by (refused n c) = refl

-- ---- the step

module _ (font old : List ℕ) (new : Drawing) (background : ℕ) (p : Ground) (h : Unpackable new.color p)
    (clears : color_off p.framebuffer.format (Transparent background) ≡ false) where
  abbrev bytes : Ground
  bytes = unpacked_ground p

  -- the causes of the one apply where those of the other do
  abbrev causes_by : Bool → Bool → Bool → List Cause
  causes_by size bits clearing =
      font_causes font
      ++ record { number = 3; applies = size }
      ∷ text_cause old
      ∷ text_cause new.text
      ∷ position_cause new.position new.line_height
      ∷ record { number = 9; applies = bits }
      ∷ record { number = 9; applies = clearing }
      ∷ background_cause new.color (u8g2 font).background
      ∷ []

  same_causes : redraw_causes font old new background bytes ≡ redraw_causes font old new background p
  same_causes =
      let f = p.framebuffer.format in
      ap (λ (t : Bool). causes_by t false false) (sized_in_bytes p h.sized)
      ∙ sym (ap (λ (t : Bool). causes_by t (color_off f new.color) (color_off f (Transparent background))) h.sized
      ∙ ap (λ (t : Bool). causes_by false t (color_off f (Transparent background))) h.bits
      ∙ ap (causes_by false false) clears)

  -- the ground with the old reading cleared, which the new one is drawn on
  abbrev between : Ground
  between = cleared font (with_text old new) background p

  between_fits : Unpackable new.color between
  between_fits = record {
    sized = ap (λ (n : ℕ). size_off p.framebuffer || not (eqb n (size_in_bytes p.framebuffer)))
        (length_cleared p.framebuffer background (drawn font (with_text old new) p) p.before)
        ∙ h.sized;
    bits = h.bits;
  }

  pub redrawn_alike : DrawnAlike p
      (redrawn font old new background p) (redrawn_buffer font old new background p)
      (redrawn font old new background bytes) (redrawn_buffer font old new background bytes)
  unfolding redrawn redrawn_buffer
  redrawn_alike = record {
    answers =
        ap (λ (cs : List Cause). unless_refused cs (drawn font new bytes)) same_causes
        ∙ ap (unless_refused (redraw_causes font old new background p)) (drawn_alike (u8g2 font) (asks new) new.color p h).answers;
    pixels =
        ap (λ (cs : List Cause). pick (any_applies cs) bytes.before (reading_on font new (cleared font old_drawing background bytes))) same_causes
        ∙ by (any_applies (redraw_causes font old new background p));
  }
    where
      old_drawing : Drawing
      old_drawing = with_text old new

      by : (t : Bool)
          → pick t bytes.before (reading_on font new (cleared font old_drawing background bytes))
          ≡ unpacked p.framebuffer (pick t p.before (reading_on font new between))
      by true = refl
      by false =
          ap (λ (bs : List ℕ). reading_on font new (on bytes.framebuffer bs)) (cleared_alike font old_drawing p h background clears)
          ∙ reading_alike font new between between_fits
