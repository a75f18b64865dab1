-- The ground, reading by reading: a cleared box is background and stays so, and beside all boxes the rubbish stays. Assumes nothing.
use Rattle.integers.proofs.Prelude.{◌≡◌, refl, sym, ap, subst, ◌∙◌, Bool, true, false, List, ℕ, zero, suc, ◌+◌, ◌%◌, ◌<◌}
use Rattle.integers.proofs.Prelude.{zero-add, dec_lt, arith, pos, length, get_or, replicate, length-replicate, ext_get_or}
use Rattle.integers.proofs.Choices.{impossible}
use Rattle.definitions.specs.Vocabulary.{Framebuffer, BoundingBox, None, Some, RenderedDimensions, Transparent, Place}
use Rattle.definitions.specs.Refusals.{Outcome, success, refused}
use Rattle.definitions.specs.Geometry.{InsideBox}
use Rattle.definitions.specs.Picture.{Paint, covers}
use Rattle.definitions.specs.Framebuffer.{over, per_byte, stored, in_byte, shown, byte_at, size_in_bytes}
use Rattle.definitions.specs.Agreement.{pixel}
use Rattle.framebuffer.specs.Areas.{fill_picture}
use Rattle.redraw_checks.specs.Drawing.{measured, ground_of}
use Rattle.redraw.specs.Redraw.{cleared_by}
use Rattle.definitions.proofs.PictureLaws.{covers_inside}
use Rattle.definitions.proofs.ByteLaws.{length_map_at, getd_map_at, over_keep}
use Rattle.definitions.proofs.FramebufferLaws.{length_shown, shown_at, on_buffer}
use Rattle.definitions.proofs.UnpackLaws.{color_stored}
use Rattle.framebuffer.proofs.RowLaws.{outside}
use Rattle.framebuffer.proofs.FillLaws.{fill_inside, fill_outside}
use Rattle.sheet_ground.specs.Readings.{reading, PlaceFits}
use Rattle.sheet_ground.specs.Ground.{rubbish_at, rubbish, cleared_to, ground, ClearTo, RubbishBeside, GroundLaid}

-- ---- rubbish

pub length_rubbish : (n : ℕ) → length (rubbish n) ≡ n
unfolding rubbish
length_rubbish n = length_map_at (λ i old. rubbish_at i) 0 (replicate n 0) ∙ length-replicate n 0

rubbish_at_lem : (n i : ℕ) → i < n → get_or (rubbish n) i 0 ≡ rubbish_at i
unfolding rubbish
rubbish_at_lem n i h =
    getd_map_at (λ i old. rubbish_at i) 0 (replicate n 0) i (omega (arith, length-replicate {A = ℕ} n 0))
    ∙ ap rubbish_at (zero-add i)

pub all_rubbish : (l : List ℕ) (n : ℕ) → length l ≡ n → ((i : ℕ) → i < length l → get_or l i 0 ≡ rubbish_at i) → l ≡ rubbish n
all_rubbish l n e each =
    ext_get_or 0 l (rubbish n) (e ∙ sym (length_rubbish n)) (λ i h. each i h ∙ sym (rubbish_at_lem n i (omega arith)))

-- ---- one box

module _ (place : Place) (fits : PlaceFits (size_in_bytes place.framebuffer) place) (bytes : List ℕ) (whole : length bytes ≡ size_in_bytes place.framebuffer) where
  abbrev p : Framebuffer
  p = place.framebuffer

  module _ (box : BoundingBox) where
    pub length_cleared : length (shown p (fill_picture place.background box) bytes) ≡ size_in_bytes p
    length_cleared = length_shown p (fill_picture place.background box) bytes ∙ whole

    module _ (column row : ℕ) (c : column < p.width) (r : row < p.height) where
      abbrev before : ℕ
      before = pixel (ground_of place bytes) bytes column row

      abbrev after : ℕ
      after = pixel (ground_of place bytes) (shown p (fill_picture place.background box) bytes) column row

      cleared_pixel : after ≡ over (stored p.format (fill_picture place.background box (pos column) (pos row))) before
      cleared_pixel = shown_at p (fill_picture place.background box) bytes column row c (omega (arith, whole, on_buffer fits.fits column row c r))

  module _ (column row : ℕ) (c : column < p.width) (r : row < p.height) where
    in_box : (box : BoundingBox) → InsideBox (pos column) (pos row) box → after box column row c r ≡ place.background
    in_box None i = absurd i
    in_box (Some b) i =
        cleared_pixel (Some b) column row c r
        ∙ ap (λ (x : Paint). over (stored p.format x) (before (Some b) column row c r)) (fill_inside place.background b (pos column) (pos row) i)
        ∙ ap (λ (x : Paint). over x (before (Some b) column row c r)) (color_stored p.format (Transparent place.background) fits.takes 1)

    beside : (box : BoundingBox) → (InsideBox (pos column) (pos row) box → ⊥) → after box column row c r ≡ pixel (ground_of place bytes) bytes column row
    beside None i = cleared_pixel None column row c r ∙ over_keep p.format (before None column row c r)
    beside (Some b) i =
        cleared_pixel (Some b) column row c r
        ∙ ap (λ (x : Paint). over (stored p.format x) (before (Some b) column row c r)) (fill_outside place.background b (pos column) (pos row) i)
        ∙ over_keep p.format (before (Some b) column row c r)

    -- background stays background
    stays : (box : BoundingBox) → pixel (ground_of place bytes) bytes column row ≡ place.background → after box column row c r ≡ place.background
    stays None e = beside None (λ i. i) ∙ e
    stays (Some b) e = by (covers b (pos column) (pos row)) refl
      where
        by : (t : Bool) → covers b (pos column) (pos row) ≡ t → after (Some b) column row c r ≡ place.background
        by true h = in_box (Some b) (covers_inside (pos column) (pos row) b h)
        by false h = beside (Some b) (outside b (pos column) (pos row) h) ∙ e

-- ---- one reading after the other

same_box : {d e : RenderedDimensions} → ◌≡◌ {A = Outcome RenderedDimensions} (success d) (success e) → d.bounding_box ≡ e.bounding_box
same_box {d} {e} h = let same : d ≡ e = cc in ap (λ (x : RenderedDimensions). x.bounding_box) same

not_both : {n c : ℕ} {d : RenderedDimensions} → ◌≡◌ {A = Outcome RenderedDimensions} (refused n c) (success d) → ⊥
not_both e = impossible cc

module _ (font : List ℕ) (place : Place) (fits : PlaceFits (size_in_bytes place.framebuffer) place) where
  length_by : (o : Outcome RenderedDimensions) (bytes : List ℕ) → length bytes ≡ size_in_bytes place.framebuffer
      → length (cleared_by place.framebuffer place.background o bytes) ≡ size_in_bytes place.framebuffer
  length_by (success d) bytes l = length_cleared place fits bytes l d.bounding_box
  length_by (refused n c) bytes l = l

  module _ (n : ℕ) (bytes : List ℕ)
      (whole : length bytes ≡ size_in_bytes place.framebuffer) where
    clear_next : (o : Outcome RenderedDimensions) → measured font (reading place n) ≡ o → ClearTo n font place bytes
        → ClearTo (suc n) font place (cleared_by place.framebuffer place.background o bytes)
    clear_next (success d) m clear k h e f column row c r i = by (dec_lt k n)
      where
        by : Dec (k < n) → pixel (ground_of place bytes) (shown place.framebuffer (fill_picture place.background d.bounding_box) bytes) column row ≡ place.background
        by (yes p) = stays place fits bytes whole column row c r d.bounding_box (clear k p e f column row c r i)
        by (no p) =
            let last : n ≡ k = omega arith in
            let box : d.bounding_box ≡ e.bounding_box = same_box (sym m ∙ ap (λ (j : ℕ). measured font (reading place j)) last ∙ f) in
            in_box place fits bytes whole column row c r d.bounding_box (subst (InsideBox (pos column) (pos row)) (sym box) i)
    clear_next (refused a b) m clear k h e f column row c r i = by (dec_lt k n)
      where
        by : Dec (k < n) → pixel (ground_of place bytes) bytes column row ≡ place.background
        by (yes p) = clear k p e f column row c r i
        by (no p) = let last : n ≡ k = omega arith in absurd (not_both (sym m ∙ ap (λ (j : ℕ). measured font (reading place j)) last ∙ f))

    rubbish_next : (o : Outcome RenderedDimensions) → measured font (reading place n) ≡ o → RubbishBeside n font place bytes
        → RubbishBeside (suc n) font place (cleared_by place.framebuffer place.background o bytes)
    rubbish_next (success d) m stays column row c r out =
        beside place fits bytes whole column row c r d.bounding_box (λ i. out n (omega arith) d m i)
        ∙ stays column row c r (λ k h e f i. out k (omega arith) e f i)
    rubbish_next (refused a b) m stays column row c r out = stays column row c r (λ k h e f i. out k (omega arith) e f i)

  abbrev first : ℕ → List ℕ
  first k = cleared_to font place k (rubbish (size_in_bytes place.framebuffer))

  pub length_first : (k : ℕ) → length (first k) ≡ size_in_bytes place.framebuffer
  unfolding cleared_to
  length_first zero = length_rubbish (size_in_bytes place.framebuffer)
  length_first (suc k) = length_by (measured font (reading place k)) (first k) (length_first k)

  pub is_clear : (k : ℕ) → ClearTo k font place (first k)
  unfolding cleared_to
  is_clear zero = λ k h. absurd (omega arith)
  is_clear (suc k) = clear_next k (first k) (length_first k) (measured font (reading place k)) refl (is_clear k)

  pub rubbish_stays : (k : ℕ) → RubbishBeside k font place (first k)
  unfolding cleared_to
  rubbish_stays zero = λ column row c r out.
      ap (in_byte place.framebuffer.format (row % per_byte place.framebuffer.format))
      (rubbish_at_lem (size_in_bytes place.framebuffer) (byte_at place.framebuffer column row) (on_buffer fits.fits column row c r))
  rubbish_stays (suc k) = rubbish_next k (first k) (length_first k) (measured font (reading place k)) refl (rubbish_stays k)

-- as the loop goes
module _ (font : List ℕ) (place : Place) where
  pub laid_start : (n : ℕ) (bytes : List ℕ) → bytes ≡ rubbish n → bytes ≡ cleared_to font place 0 (rubbish (length bytes))
  unfolding cleared_to
  laid_start n bytes e = e ∙ ap rubbish (sym (ap length e ∙ length_rubbish n))

  -- The boxes of the first k readings are cleared.
  pub record LaidTo (before after : List ℕ) (k : ℕ) : Type 0 where
    pub long : length after ≡ length before
    pub is : after ≡ cleared_to font place k (rubbish (length before))

  pub laid_next : (n k : ℕ) {bytes next : List ℕ} → bytes ≡ cleared_to font place k (rubbish n)
      → next ≡ cleared_by place.framebuffer place.background (measured font (reading place k)) bytes
      → next ≡ cleared_to font place (k + 1) (rubbish n)
  unfolding cleared_to
  laid_next n k e h =
      let suc_is : suc k ≡ k + 1 = omega arith in
      h ∙ ap (λ (b : List ℕ). cleared_by place.framebuffer place.background (measured font (reading place k)) b) e ∙ ap (λ (j : ℕ). cleared_to font place j (rubbish n)) suc_is

  -- All readings' boxes are cleared.
  pub laid : (n k : ℕ) (bytes : List ℕ) → PlaceFits n place → k ≡ 901
      → bytes ≡ cleared_to font place k (rubbish n)
      → GroundLaid font place bytes
  laid n k bytes fits_n all e =
      let whole = fits_n.fits.area in
      let fits = subst (λ (m : ℕ). PlaceFits m place) whole fits_n in
      let is : bytes ≡ ground font place = e ∙ ap (λ (j : ℕ). cleared_to font place j (rubbish n)) all ∙ ap (λ (m : ℕ). cleared_to font place 901 (rubbish m)) whole in
      record {
        laid = is;
        clear = subst (ClearTo 901 font place) (sym is) (is_clear font place fits 901);
        beside = subst (RubbishBeside 901 font place) (sym is) (rubbish_stays font place fits 901);
      }
