-- Request A4: "For colours of 0 or 1, a size both panels allow and buffers of the right lengths, show that unpacking it after a call
-- gives the byte panel drawn by the same call from the unpacked start, and that both return the same, refused calls included." It holds
-- of every format, since each shows a picture by the one law. Assumes nothing.
use Rattle.integers.proofs.Prelude.{◌≡◌, refl, sym, ap, ◌∙◌, Bool, true, false, ◌||◌, List, [], ◌∷◌, ◌++◌, ℕ, ◌+◌, ◌*◌, ◌/◌, ◌%◌, ◌≤◌}
use Rattle.integers.proofs.Prelude.{◌<◌, zero-add}
use Rattle.integers.proofs.Prelude.{div-add-mod', mod-lt, div-one, mul-le-mul_right, dec_lt, arith, eqb, ℤ, pos, nat_abs, ◌-ℤ◌, length}
use Rattle.integers.proofs.Prelude.{get_or, replicate, length-replicate}
use Rattle.integers.proofs.Prelude.{eqb-true, eqb-false, ltb-false, eq-eqb}
use Rattle.integers.specs.Integers.{pick}
use Rattle.definitions.specs.Vocabulary.{Framebuffer, PixelFormat, Bytes, Packed, GlyphReader, FontColor, Transparent, WithBackground}
use Rattle.definitions.specs.Vocabulary.{BoundingBox, None, Some}
use Rattle.definitions.specs.Refusals.{Cause, any_applies}
use Rattle.definitions.specs.Geometry.{left, top}
use Rattle.definitions.specs.Text.{Placed, box_of}
use Rattle.definitions.specs.Picture.{Paint, keep, put, Picture, paint_of, covers, box_picture, text_picture}
use Rattle.definitions.specs.Framebuffer.{over, stored, shown, paints, pixel_at, in_bytes, unpacked, side_off, size_off}
use Rattle.definitions.specs.Framebuffer.{framebuffer_cause, BufferFits}
use Rattle.definitions.specs.Limits.{text_cause, position_cause, no_bit, color_off, background_cause}
use Rattle.definitions.specs.Font.{Font, pixels_of}
use Rattle.definitions.specs.Calls.{Request, draw_causes, drawn_text, draw, draw_buffer, draw_aligned}
use Rattle.definitions.specs.Agreement.{Ground, drawn, after}
use Rattle.definitions.specs.Unpacking.{Unpackable, unpacked_ground, DrawnAlike}
use Rattle.definitions.proofs.ByteLaws.{length_map_at, map_map, map_alike, keep_stored, stored_above}
use Rattle.definitions.proofs.FramebufferLaws.{shown_at, size_fits, on_buffer}
use Rattle.definitions.proofs.RefusalLaws.{or_false}

-- ---- a picture

module _ (p : Framebuffer) (picture : Picture) (holds : (column row : ℤ) → stored p.format (picture column row) ≡ picture column row)
    (buffer : List ℕ) (f : BufferFits (length buffer) p) where
  abbrev pixels : ℕ
  pixels = p.height * p.width

  pixel_shown : (i : ℕ) → i < pixels
      → pixel_at p (shown p picture buffer) (i % p.width) (i / p.width)
      ≡ over (paints (in_bytes p) picture i 0) (pixel_at p buffer (i % p.width) (i / p.width))
  pixel_shown i h =
      let c : i % p.width < p.width = mod-lt i f.some in
      let e = div-add-mod' i p.width in
      let row : i / p.width < p.height = below (dec_lt (i / p.width) p.height) e in
      let z : i / p.width * 1 + 0 ≡ i / p.width = omega arith in
      shown_at p picture buffer (i % p.width) (i / p.width) c (on_buffer f (i % p.width) (i / p.width) c row)
      ∙ rw (holds (pos (i % p.width)) (pos (i / p.width)), z)
    where
      below : Dec (i / p.width < p.height) → i / p.width * p.width + i % p.width ≡ i → i / p.width < p.height
      below (yes k) e = k
      below (no k) e = absurd (omega (arith, e, h, past (omega arith)))
        where
          past : p.height ≤ i / p.width → p.height * p.width ≤ i / p.width * p.width
          past l = mul-le-mul_right p.width l

  -- What a framebuffer shows of a picture, unpacked, is what one in bytes shows of it.
  pub unpacked_shown : shown (in_bytes p) picture (unpacked p buffer) ≡ unpacked p (shown p picture buffer)
  unpacked_shown =
      map_map _ _ (λ i none. over (paints (in_bytes p) picture i 0) (pixel_at p buffer (i % p.width) (i / p.width))) (λ i x. refl) 0 (replicate pixels 0)
      ∙ sym (map_alike _ _ 0 (replicate pixels 0) (λ k h. simp zero-add (pixel_shown k (omega (arith, h, length-replicate {A = ℕ} pixels 0)))))

-- ---- the picture of a text, in colours that a pixel can take

bit_kept : (c : ℕ) → no_bit c ≡ false → pick (eqb c 0) 0 1 ≡ c
bit_kept c e = by (eqb c 0) refl
  where
    by : (t : Bool) → eqb c 0 ≡ t → pick t 0 1 ≡ c
    by true k = sym (eqb-true c 0 k)
    by false k = let some : c ≡ 0 → ⊥ = eqb-false c 0 k in omega (arith, some, ltb-false 1 c e)

pub color_stored : (f : PixelFormat) (color : FontColor) → color_off f color ≡ false → (bit : ℕ) → stored f (paint_of color bit) ≡ paint_of color bit
color_stored Bytes color e bit = refl
color_stored Packed (Transparent c) e bit = by (eqb bit 1)
  where
    by : (t : Bool) → stored Packed (pick t (put c) keep) ≡ pick t (put c) keep
    by true = ap put (bit_kept c e)
    by false = refl
color_stored Packed (WithBackground fg bg) e bit = by (eqb bit 1)
  where
    by : (t : Bool) → stored Packed (pick t (put fg) (put bg)) ≡ pick t (put fg) (put bg)
    by true = ap put (bit_kept fg (or_false (no_bit fg) (no_bit bg) e).0)
    by false = ap put (bit_kept bg (or_false (no_bit fg) (no_bit bg) e).1)

module _ (f : PixelFormat) (color : FontColor) (bits : color_off f color ≡ false) where
  box_stored : (ps : List ℕ) (b : BoundingBox) (column row : ℤ) → stored f (box_picture color ps b column row) ≡ box_picture color ps b column row
  box_stored ps None column row = keep_stored f
  box_stored ps (Some r) column row = by (covers r column row)
    where
      paint : Paint
      paint = paint_of color (get_or ps (nat_abs (row -ℤ top r) * r.size.width + nat_abs (column -ℤ left r)) 0)

      by : (t : Bool) → stored f (pick t paint keep) ≡ pick t paint keep
      by true = color_stored f color bits _
      by false = keep_stored f

  text_stored : (pixels_of : GlyphReader → List ℕ) (ps : List Placed) (column row : ℤ)
      → stored f (text_picture color pixels_of ps column row) ≡ text_picture color pixels_of ps column row
  unfolding text_picture
  text_stored pixels_of [] column row = keep_stored f
  text_stored pixels_of (p ∷ ps) column row =
      stored_above f (text_picture color pixels_of ps column row) (box_picture color (pixels_of p.glyph) (box_of p) column row)
      ∙ rw (text_stored pixels_of ps column row, box_stored (pixels_of p.glyph) (box_of p) column row)

-- ---- a call

-- as many pixels in bytes are within limits too
pub sized_in_bytes : (p : Ground) → (framebuffer_cause p.framebuffer p.before).applies ≡ false
    → (framebuffer_cause (unpacked_ground p).framebuffer (unpacked_ground p).before).applies ≡ false
sized_in_bytes p sized =
    let f = p.framebuffer in
    let size = or_false (size_off f) _ sized in
    let sides = or_false (side_off f.width || side_off f.height) _ size.0 in
    let one : f.height % 1 ≡ 0 = omega arith in
    let area : length (unpacked f p.before) ≡ f.height / 1 * f.width =
    length_map_at _ 0 (replicate (f.height * f.width) 0)
    ∙ length-replicate _ 0
    ∙ ap (λ (n : ℕ). n * f.width) (sym (div-one f.height))
    in
    rw (sides.0, one, area, eq-eqb (f.height / 1 * f.width) _ refl)

module _ (font : Font) (r : Request) (color : FontColor) (p : Ground) (h : Unpackable color p) where
  abbrev q : Ground
  q = unpacked_ground p

  -- the causes of the one apply where those of the other do
  abbrev causes_by : Bool → Bool → List Cause
  causes_by size bits =
      font.causes
      ++ record { number = 3; applies = size }
      ∷ text_cause r.text
      ∷ position_cause r.position r.line_height
      ∷ record { number = 9; applies = bits }
      ∷ background_cause color font.background
      ∷ []

  same_causes : draw_causes font r color q.framebuffer q.before ≡ draw_causes font r color p.framebuffer p.before
  same_causes =
      ap (λ (t : Bool). causes_by t false) (sized_in_bytes p h.sized)
      ∙ sym (ap (λ (t : Bool). causes_by t (color_off p.framebuffer.format color)) h.sized ∙ ap (causes_by false) h.bits)

  same_answer : draw font r color q.framebuffer q.before ≡ draw font r color p.framebuffer p.before
  unfolding draw
  same_answer = rw same_causes

  same_box : draw_aligned font r color q.framebuffer q.before ≡ draw_aligned font r color p.framebuffer p.before
  unfolding draw_aligned
  same_box = rw same_causes

  same_pixels : after font r color q ≡ unpacked p.framebuffer (after font r color p)
  unfolding draw_buffer
  same_pixels = rw same_causes (by (any_applies (draw_causes font r color p.framebuffer p.before)))
    where
      picture : Picture
      picture = text_picture color (pixels_of font) (drawn_text font r).glyphs

      by : (t : Bool)
          → pick t q.before (shown q.framebuffer picture q.before)
          ≡ unpacked p.framebuffer (pick t p.before (shown p.framebuffer picture p.before))
      by true = refl
      by false =
          unpacked_shown p.framebuffer picture (text_stored p.framebuffer.format color h.bits (pixels_of font) (drawn_text font r).glyphs) p.before
          (size_fits p.framebuffer p.before h.sized)

  -- Plain drawing, and aligned drawing.
  pub drawn_alike : DrawnAlike p (drawn font r color p) (after font r color p) (drawn font r color q) (after font r color q)
  drawn_alike = record { answers = same_answer; pixels = same_pixels }

  pub aligned_drawn_alike : DrawnAlike p
      (draw_aligned font r color p.framebuffer p.before) (after font r color p)
      (draw_aligned font r color q.framebuffer q.before) (after font r color q)
  aligned_drawn_alike = record { answers = same_box; pixels = same_pixels }
