-- The framebuffer as a window onto a picture: its one law, for every format, and when two pictures give the same bytes. What holds of
-- a pixel at column and row comes from here; no other file divides by the width. Assumes nothing.
use Rattle.integers.proofs.Prelude.{◌≡◌, sym, ap, ◌∙◌, false, ◌||◌, List, ℕ, ◌+◌, ◌*◌, ◌/◌, ◌%◌, ◌≤◌, ◌<◌, div-add-mod', mod-lt, zero-add}
use Rattle.integers.proofs.Prelude.{mod-eq_of_lt, div-eq_of_lt, mul-add-div_right, mul-add-mod_self_right, mul-le-mul_right, dec_lt}
use Rattle.integers.proofs.Prelude.{arith, ltb, eqb}
use Rattle.integers.proofs.Prelude.{pos, length, get_or, eqb-true, eqb-false, ltb-false, not-false}
use Rattle.definitions.specs.Vocabulary.{Framebuffer}
use Rattle.definitions.specs.Picture.{Paint, keep, Picture, above}
use Rattle.definitions.specs.Framebuffer.{over, per_byte, stored, in_byte, paint_byte, paints, shown, byte_at, pixel_at, byte_rows}
use Rattle.definitions.specs.Framebuffer.{size_in_bytes, side_off, size_off, framebuffer_cause, BufferFits}
use Rattle.definitions.proofs.RefusalLaws.{or_false}
use Rattle.definitions.proofs.ByteLaws.{length_map_at, getd_map_at, map_map, map_alike, map_same, byte_painted, byte_twice, byte_alike}
use Rattle.definitions.proofs.ByteLaws.{byte_blank, over_keep, some_per_byte}

-- ---- column and row of an index

module _ {width column : ℕ} (inside : column < width) (row : ℕ) where
  pub column_of : (row * width + column) % width ≡ column
  column_of = mul-add-mod_self_right row width column ∙ mod-eq_of_lt inside

  pub row_of : (row * width + column) / width ≡ row
  row_of =
      let some : 0 < width = omega arith in
      let e = div-eq_of_lt inside in
      mul-add-div_right some row column ∙ omega arith

-- ---- the window

module _ (p : Framebuffer) (picture : Picture) (buffer : List ℕ) where
  pub length_shown : length (shown p picture buffer) ≡ length buffer
  length_shown = length_map_at _ 0 buffer

  -- the byte at an index
  pub shown_index : (i : ℕ) → i < length buffer
      → get_or (shown p picture buffer) i 0 ≡ paint_byte p.format (paints p picture i) (get_or buffer i 0)
  shown_index i h = getd_map_at _ 0 buffer i h ∙ simp zero-add

  -- what is drawn on the pixels of the byte that holds the one at column and row
  pub paints_at : (column row k : ℕ) → column < p.width
      → paints p picture (byte_at p column row) k ≡ picture (pos column) (pos (row / per_byte p.format * per_byte p.format + k))
  paints_at column row k c = rw (column_of c (row / per_byte p.format), row_of c (row / per_byte p.format))

  -- The law of every framebuffer: the pixel at column and row is the picture's there, over what it was.
  pub shown_at : (column row : ℕ) → column < p.width → byte_at p column row < length buffer
      → pixel_at p (shown p picture buffer) column row ≡ over (stored p.format (picture (pos column) (pos row))) (pixel_at p buffer column row)
  shown_at column row c h =
      let n = per_byte p.format in
      let k : row % n < n = mod-lt row (some_per_byte p.format) in
      let e : row / n * n + row % n ≡ row = div-add-mod' row n in
      ap (in_byte p.format (row % n)) (shown_index (byte_at p column row) h)
      ∙ byte_painted p.format (paints p picture (byte_at p column row)) (get_or buffer (byte_at p column row) 0) (row % n) k
      ∙ ap (λ (x : Paint). over (stored p.format x) (pixel_at p buffer column row))
      (paints_at column row (row % n) c ∙ ap (λ (y : ℕ). picture (pos column) (pos y)) e)

-- ---- a buffer of the framebuffer's size

pub size_fits : (p : Framebuffer) (buffer : List ℕ) → (framebuffer_cause p buffer).applies ≡ false → BufferFits (length buffer) p
size_fits p buffer e =
    let size = or_false (size_off p) _ e in
    let sides = or_false (side_off p.width || side_off p.height) _ size.0 in
    let each = or_false (side_off p.width) (side_off p.height) sides.0 in
    let w = or_false (eqb p.width 0) (ltb 256 p.width) each.0 in
    let h = or_false (eqb p.height 0) (ltb 256 p.height) each.1 in
    let none : p.width ≡ 0 → ⊥ = eqb-false p.width 0 w.0 in
    let whole : p.height % per_byte p.format ≡ 0 = eqb-true _ 0 (not-false _ sides.1) in
    record {
      some = omega (arith, none);
      wide = ltb-false 256 p.width w.1;
      high = ltb-false 256 p.height h.1;
      whole = omega (arith, div-add-mod' p.height (per_byte p.format), whole);
      area = eqb-true (length buffer) (size_in_bytes p) (not-false _ size.1);
    }

module _ {bytes : ℕ} {p : Framebuffer} (f : BufferFits bytes p) (column row : ℕ) (c : column < p.width) where
  abbrev n : ℕ
  n = per_byte p.format

  -- a pixel of the framebuffer lies in the buffer ..
  pub on_buffer : row < p.height → byte_at p column row < bytes
  on_buffer h = by (dec_lt (row / n) (byte_rows p))
    where
      by : Dec (row / n < byte_rows p) → byte_at p column row < bytes
      by (yes k) =
          let k : row / n + 1 ≤ byte_rows p = omega arith in
          omega (arith, f.area, mul-le-mul_right p.width k, c)
      by (no k) =
          let k : byte_rows p ≤ row / n = omega arith in
          absurd (omega (arith, mul-le-mul_right n k, f.whole, div-add-mod' row n))

  -- .. and a pixel of the buffer lies on the framebuffer.
  pub on_framebuffer : byte_at p column row < bytes → row < p.height
  on_framebuffer h = by (dec_lt (row / n) (byte_rows p))
    where
      by : Dec (row / n < byte_rows p) → row < p.height
      by (yes k) =
          let k : row / n + 1 ≤ byte_rows p = omega arith in
          omega (arith, mul-le-mul_right n k, f.whole, div-add-mod' row n, mod-lt row (some_per_byte p.format))
      by (no k) =
          let k : byte_rows p ≤ row / n = omega arith in
          absurd (omega (arith, mul-le-mul_right p.width k, f.area))

-- ---- equal buffers

-- every pixel of a framebuffer with so many bytes
abbrev pub EveryPixel : Framebuffer → ℕ → (ℕ → ℕ → Type 0) → Type 0
EveryPixel p bytes P = (column row : ℕ) → column < p.width → byte_at p column row < bytes → P column row

-- the pixel k of the byte at an index: its column, its row, and its byte again
module _ (p : Framebuffer) (some : 0 < p.width) (i k : ℕ) (h : k < per_byte p.format) where
  abbrev column : ℕ
  column = i % p.width

  abbrev row : ℕ
  row = i / p.width * per_byte p.format + k

  band : row / per_byte p.format ≡ i / p.width
  band = row_of h (i / p.width)

  in_width : column < p.width
  in_width = mod-lt i some

  same_byte : byte_at p column row ≡ i
  same_byte = rw band (div-add-mod' i p.width)

  same_pixel : (buffer : List ℕ) → pixel_at p buffer column row ≡ in_byte p.format k (get_or buffer i 0)
  same_pixel buffer = rw (same_byte, column_of h (i / p.width))

module _ (p : Framebuffer) (some : 0 < p.width) where
  -- Pictures that make the same of every pixel give the same buffer.
  pub shown_alike : (a b : Picture) (buffer : List ℕ)
      → EveryPixel p (length buffer) (λ column row.
      over (stored p.format (a (pos column) (pos row))) (pixel_at p buffer column row)
      ≡ over (stored p.format (b (pos column) (pos row))) (pixel_at p buffer column row))
      → shown p a buffer ≡ shown p b buffer
  shown_alike a b buffer each = map_alike _ _ 0 buffer at
    where
      at : (i : ℕ) → i < length buffer
          → paint_byte p.format (paints p a (0 + i)) (get_or buffer i 0) ≡ paint_byte p.format (paints p b (0 + i)) (get_or buffer i 0)
      at i h =
          simp zero-add
          (byte_alike p.format (paints p a i) (paints p b i) (get_or buffer i 0)
          (λ k l. rw (same_pixel p some i k l buffer) at
          (each (column p some i k l) (row p some i k l) (in_width p some i k l) (rw (same_byte p some i k l) h))))

  -- Pictures that agree on the window do.
  pub same_picture : (a b : Picture) (buffer : List ℕ)
      → EveryPixel p (length buffer) (λ column row. a (pos column) (pos row) ≡ b (pos column) (pos row))
      → shown p a buffer ≡ shown p b buffer
  same_picture a b buffer each =
      shown_alike a b buffer (λ column row c h. ap (λ (x : Paint). over (stored p.format x) (pixel_at p buffer column row)) (each column row c h))

-- ---- pictures one after the other

-- one picture on another
abbrev pub onto : Picture → Picture → Picture
onto a b column row = above (a column row) (b column row)

-- Two pictures in a row are one, the later above the earlier.
pub shown_shown : (p : Framebuffer) (a b : Picture) (buffer : List ℕ) → shown p a (shown p b buffer) ≡ shown p (onto a b) buffer
shown_shown p a b buffer = map_map _ _ _ (λ i x. byte_twice p.format (paints p a i) (paints p b i) x) 0 buffer

-- the picture that keeps everything
abbrev pub blank : Picture
blank column row = keep

-- It changes nothing.
pub shown_blank : (p : Framebuffer) (buffer : List ℕ) → shown p blank buffer ≡ buffer
shown_blank p buffer = map_same _ 0 buffer (λ k h. byte_blank p.format (get_or buffer k 0))

-- A picture of what every pixel was changes nothing.
pub shown_same : (p : Framebuffer) → 0 < p.width → (picture : Picture) (buffer : List ℕ)
    → EveryPixel p (length buffer) (λ column row.
    over (stored p.format (picture (pos column) (pos row))) (pixel_at p buffer column row) ≡ pixel_at p buffer column row)
    → shown p picture buffer ≡ buffer
shown_same p some picture buffer each =
    shown_alike p some picture blank buffer (λ column row c h. each column row c h ∙ sym (over_keep p.format (pixel_at p buffer column row)))
    ∙ shown_blank p buffer
