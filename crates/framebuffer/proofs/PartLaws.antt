-- A line of the framebuffer that was lent and came back filled. Assumes nothing.
use Rattle.integers.proofs.Prelude.{◌≡◌, refl, sym, ap, subst, ◌∙◌, Bool, true, false, List, ◌++◌, ℕ, ◌+◌, ◌-◌, ◌*◌, ◌/◌, ◌%◌, ◌≤◌, ◌<◌}
use Rattle.integers.proofs.Prelude.{min, div-add-mod', dec_lt, arith, eqb}
use Rattle.integers.proofs.Prelude.{pos, length, get_or, take, drop, length-drop, list_get_or_append, list_get_or_eq_default}
use Rattle.integers.proofs.Prelude.{length-take-le, get_or-append-add}
use Rattle.integers.proofs.Prelude.{get_or-take, get_or-drop, ext_get_or, eqb-true, eqb-false, replicate, length-replicate}
use Rattle.integers.proofs.Prelude.{get_or-replicate}
use borrow.Rule.Slice.PartMut.{mid_of, put_mid, same_len_mid}
use Rattle.integers.specs.Integers.{pick}
use Rattle.integers.proofs.Laws.{zarith}
use Rattle.definitions.specs.Vocabulary.{Some, Rectangle, Framebuffer, PixelFormat, Bytes, Packed}
use Rattle.definitions.specs.Picture.{Paint, keep, put, Picture}
use Rattle.definitions.specs.Framebuffer.{over, per_byte, stored, in_byte, paint_byte, paints, shown, byte_at}
use Rattle.definitions.proofs.ByteLaws.{byte_alike, byte_blank}
use Rattle.definitions.proofs.FramebufferLaws.{row_of, length_shown, shown_index, paints_at, on_buffer}
use Rattle.framebuffer.specs.declared.line.Line.{Line}
use Rattle.framebuffer.specs.Areas.{fill_picture}
use Rattle.framebuffer.specs.Columns.{only, Filled, AllFilled}
use Rattle.framebuffer.specs.Lines.{LineFits, line_area, stretch}
use Rattle.framebuffer.proofs.FillLaws.{fill_inside, fill_outside}

-- A part ys that came back in the place of k elements from a on

module _ (a k : ℕ) (xs ys : List ℕ) (within : a + k ≤ length xs) (whole : length ys ≡ k) where
  front : length (take a xs) ≡ a
  front = length-take-le a xs (omega arith)

  put_before : (i : ℕ) → i < a → get_or (put_mid a k xs ys) i 0 ≡ get_or xs i 0
  put_before i h = list_get_or_append (take a xs) _ 0 i (omega (arith, front)) ∙ get_or-take a xs i 0 h

  from_a : (i : ℕ) → get_or (put_mid a k xs ys) (a + i) 0 ≡ get_or (ys ++ drop k (drop a xs)) i 0
  from_a i =
      subst (λ (n : ℕ). get_or (put_mid a k xs ys) (n + i) 0 ≡ get_or (ys ++ drop k (drop a xs)) i 0) front
      (get_or-append-add (take a xs) (ys ++ drop k (drop a xs)) i 0)

  put_in : (i : ℕ) → i < k → get_or (put_mid a k xs ys) (a + i) 0 ≡ get_or ys i 0
  put_in i h = from_a i ∙ list_get_or_append ys _ 0 i (omega arith)

  put_past : (i : ℕ) → get_or (put_mid a k xs ys) (a + (k + i)) 0 ≡ get_or xs (a + (k + i)) 0
  put_past i =
      from_a (k + i)
      ∙ subst (λ (n : ℕ). get_or (ys ++ drop k (drop a xs)) (n + i) 0 ≡ get_or (drop k (drop a xs)) i 0) whole (get_or-append-add ys (drop k (drop a xs)) i 0)
      ∙ get_or-drop k (drop a xs) i 0
      ∙ get_or-drop a xs (k + i) 0

  put_after : (i : ℕ) → a + k ≤ i → get_or (put_mid a k xs ys) i 0 ≡ get_or xs i 0
  put_after i h = let e : a + (k + (i - (a + k))) ≡ i = omega arith in subst (λ (n : ℕ). get_or (put_mid a k xs ys) n 0 ≡ get_or xs n 0) e (put_past (i - (a + k)))

-- an element of a part
mid_at : (a k : ℕ) (xs : List ℕ) (i : ℕ) → i < k → get_or (mid_of a k xs) i 0 ≡ get_or xs (a + i) 0
mid_at a k xs i h = get_or-take k (drop a xs) i 0 h ∙ get_or-drop a xs i 0

pub mid_length : (a k : ℕ) (xs : List ℕ) → a + k ≤ length xs → length (mid_of a k xs) ≡ k
mid_length a k xs h = length-take-le k (drop a xs) (omega (arith, length-drop a xs))

-- A line lies in the buffer.
pub line_within : {bytes : ℕ} {p : Framebuffer} {line : Line} → LineFits bytes p line → line.start + line.columns ≤ bytes
line_within {bytes} {p} {line} f =
    let some : 0 < p.width = f.fits.some in
    omega (arith, on_buffer f.fits (p.width - 1) line.row (omega arith) f.below, f.right, f.start)

-- Which pixel of a byte it has, by the format.
module _ {bytes : ℕ} {p : Framebuffer} {line : Line} (f : LineFits bytes p line) where
  pub pixel_of_bytes : p.format ≡ Bytes → line.pixel ≡ 0
  pixel_of_bytes e =
      let one : line.pixel ≡ line.row % 1 = f.pixel ∙ ap (λ (format : PixelFormat). line.row % per_byte format) e in
      omega arith

  pub pixel_of_packed : p.format ≡ Packed → line.pixel < 8
  pixel_of_packed e =
      let eight : line.pixel ≡ line.row % 8 = f.pixel ∙ ap (λ (format : PixelFormat). line.row % per_byte format) e in
      omega arith

-- The line's part came back with the columns from `from` to before `to` filled: the buffer is that with the picture of these
-- columns drawn on it. Both are compared byte by byte.
module _ {p : Framebuffer} {line : Line} {first from to value : ℕ} {new : List ℕ} (old : List ℕ) (f : LineFits (length old) p line)
    (h : Filled p.format line.pixel first from to value (mid_of line.start line.columns old) new) where
  abbrev n : ℕ
  n = per_byte p.format

  abbrev part : Rectangle
  part = stretch first from to line

  abbrev picture : Picture
  picture = fill_picture value (Some part)

  abbrev after : List ℕ
  after = put_mid line.start line.columns old new

  within : line.start + line.columns ≤ length old
  within = line_within f

  mid_size : length (mid_of line.start line.columns old) ≡ line.columns
  mid_size = mid_length line.start line.columns old within

  whole : length new ≡ line.columns
  whole = h.long ∙ mid_size

  -- a byte is as the picture makes it
  abbrev Alike : ℕ → Type 0
  Alike i = get_or after i 0 ≡ paint_byte p.format (paints p picture i) (get_or old i 0)

  -- The column c of the line is filled:
  abbrev Hit : ℕ → Type 0
  Hit c = (from ≤ first + c) × (first + c < to)

  -- then the picture paints the line's pixel of its byte, and no other;
  painted : (c k : ℕ) → c < line.columns → Hit c → k < n → paints p picture (line.start + c) k ≡ only line.pixel (put value) k
  painted c k l hit m =
      let e : line.start + c ≡ byte_at p (line.left + c) line.row = omega (arith, f.start) in
      ap (λ (i : ℕ). paints p picture i k) e
      ∙ paints_at p picture old (line.left + c) line.row k (omega (arith, f.right))
      ∙ by (eqb k line.pixel) refl
    where
      by : (t : Bool) → eqb k line.pixel ≡ t → picture (pos (line.left + c)) (pos (line.row / n * n + k)) ≡ pick t (put value) keep
      by true e =
          let a = hit.0 in
          let b = hit.1 in
          let y : line.row / n * n + k ≡ line.row = omega (arith, eqb-true k line.pixel e, f.pixel, div-add-mod' line.row n) in
          fill_inside value part (pos (line.left + c)) (pos (line.row / n * n + k))
          record { from_left = omega zarith; to_right = omega zarith; from_top = omega zarith; to_bottom = omega zarith }
      by false e =
          fill_outside value part (pos (line.left + c)) (pos (line.row / n * n + k))
          (λ i.
          let y : line.row / n * n + k ≡ line.row = omega (zarith, i.from_top, i.to_bottom) in
          eqb-false k line.pixel e (omega (arith, f.pixel, div-add-mod' line.row n)))

  -- and none of a byte that holds no such column.
  abbrev Other : ℕ → Type 0
  Other i = (c : ℕ) → i ≡ line.start + c → c < line.columns → Hit c → ⊥

  kept : (i k : ℕ) → Other i → k < n → paints p picture i k ≡ keep
  kept i k out m =
      fill_outside value part (pos (i % p.width)) (pos (i / p.width * n + k))
      (λ s.
      let y : i / p.width * n + k ≡ line.row = omega (zarith, s.from_top, s.to_bottom) in
      let band : line.row / n ≡ i / p.width = ap (λ (row : ℕ). row / n) (sym y) ∙ row_of m (i / p.width) in
      let a : line.left + (from - first) ≤ i % p.width = omega (zarith, s.from_left) in
      let b : i % p.width < line.left + min (to - first) line.columns = omega (zarith, s.to_right, s.from_left) in
      let e : line.row / n * p.width + i % p.width ≡ i = rw band (div-add-mod' i p.width) in
      out (i % p.width - line.left) (omega (arith, f.start)) (omega arith) (omega arith, omega arith))

  as_before : (i : ℕ) → get_or after i 0 ≡ get_or old i 0 → Other i → Alike i
  as_before i e out =
      e
      ∙ sym (byte_blank p.format (get_or old i 0))
      ∙ byte_alike p.format (λ k. keep) (paints p picture i) (get_or old i 0)
      (λ k m. ap (λ (x : Paint). over (stored p.format x) (in_byte p.format k (get_or old i 0))) (sym (kept i k out m)))

  -- a byte of the part
  in_part_kept : (c : ℕ) → c < line.columns → (Hit c → ⊥) → Alike (line.start + c)
  in_part_kept c l out =
      as_before (line.start + c)
      (put_in line.start line.columns old new within whole c l
      ∙ h.outside c (λ a b. out (a, b))
      ∙ mid_at line.start line.columns old c l)
      (λ d e g hit. let same : c ≡ d = omega arith in out (subst Hit (sym same) hit))

  in_part : (c : ℕ) → c < line.columns → Dec (first + c < from) → Dec (first + c < to) → Alike (line.start + c)
  in_part c l (no a) (yes b) =
      let x = get_or old (line.start + c) 0 in
      put_in line.start line.columns old new within whole c l
      ∙ h.inside c (omega (arith, mid_size)) (omega arith) b
      ∙ ap (paint_byte p.format (only line.pixel (put value))) (mid_at line.start line.columns old c l)
      ∙ byte_alike p.format (only line.pixel (put value)) (paints p picture (line.start + c)) x
      (λ k m. ap (λ (y : Paint). over (stored p.format y) (in_byte p.format k x)) (sym (painted c k l (omega arith, b) m)))
  in_part c l (yes a) b = in_part_kept c l (λ hit. omega (arith, hit.0))
  in_part c l (no a) (no b) = in_part_kept c l (λ hit. b hit.1)

  each : (i : ℕ) → i < length old → Dec (i < line.start) → Dec (i < line.start + line.columns) → Alike i
  each i l (yes a) b = as_before i (put_before line.start line.columns old new within whole i a) (λ c e g hit. omega arith)
  each i l (no a) (yes b) =
      let c = i - line.start in
      let e : line.start + c ≡ i = omega arith in
      subst Alike e (in_part c (omega arith) (dec_lt (first + c) from) (dec_lt (first + c) to))
  each i l (no a) (no b) =
      as_before i (put_after line.start line.columns old new within whole i (omega arith)) (λ c e g hit. omega arith)

  pub part_filled : put_mid line.start line.columns old new
      ≡ shown p (fill_picture value (Some (stretch first from to line))) old
  part_filled =
      let size : length after ≡ length old = same_len_mid line.start line.columns old new h.long in
      ext_get_or 0 after (shown p picture old) (size ∙ sym (length_shown p picture old))
      (λ i l.
      let in_old : i < length old = omega (arith, size) in
      each i in_old (dec_lt i line.start) (dec_lt i (line.start + line.columns)) ∙ sym (shown_index p picture old i in_old))

-- .. and with every column filled.
all_filled : {format : PixelFormat} {pixel value : ℕ} {before after : List ℕ} → AllFilled format pixel value before after
    → Filled format pixel 0 0 (length before) value before after
all_filled {before = before} {after = after} h = record {
  long = h.long;
  inside = λ i l a b. h.all i l;
  outside = λ i out. past i (λ l. out (omega arith) (omega arith));
}
  where
    past : (i : ℕ) → (i < length before → ⊥) → get_or after i 0 ≡ get_or before i 0
    past i out =
        list_get_or_eq_default after 0 {n = i} (omega (arith, h.long))
        ∙ sym (list_get_or_eq_default before 0 {n = i} (omega arith))

-- The slice method fills a part of bytes so.
pub bytes_filled : {value : ℕ} {before after : List ℕ} → after ≡ replicate (length before) value
    → AllFilled Bytes 0 value before after
bytes_filled {value} {before} {after} e = record {
  long = ap length e ∙ length-replicate (length before) value;
  all = λ i l. ap (λ (l : List ℕ). get_or l i 0) e ∙ get_or-replicate (length before) i value 0 l;
}

module _ {p : Framebuffer} {line : Line} {value : ℕ} {new : List ℕ} (old : List ℕ) (f : LineFits (length old) p line) where
  pub line_filled : AllFilled p.format line.pixel value (mid_of line.start line.columns old) new
      → put_mid line.start line.columns old new ≡ shown p (fill_picture value (Some (line_area line))) old
  line_filled h =
      let size = mid_length line.start line.columns old (line_within f) in
      let start : line.left + (0 - 0) ≡ line.left = omega arith in
      let end : line.left + min (line.columns - 0) line.columns ≡ line.left + line.columns = omega arith in
      rw (start, end) at (part_filled old f (rw size at (all_filled h)))
