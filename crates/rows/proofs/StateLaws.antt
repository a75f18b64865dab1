-- The drawing of rows: what holds at the head of each of its loops, and each step. Assumes nothing.
use Rattle.integers.proofs.Prelude.{◌≡◌, sym, ap, subst, ◌∙◌, List, ℕ, ◌+◌, ◌-◌, ◌*◌, ◌≤◌, ◌<◌, max, mul-le-mul_right}
use Rattle.integers.proofs.Prelude.{arith, lt-ltb, le-ltb, get_or}
use Rattle.definitions.specs.Vocabulary.{Some, FontReader, GlyphReader, Framebuffer}
use Rattle.definitions.specs.Font.{u8g2, pixels_of}
use Rattle.definitions.specs.Framebuffer.{shown}
use Rattle.runs.specs.declared.Runs.{Runs}
use Rattle.runs.specs.RunReads.{Short, in_font, next_pair}
use Rattle.runs.specs.Stands.{Stands}
use Rattle.runs.proofs.StandsLaws.{stands_pixel, stands_on, stands_next}
use Rattle.framebuffer.specs.declared.line.Line.{Line}
use Rattle.framebuffer.specs.Areas.{fill_picture}
use Rattle.framebuffer.specs.Lines.{line_at, stretch}
use Rattle.visible_part.specs.declared.VisiblePart.{VisiblePart}
use Rattle.rows.specs.Ink.{Ones, ink_picture}
use Rattle.rows.specs.Ones.{ones_of}
use Rattle.rows.proofs.InkLaws.{ink_none, ink_zeros, ink_all, ink_ones}

-- The rows lie in a glyph of n pixels, and the framebuffer has columns.
pub record Lies (s : Ones) (n : ℕ) (framebuffer : Framebuffer) : Type 0 where
  pub some : 0 < framebuffer.width
  pub in_row : s.first + s.visible ≤ s.wide
  pub in_glyph : s.start + s.rows * s.wide ≤ n

-- `line` is the part of the next row. The pair ends before the column `to`, counted from the row's
-- first; its ones that are not yet drawn begin at the column `from`.
pub record At (font : List ℕ) (m0 m1 n : ℕ) (s : Ones) (framebuffer : Framebuffer) (entry buffer : List ℕ)
    (runs : Runs) (from to : ℕ) (line : Line) : Type 0 where
  pub row : ℕ
  pub more : row < s.rows
  pub is_line : line ≡ line_at framebuffer (s.top + row) s.left s.visible
  pub order : from ≤ to
  pub drawn : buffer ≡ shown framebuffer (ink_picture s (row * s.wide + from)) entry
  pub stands : Stands font m0 m1 n s.ps runs (runs.zeros + runs.ones) (s.start + (row * s.wide + to))
  pub ones : (k : ℕ) → row * s.wide + from ≤ k → k < row * s.wide + to → k < s.rows * s.wide → get_or s.ps (s.start + k) 0 ≡ 1

-- The same of a glyph's rows, the framebuffer being `entry` at the call: what both loops keep.
pub record State (font : List ℕ) (head : FontReader) (g : GlyphReader) (part : VisiblePart) (value : ℕ) (framebuffer : Framebuffer) (entry buffer : List ℕ)
    (runs : Runs) (from to : ℕ) (line : Line) : Type 0 where
  pub short : Short runs
  pub at : At font head.m0 head.m1 (g.glyph_width * g.glyph_height) (ones_of (pixels_of (u8g2 font) g) g.glyph_width part value) framebuffer
      entry buffer runs from to line

module _ {font : List ℕ} {m0 m1 n : ℕ} {ps : List ℕ} {runs : Runs} {offset i : ℕ} (s : Stands font m0 m1 n ps runs offset i) where
  -- a pixel of the zero run, or of the one run
  zero_on : (k : ℕ) → offset + k < runs.zeros → i + k < n → get_or ps (i + k) 0 ≡ 0
  zero_on k h l = stands_pixel (stands_on s k) (omega arith) l ∙ simp (lt-ltb (offset + k) runs.zeros h)

  one_on : (k : ℕ) → runs.zeros ≤ offset + k → offset + k < runs.zeros + runs.ones → i + k < n → get_or ps (i + k) 0 ≡ 1
  one_on k h m l = stands_pixel (stands_on s k) m l ∙ simp (le-ltb (offset + k) runs.zeros h)

module _ {font : List ℕ} {m0 m1 n : ℕ} {s : Ones} {framebuffer : Framebuffer} (f : Lies s n framebuffer) where
  -- A pair whose pixels from `offset` on begin at a column of the row: its zeros, and then its ones.
  module _ (entry : List ℕ) {buffer : List ℕ} {runs : Runs} (offset row column from to : ℕ) (line : Line)
      (more : row < s.rows)
      (is_line : line ≡ line_at framebuffer (s.top + row) s.left s.visible)
      (is_from : from ≡ column + (runs.zeros - offset)) (is_to : to ≡ column + (runs.zeros + runs.ones - offset))
      (drawn : buffer ≡ shown framebuffer (ink_picture s (row * s.wide + column)) entry) (h : offset ≤ runs.zeros + runs.ones)
      (stands : Stands font m0 m1 n s.ps runs offset (s.start + (row * s.wide + column))) where
    pixel : (k : ℕ) → row * s.wide + column ≤ k → s.start + (row * s.wide + column) + (k - (row * s.wide + column)) ≡ s.start + k
    pixel k h = omega arith

    zeros : (k : ℕ) → row * s.wide + column ≤ k → k < row * s.wide + from → k < s.rows * s.wide → get_or s.ps (s.start + k) 0 ≡ 0
    zeros k a b c =
        let d = f.in_glyph in
        subst (λ (i : ℕ). get_or s.ps i 0 ≡ 0) (pixel k a) (zero_on stands (k - (row * s.wide + column)) (omega arith) (omega arith))

    ones : (k : ℕ) → row * s.wide + from ≤ k → k < row * s.wide + to → k < s.rows * s.wide → get_or s.ps (s.start + k) 0 ≡ 1
    ones k a b c =
        let d = f.in_glyph in
        subst (λ (i : ℕ). get_or s.ps i 0 ≡ 1) (pixel k (omega arith)) (one_on stands (k - (row * s.wide + column)) (omega arith) (omega arith) (omega arith))

    stands_end : Stands font m0 m1 n s.ps runs (runs.zeros + runs.ones) (s.start + (row * s.wide + to))
    stands_end =
        let x : offset + (runs.zeros + runs.ones - offset) ≡ runs.zeros + runs.ones = omega arith in
        let y : s.start + (row * s.wide + column) + (runs.zeros + runs.ones - offset) ≡ s.start + (row * s.wide + to) = omega arith in
        rw (x, y) at (stands_on stands (runs.zeros + runs.ones - offset))

    at_pair : At font m0 m1 n s framebuffer entry buffer runs from to line
    at_pair = record {
      row = row;
      more = more;
      is_line = is_line;
      order = omega arith;
      drawn = drawn ∙ ink_zeros s framebuffer f.some entry f.in_row (row * s.wide + column) (row * s.wide + from) (omega arith) zeros;
      stands = stands_end;
      ones = ones;
    }

  -- The first pair.
  pub at_start : {entry : List ℕ} {runs : Runs} {offset from to : ℕ} {line : Line} → 1 ≤ s.rows → offset ≤ runs.zeros + runs.ones
      → Stands font m0 m1 n s.ps runs offset s.start
      → from ≡ runs.zeros - offset → to ≡ runs.zeros + runs.ones - offset → line ≡ line_at framebuffer s.top s.left s.visible
      → At font m0 m1 n s framebuffer entry entry runs from to line
  at_start {entry} {runs} {offset} {from} {to} {line} h k stands is_from is_to is_line =
      let z : 0 * s.wide + 0 ≡ 0 = omega arith in
      let e : s.start ≡ s.start + (0 * s.wide + 0) = omega arith in
      let t : s.top ≡ s.top + 0 = omega arith in
      at_pair entry offset 0 0 from to line h
      (is_line ∙ ap (λ (y : ℕ). line_at framebuffer y s.left s.visible) t) (omega arith) (omega arith)
      (rw z (sym (ink_none s framebuffer f.some entry f.in_row))) k (subst (λ (i : ℕ). Stands font m0 m1 n s.ps runs offset i) e stands)

  module _ {entry buffer : List ℕ} {runs : Runs} {from to : ℕ} {line : Line}
      (a : At font m0 m1 n s framebuffer entry buffer runs from to line) where
    row_is : line.row ≡ s.top + a.row
    row_is = ap (λ (l : Line). l.row) a.is_line

    filled : {new : List ℕ} (end : ℕ) → end ≤ s.wide → end ≤ to
        → new ≡ shown framebuffer (fill_picture s.value (Some (stretch s.first from end line))) buffer
        → new ≡ shown framebuffer (ink_picture s (a.row * s.wide + max from end)) entry
    filled end h k e =
        e
        ∙ rw (a.is_line, a.drawn) (ink_ones s framebuffer a.row from end f.in_row a.more h (λ i x y.
        let r : a.row + 1 ≤ s.rows = omega (arith, a.more) in
        a.ones i x (omega arith) (omega (arith, mul-le-mul_right s.wide r))) f.some entry)

    -- The pair reaches the row's end, and there are more rows.
    pub at_row : {new : List ℕ} {next : Line} → s.wide ≤ to → (line.row + 1 ≡ s.top + s.rows → ⊥)
        → new ≡ shown framebuffer (fill_picture s.value (Some (stretch s.first from s.wide line))) buffer
        → next ≡ line_at framebuffer (line.row + 1) s.left s.visible
        → At font m0 m1 n s framebuffer entry new runs (from - s.wide) (to - s.wide) next
    at_row h last e is_next =
        let x : a.row * s.wide + max from s.wide ≡ (a.row + 1) * s.wide + (from - s.wide) = omega arith in
        let y : a.row * s.wide + to ≡ (a.row + 1) * s.wide + (to - s.wide) = omega arith in
        let z : s.top + a.row + 1 ≡ s.top + (a.row + 1) = omega arith in
        record {
          row = a.row + 1;
          more = omega (arith, a.more, row_is, last);
          is_line = rw (a.is_line, z) at is_next;
          order = omega (arith, a.order);
          drawn = filled s.wide (omega arith) h e ∙ ap (λ (p : ℕ). shown framebuffer (ink_picture s p) entry) x;
          stands = subst (λ (i : ℕ). Stands font m0 m1 n s.ps runs (runs.zeros + runs.ones) (s.start + i)) y a.stands;
          ones = λ i b c d. a.ones i (omega arith) (omega arith) d;
        }

    -- .. and it was the last.
    pub all_rows : {new : List ℕ} → s.wide ≤ to → line.row + 1 ≡ s.top + s.rows
        → new ≡ shown framebuffer (fill_picture s.value (Some (stretch s.first from s.wide line))) buffer
        → new ≡ shown framebuffer (ink_picture s (s.rows * s.wide)) entry
    all_rows h k e =
        let r : a.row + 1 ≡ s.rows = omega (arith, row_is) in
        filled s.wide (omega arith) h e ∙ ink_all s framebuffer f.some entry f.in_row (a.row * s.wide + max from s.wide) (rw (← r) (omega arith))

    -- The row goes on with the next pair.
    pub at_next : {q : Runs} {new : List ℕ} → to < s.wide → in_font font q ≡ next_pair font m0 m1 runs
        → new ≡ shown framebuffer (fill_picture s.value (Some (stretch s.first from to line))) buffer
        → At font m0 m1 n s framebuffer entry new q (to + q.zeros) (to + q.zeros + q.ones) line
    at_next {q} h e d =
        let r : a.row + 1 ≤ s.rows = omega (arith, a.more) in
        let i : s.start + (a.row * s.wide + to) < n = omega (arith, mul-le-mul_right s.wide r, f.in_glyph) in
        let z : runs.zeros + runs.ones - (runs.zeros + runs.ones) ≡ 0 = omega arith in
        let t : max from to ≡ to = omega (arith, a.order) in
        let stands = rw z at (stands_next a.stands (omega arith) i e) in
        at_pair entry 0 a.row to (to + q.zeros) (to + q.zeros + q.ones) line a.more a.is_line (omega arith) (omega arith)
        (filled to (omega arith) (omega arith) d ∙ ap (λ (p : ℕ). shown framebuffer (ink_picture s (a.row * s.wide + p)) entry) t) (omega arith) stands
