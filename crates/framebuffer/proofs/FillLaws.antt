-- A filled rectangle, row by row, and cut to the framebuffer. Assumes nothing.
use Rattle.integers.proofs.Prelude.{◌≡◌, refl, sym, ap, ◌∙◌, Bool, true, false, List, ℕ, ◌+◌, ◌-◌, ◌≤◌, ◌<◌, dec_lt, arith, ℤ, pos, length}
use Rattle.integers.specs.Integers.{pick}
use Rattle.integers.proofs.Laws.{zarith, plus}
use Rattle.definitions.specs.Vocabulary.{Some, Rectangle, Framebuffer}
use Rattle.definitions.specs.Geometry.{left, top, right, bottom, Inside}
use Rattle.definitions.specs.Picture.{Paint, keep, put, above, covers}
use Rattle.definitions.specs.Framebuffer.{shown, BufferFits}
use Rattle.definitions.proofs.PictureLaws.{covers_inside, inside_covers}
use Rattle.definitions.proofs.FramebufferLaws.{same_picture, shown_shown, onto, blank, shown_blank, on_framebuffer}
use Rattle.framebuffer.specs.Areas.{clamped, area, AreaFits, fill_picture}
use Rattle.framebuffer.proofs.RowLaws.{outside}
use Rattle.framebuffer.proofs.ClampLaws.{clamped_is}

module _ (color : ℕ) (r : Rectangle) (column row : ℤ) where
  pub fill_inside : Inside column row r → fill_picture color (Some r) column row ≡ put color
  fill_inside i = rw (inside_covers column row r i)

  pub fill_outside : (Inside column row r → ⊥) → fill_picture color (Some r) column row ≡ keep
  fill_outside out = by (covers r column row) refl
    where
      by : (t : Bool) → covers r column row ≡ t → pick t (put color) keep ≡ keep
      by true e = absurd (out (covers_inside column row r e))
      by false e = refl

-- Rectangles with the same pixels on the framebuffer are filled alike.
module _ (color : ℕ) (p q : Rectangle) (column row : ℤ) where
  pub fill_same : (Inside column row p → Inside column row q) → (Inside column row q → Inside column row p)
      → fill_picture color (Some p) column row ≡ fill_picture color (Some q) column row
  fill_same to from = by (covers p column row) refl
    where
      by : (t : Bool) → covers p column row ≡ t → fill_picture color (Some p) column row ≡ fill_picture color (Some q) column row
      by true e =
          let i = covers_inside column row p e in
          fill_inside color p column row i ∙ sym (fill_inside color q column row (to i))
      by false e =
          fill_outside color p column row (outside p column row e)
          ∙ sym (fill_outside color q column row (λ i. outside p column row e (from i)))

-- One filled after another is the two together.
module _ (color : ℕ) (later earlier both : Rectangle) (column row : ℤ) where
  abbrev on : Paint → Paint
  on x = above x (fill_picture color (Some earlier) column row)

  pub fill_onto : (Inside column row later → Inside column row both)
      → (Inside column row earlier → Inside column row both)
      → (Inside column row both → (Inside column row later → ⊥) → Inside column row earlier)
      → onto (fill_picture color (Some later)) (fill_picture color (Some earlier)) column row ≡ fill_picture color (Some both) column row
  fill_onto from_later from_earlier to_earlier = by (covers later column row) refl
    where
      by : (t : Bool) → covers later column row ≡ t → on (fill_picture color (Some later) column row) ≡ fill_picture color (Some both) column row
      by true e =
          let i = covers_inside column row later e in
          ap on (fill_inside color later column row i) ∙ sym (fill_inside color both column row (from_later i))
      by false e =
          let out = outside later column row e in
          ap on (fill_outside color later column row out) ∙ fill_same color earlier both column row from_earlier (λ i. to_earlier i out)

-- ---- row by row

module _ (p : Framebuffer) (some : 0 < p.width) (color left right top : ℕ) (buffer : List ℕ) where
  -- the framebuffer with the rows before y filled
  abbrev pub filled_to : ℕ → List ℕ
  filled_to y = shown p (fill_picture color (Some (area left right top y))) buffer

  pub no_row : filled_to top ≡ buffer
  no_row =
      same_picture p some (fill_picture color (Some (area left right top top))) blank buffer
      (λ column row c h. fill_outside color (area left right top top) (pos column) (pos row) (λ i. omega (zarith, i.from_top, i.to_bottom)))
      ∙ shown_blank p buffer

  -- The row y is filled too.
  pub next_row : (y : ℕ) → left ≤ right → top ≤ y
      → shown p (fill_picture color (Some (area left (left + (right - left)) y (y + 1)))) (filled_to y) ≡ filled_to (y + 1)
  next_row y l t =
      let it = area left (left + (right - left)) y (y + 1) in
      let upper = area left right top y in
      let next = area left right top (y + 1) in
      shown_shown p (fill_picture color (Some it)) (fill_picture color (Some upper)) buffer
      ∙ same_picture p some (onto (fill_picture color (Some it)) (fill_picture color (Some upper))) (fill_picture color (Some next)) buffer
      (λ column row c h.
      fill_onto color it upper next (pos column) (pos row)
      (λ i. record { from_left = i.from_left; to_right = omega (zarith, i.to_right); from_top = omega (zarith, i.from_top); to_bottom = omega (zarith, i.to_bottom) })
      (λ i. record { from_left = i.from_left; to_right = i.to_right; from_top = i.from_top; to_bottom = omega (zarith, i.to_bottom) })
      (λ i out. split i out (dec_lt row y)))
    where
      split : {column row : ℕ} → Inside (pos column) (pos row) (area left right top (y + 1))
          → (Inside (pos column) (pos row) (area left (left + (right - left)) y (y + 1)) → ⊥)
          → Dec (row < y) → Inside (pos column) (pos row) (area left right top y)
      split i out (yes k) = record { from_left = i.from_left; to_right = i.to_right; from_top = i.from_top; to_bottom = omega zarith }
      split i out (no k) =
          absurd (out record { from_left = i.from_left; to_right = omega (zarith, i.to_right); from_top = omega zarith; to_bottom = omega (zarith, i.to_bottom) })

-- ---- the part of a rectangle on the framebuffer

module _ (r : Rectangle) {bytes : ℕ} {p : Framebuffer} (f : BufferFits bytes p) where
  abbrev pub visible : Rectangle
  visible = area (clamped (left r) p.width) (clamped (right r) p.width) (clamped (top r) p.height) (clamped (bottom r) p.height)

  pub visible_fits : AreaFits bytes p (clamped (left r) p.width) (clamped (right r) p.width) (clamped (top r) p.height) (clamped (bottom r) p.height)
  visible_fits = record {
    fits = f;
    columns = omega (arith, clamped_is (left r) p.width, clamped_is (right r) p.width, plus (left r) (pos r.size.width));
    within = omega (arith, clamped_is (right r) p.width);
    rows = omega (arith, clamped_is (top r) p.height, clamped_is (bottom r) p.height, plus (top r) (pos r.size.height));
    below = omega (arith, clamped_is (bottom r) p.height);
  }

  module _ (column row : ℕ) (c : column < p.width) (h : row < p.height) where
    from_visible : Inside (pos column) (pos row) visible → Inside (pos column) (pos row) r
    from_visible i = record {
      from_left = omega (zarith, i.from_left, clamped_is (left r) p.width);
      to_right = omega (zarith, i.to_right, visible_fits.columns, clamped_is (right r) p.width);
      from_top = omega (zarith, i.from_top, clamped_is (top r) p.height);
      to_bottom = omega (zarith, i.to_bottom, visible_fits.rows, clamped_is (bottom r) p.height);
    }

    to_visible : Inside (pos column) (pos row) r → Inside (pos column) (pos row) visible
    to_visible i = record {
      from_left = omega (zarith, i.from_left, clamped_is (left r) p.width);
      to_right = omega (zarith, i.to_right, visible_fits.columns, clamped_is (right r) p.width);
      from_top = omega (zarith, i.from_top, clamped_is (top r) p.height);
      to_bottom = omega (zarith, i.to_bottom, visible_fits.rows, clamped_is (bottom r) p.height);
    }

  pub visible_shown : (color : ℕ) (buffer : List ℕ) → length buffer ≡ bytes
      → shown p (fill_picture color (Some visible)) buffer ≡ shown p (fill_picture color (Some r)) buffer
  visible_shown color buffer l =
      same_picture p f.some (fill_picture color (Some visible)) (fill_picture color (Some r)) buffer
      (λ column row c h.
      let k = on_framebuffer f column row c (rw l at h) in
      fill_same color visible r (pos column) (pos row) (from_visible column row c k) (to_visible column row c k))

-- the same for edges that were computed
module _ (r : Rectangle) {bytes : ℕ} {p : Framebuffer} (f : BufferFits bytes p) {l e t b : ℕ}
    (pl : l ≡ clamped (left r) p.width) (pe : e ≡ clamped (right r) p.width) (pt : t ≡ clamped (top r) p.height) (pb : b ≡ clamped (bottom r) p.height) where
  pub edges_fit : AreaFits bytes p l e t b
  edges_fit = rw (pl, pe, pt, pb) (visible_fits r f)

  pub edges_shown : (color : ℕ) (buffer : List ℕ) → length buffer ≡ bytes
      → shown p (fill_picture color (Some (area l e t b))) buffer ≡ shown p (fill_picture color (Some r)) buffer
  edges_shown color buffer h = rw (pl, pe, pt, pb) (visible_shown r f color buffer h)
