-- Drawing the ones of a glyph stretch by stretch. Assumes nothing.
use Rattle.integers.proofs.Prelude.{◌≡◌, refl, sym, ◌∙◌, Bool, true, false, List, ℕ, ◌+◌, ◌-◌, ◌*◌, ◌≤◌, ◌<◌, max, mul-le-mul_right, dec_lt}
use Rattle.integers.proofs.Prelude.{arith, lt-ltb, le-leb, eq-eqb, ltb-true, leb-true, eqb-true, pos, get_or}
use Rattle.std.proofs.lemmas.Bool.{and_parts}
use Rattle.integers.proofs.Choices.{impossible}
use Rattle.integers.specs.Integers.{pick}
use Rattle.integers.proofs.Laws.{zarith}
use Rattle.definitions.specs.Vocabulary.{Some, Rectangle, Framebuffer}
use Rattle.definitions.specs.Geometry.{Inside}
use Rattle.definitions.specs.Picture.{keep, put, above, covers}
use Rattle.definitions.specs.Framebuffer.{shown}
use Rattle.definitions.proofs.PictureLaws.{covers_inside}
use Rattle.definitions.proofs.FramebufferLaws.{same_picture, shown_shown, onto, blank, shown_blank}
use Rattle.framebuffer.specs.Areas.{fill_picture}
use Rattle.framebuffer.specs.Lines.{line_at, stretch}
use Rattle.framebuffer.proofs.RowLaws.{outside}
use Rattle.framebuffer.proofs.FillLaws.{fill_inside, fill_outside}
use Rattle.rows.specs.Ink.{Ones, index_at, inked, ink_at, ink_picture}

-- ---- one pixel of the framebuffer

pub record Hit (s : Ones) (p column y : ℕ) : Type 0 where
  pub below : s.top ≤ y
  pub above : y < s.top + s.rows
  pub right : s.left ≤ column
  pub near : column < s.left + s.visible
  pub drawn : index_at s column y < p
  pub one : get_or s.ps (s.start + index_at s column y) 0 ≡ 1

module _ (s : Ones) (column y : ℕ) where
  is_hit : (p : ℕ) → inked s p column y ≡ true → Hit s p column y
  is_hit p e =
      let a = and_parts _ _ e in
      let b = and_parts _ _ a.1 in
      let c = and_parts _ _ b.1 in
      let d = and_parts _ _ c.1 in
      let f = and_parts _ _ d.1 in
      record {
        below = leb-true s.top y a.0;
        above = ltb-true y (s.top + s.rows) b.0;
        right = leb-true s.left column c.0;
        near = ltb-true column (s.left + s.visible) d.0;
        drawn = ltb-true (index_at s column y) p f.0;
        one = eqb-true (get_or s.ps (s.start + index_at s column y) 0) 1 f.1;
      }

  hit_inked : (p : ℕ) → Hit s p column y → inked s p column y ≡ true
  hit_inked p h =
      rw (
        le-leb s.top y h.below,
        lt-ltb y (s.top + s.rows) h.above,
        le-leb s.left column h.right,
        lt-ltb column (s.left + s.visible) h.near,
        lt-ltb (index_at s column y) p h.drawn,
        eq-eqb (get_or s.ps (s.start + index_at s column y) 0) 1 h.one,
      )

  pub hit_is : (p : ℕ) → Hit s p column y → ink_at s p column y ≡ put s.value
  unfolding ink_at
  hit_is p h = rw (hit_inked p h)

  pub hit_not : (p : ℕ) → (Hit s p column y → ⊥) → ink_at s p column y ≡ keep
  unfolding ink_at
  hit_not p n = split (inked s p column y) refl
    where
      split : (t : Bool) → inked s p column y ≡ t → pick t (put s.value) keep ≡ keep
      split true e = absurd (n (is_hit p e))
      split false e = refl

  -- more is drawn, and what is shown there was drawn before
  more_ink : (p q : ℕ) → p ≤ q → (Hit s q column y → index_at s column y < p) → ink_at s p column y ≡ ink_at s q column y
  more_ink p q h k = split (inked s q column y) refl
    where
      with_drawn : (p q : ℕ) (a : Hit s p column y) → index_at s column y < q → Hit s q column y
      with_drawn p q a d = record { below = a.below; above = a.above; right = a.right; near = a.near; drawn = d; one = a.one }

      split : (t : Bool) → inked s q column y ≡ t → ink_at s p column y ≡ ink_at s q column y
      split true e = let a = is_hit q e in hit_is p (with_drawn q p a (k a)) ∙ sym (hit_is q a)
      split false e =
          let out : Hit s q column y → ⊥ = λ a. let g = hit_inked q a in impossible cc in
          hit_not p (λ a. out (with_drawn p q a (omega (arith, a.drawn)))) ∙ sym (hit_not q out)

  -- a pixel that is shown is one of the rows'
  in_rows : (p : ℕ) → s.first + s.visible ≤ s.wide → Hit s p column y → index_at s column y < s.rows * s.wide
  in_rows p f h =
      let r : y - s.top + 1 ≤ s.rows = omega (arith, h.below, h.above) in
      omega (arith, mul-le-mul_right s.wide r, h.right, h.near)

-- ---- the whole framebuffer

module _ (s : Ones) (framebuffer : Framebuffer) (some : 0 < framebuffer.width) (buffer : List ℕ) (f : s.first + s.visible ≤ s.wide) where
  -- Pixels that are 0 are not drawn.
  pub ink_zeros : (p q : ℕ) → p ≤ q → ((k : ℕ) → p ≤ k → k < q → k < s.rows * s.wide → get_or s.ps (s.start + k) 0 ≡ 0)
      → shown framebuffer (ink_picture s p) buffer ≡ shown framebuffer (ink_picture s q) buffer
  ink_zeros p q h zeros =
      same_picture framebuffer some (ink_picture s p) (ink_picture s q) buffer
      (λ column y c l. more_ink s column y p q h (λ a. split column y a (dec_lt (index_at s column y) p)))
    where
      split : (column y : ℕ) → Hit s q column y → Dec (index_at s column y < p) → index_at s column y < p
      split column y a (yes d) = d
      split column y a (no d) = let z = zeros (index_at s column y) (omega arith) a.drawn (in_rows s column y q f a) in absurd (omega (arith, a.one, z))

  -- None is drawn yet.
  pub ink_none : shown framebuffer (ink_picture s 0) buffer ≡ buffer
  ink_none =
      same_picture framebuffer some (ink_picture s 0) blank buffer (λ column y c l. hit_not s column y 0 (λ h. omega (arith, h.drawn)))
      ∙ shown_blank framebuffer buffer

  -- All rows are drawn.
  pub ink_all : (p : ℕ) → s.rows * s.wide ≤ p
      → shown framebuffer (ink_picture s p) buffer ≡ shown framebuffer (ink_picture s (s.rows * s.wide)) buffer
  ink_all p h =
      sym (same_picture framebuffer some (ink_picture s (s.rows * s.wide)) (ink_picture s p) buffer
      (λ column y c l. more_ink s column y (s.rows * s.wide) p h (in_rows s column y p f)))

-- ---- the ones of a stretch of the row r

module _ (s : Ones) (framebuffer : Framebuffer) (r from to : ℕ) (f : s.first + s.visible ≤ s.wide) (row : r < s.rows) (end : to ≤ s.wide)
    (ones : (k : ℕ) → r * s.wide + from ≤ k → k < r * s.wide + to → get_or s.ps (s.start + k) 0 ≡ 1) where
  abbrev p : ℕ
  p = r * s.wide + from

  abbrev q : ℕ
  q = r * s.wide + max from to

  abbrev part : Rectangle
  part = stretch s.first from to (line_at framebuffer (s.top + r) s.left s.visible)

  module _ (column y : ℕ) where
    -- every pixel of the stretch is one of them
    part_hit : Inside (pos column) (pos y) part → Hit s q column y
    part_hit i =
        let above : s.top + r ≤ y = omega (zarith, i.from_top) in
        let below : y < s.top + r + 1 = omega (zarith, i.to_bottom) in
        let right : s.left + (from - s.first) ≤ column = omega (zarith, i.from_left) in
        let near : column < s.left + s.visible = omega (zarith, i.to_right) in
        let past : s.first + (column - s.left) < to = omega (zarith, i.to_right) in
        let e : y - s.top ≡ r = omega arith in
        let d : index_at s column y ≡ r * s.wide + (s.first + (column - s.left)) = rw e in
        record {
          below = omega arith;
          above = omega arith;
          right = omega arith;
          near = near;
          drawn = omega arith;
          one = rw d (ones (r * s.wide + (s.first + (column - s.left))) (omega arith) (omega arith));
        }

    -- Any other that is drawn by now was drawn before.
    part_not : (Inside (pos column) (pos y) part → ⊥) → Hit s q column y → index_at s column y < p
    part_not out a = split (dec_lt y (s.top + r)) (dec_lt (s.top + r) y)
      where
        in_row : y ≡ s.top + r → Dec (index_at s column y < p) → index_at s column y < p
        in_row e (yes d) = d
        in_row e (no d) =
            let z : y - s.top ≡ r = omega arith in
            let i : index_at s column y ≡ r * s.wide + (s.first + (column - s.left)) = rw z in
            let past : s.first + (column - s.left) < to = omega (arith, a.drawn) in
            absurd (out (record {
              from_left = omega (zarith, a.right);
              to_right = omega (zarith, a.right, a.near);
              from_top = omega zarith;
              to_bottom = omega zarith;
            }))

        split : Dec (y < s.top + r) → Dec (s.top + r < y) → index_at s column y < p
        split (yes x) d =
            let k : y - s.top + 1 ≤ r = omega (arith, a.below) in
            omega (arith, mul-le-mul_right s.wide k, a.right, a.near)
        split (no x) (yes z) =
            let k : r + 1 ≤ y - s.top = omega arith in
            omega (arith, mul-le-mul_right s.wide k, a.drawn)
        split (no x) (no z) = in_row (omega arith) (dec_lt (index_at s column y) p)

    part_ink : above (fill_picture s.value (Some part) (pos column) (pos y)) (ink_at s p column y) ≡ ink_at s q column y
    part_ink = split (covers part (pos column) (pos y)) refl
      where
        split : (t : Bool) → covers part (pos column) (pos y) ≡ t
            → above (fill_picture s.value (Some part) (pos column) (pos y)) (ink_at s p column y) ≡ ink_at s q column y
        split true e =
            let i = covers_inside (pos column) (pos y) part e in
            rw (fill_inside s.value part (pos column) (pos y) i) (sym (hit_is s column y q (part_hit i)))
        split false e =
            let out = outside part (pos column) (pos y) e in
            rw (fill_outside s.value part (pos column) (pos y) out) (more_ink s column y p q (omega arith) (part_not out))

  -- Filling the stretch is drawing its ones.
  pub ink_ones : 0 < framebuffer.width → (buffer : List ℕ)
      → shown framebuffer (fill_picture s.value (Some part)) (shown framebuffer (ink_picture s p) buffer)
      ≡ shown framebuffer (ink_picture s q) buffer
  ink_ones some buffer =
      let fill = fill_picture s.value (Some part) in
      shown_shown framebuffer fill (ink_picture s p) buffer
      ∙ same_picture framebuffer some (onto fill (ink_picture s p)) (ink_picture s q) buffer (λ column y c l. part_ink column y)
