-- The ones of a glyph's visible part are the glyph's picture on the framebuffer, and a background may be filled first. Assumes
-- nothing.
use Rattle.integers.proofs.Prelude.{◌≡◌, refl, sym, ap, subst, ◌∙◌, Bool, true, false, List, ℕ, ◌+◌, ◌-◌, ◌*◌, ◌≤◌, ◌<◌}
use Rattle.integers.proofs.Prelude.{add-mul, mul-le-mul_right, arith, eqb, pos, nat_abs, ◌-ℤ◌, length, get_or, eqb-true, eqb-false}
use Rattle.integers.specs.Integers.{pick}
use Rattle.definitions.specs.Vocabulary.{BoundingBox, Some, Rectangle, GlyphReader, Framebuffer, FontColor, Transparent, WithBackground}
use Rattle.definitions.specs.Geometry.{Inside, left, top}
use Rattle.definitions.specs.Picture.{keep, put, above, covers, rectangle_picture, box_picture}
use Rattle.definitions.specs.Framebuffer.{shown, BufferFits}
use Rattle.definitions.proofs.PictureLaws.{covers_inside, rectangle_inside, rectangle_outside}
use Rattle.definitions.proofs.FramebufferLaws.{length_shown, same_picture, shown_shown, onto, blank, shown_blank, on_framebuffer}
use Rattle.framebuffer.specs.Areas.{fill_picture}
use Rattle.framebuffer.proofs.RowLaws.{outside}
use Rattle.visible_part.specs.declared.VisiblePart.{VisiblePart}
use Rattle.rows.specs.Ink.{Ones, index_at, ink_at, ink_picture}
use Rattle.rows.specs.Ones.{ones_of, ones_picture}
use Rattle.rows.proofs.InkLaws.{Hit, hit_is, hit_not}
use Rattle.visible_part.proofs.VisibleLaws.{Seen, from_seen, to_seen, seen_index}

-- A rectangle of which no pixel lies on the framebuffer shows nothing.
pub not_shown : (framebuffer : Framebuffer) (buffer : List ℕ) → BufferFits (length buffer) framebuffer
    → (color : FontColor) (ps : List ℕ) (r : Rectangle)
    → ((column row : ℕ) → column < framebuffer.width → row < framebuffer.height → Inside (pos column) (pos row) r → ⊥)
    → shown framebuffer (rectangle_picture color ps r) buffer ≡ buffer
not_shown framebuffer buffer f color ps r out =
    same_picture framebuffer f.some (rectangle_picture color ps r) blank buffer
    (λ column row c l. rectangle_outside color (pos column) (pos row) ps r (out column row c (on_framebuffer f column row c l)))
    ∙ shown_blank framebuffer buffer

-- a pixel of a covered place, on a background
on_ground : (t u : Bool) (fg bg : ℕ) → above (pick t (pick u (put fg) keep) keep) (pick t (put bg) keep) ≡ pick t (pick u (put fg) (put bg)) keep
on_ground true true fg bg = refl
on_ground true false fg bg = refl
on_ground false u fg bg = refl

module _ (framebuffer : Framebuffer) (fg : ℕ) (ps : List ℕ) (r : Rectangle) (part : VisiblePart)
    (x : Seen (left r) r.size.width framebuffer.width part.columns.start part.columns.end part.left)
    (y : Seen (top r) r.size.height framebuffer.height part.rows.start part.rows.end part.top) where
  abbrev s : Ones
  s = ones_of ps r.size.width part fg

  abbrev all : ℕ
  all = (part.rows.end - part.rows.start) * r.size.width

  module _ (column row : ℕ) where
    abbrev place : ℕ
    place = nat_abs (pos row -ℤ top r) * r.size.width + nat_abs (pos column -ℤ left r)

    index : part.left ≤ column → part.top ≤ row → place ≡ part.rows.start * r.size.width + index_at s column row
    index h k = rw (seen_index x column h, seen_index y row k) (omega (arith, add-mul part.rows.start (row - part.top) r.size.width))

    hit_inside : Hit s all column row → Inside (pos column) (pos row) r
    hit_inside h = record {
      from_left = from_seen x column h.right;
      to_right = to_seen x column h.near;
      from_top = from_seen y row h.below;
      to_bottom = to_seen y row h.above;
    }

    module _ (c : column < framebuffer.width) (d : row < framebuffer.height) where
      inside_hit : Inside (pos column) (pos row) r → get_or ps place 0 ≡ 1 → Hit s all column row
      inside_hit i e =
          let below = y.from row i.from_top in
          let above = y.to row d i.to_bottom in
          let right = x.from column i.from_left in
          let near = x.to column c i.to_right in
          let k : row - part.top + 1 ≤ part.rows.end - part.rows.start = omega arith in
          record {
            below = below;
            above = above;
            right = right;
            near = near;
            drawn = omega (arith, mul-le-mul_right r.size.width k, x.within, x.some);
            one = ap (λ (i : ℕ). get_or ps i 0) (sym (index right below)) ∙ e;
          }

      same_paint : ink_at s all column row ≡ rectangle_picture (Transparent fg) ps r (pos column) (pos row)
      same_paint = split (covers r (pos column) (pos row)) refl
        where
          pixel : Inside (pos column) (pos row) r → (t : Bool) → eqb (get_or ps place 0) 1 ≡ t → ink_at s all column row ≡ pick t (put fg) keep
          pixel i true e = hit_is s column row all (inside_hit i (eqb-true (get_or ps place 0) 1 e))
          pixel i false e =
              hit_not s column row all (λ h. eqb-false (get_or ps place 0) 1 e (ap (λ (i : ℕ). get_or ps i 0) (index h.right h.below) ∙ h.one))

          split : (t : Bool) → covers r (pos column) (pos row) ≡ t → ink_at s all column row ≡ rectangle_picture (Transparent fg) ps r (pos column) (pos row)
          split true e =
              let i = covers_inside (pos column) (pos row) r e in
              pixel i _ refl ∙ sym (rectangle_inside (Transparent fg) (pos column) (pos row) ps r i)
          split false e =
              let out = outside r (pos column) (pos row) e in
              hit_not s column row all (λ h. out (hit_inside h)) ∙ sym (rectangle_outside (Transparent fg) (pos column) (pos row) ps r out)

  -- Drawing the ones is drawing the glyph transparently.
  ink_rectangle : (buffer : List ℕ) → BufferFits (length buffer) framebuffer
      → shown framebuffer (ink_picture s all) buffer ≡ shown framebuffer (rectangle_picture (Transparent fg) ps r) buffer
  ink_rectangle buffer f =
      same_picture framebuffer f.some (ink_picture s all) (rectangle_picture (Transparent fg) ps r) buffer
      (λ column row c l. same_paint column row c (on_framebuffer f column row c l))

  -- Drawing with a background is filling the rectangle and then drawing the ones.
  ink_background : (buffer : List ℕ) → BufferFits (length buffer) framebuffer → (bg : ℕ)
      → shown framebuffer (ink_picture s all) (shown framebuffer (fill_picture bg (Some r)) buffer)
      ≡ shown framebuffer (rectangle_picture (WithBackground fg bg) ps r) buffer
  ink_background buffer f bg =
      let ones = rectangle_picture (Transparent fg) ps r in
      let ground = fill_picture bg (Some r) in
      let l = length_shown framebuffer ground buffer in
      ink_rectangle (shown framebuffer ground buffer) (subst (λ (n : ℕ). BufferFits n framebuffer) (sym l) f)
      ∙ shown_shown framebuffer ones ground buffer
      ∙ same_picture framebuffer f.some (onto ones ground) (rectangle_picture (WithBackground fg bg) ps r) buffer
      (λ column row c l. on_ground (covers r (pos column) (pos row)) (eqb (get_or ps (place column row) 0) 1) fg bg)

  -- The same of a glyph's box, by the colour: `old` is what the ones are drawn on.
  module _ (g : GlyphReader) (wide : r.size.width ≡ g.glyph_width) (buffer : List ℕ) {old : List ℕ}
      (f : BufferFits (length buffer) framebuffer) {color : FontColor} {box : BoundingBox} (b : box ≡ Some r) {value : ℕ} (v : value ≡ fg) where
    pub draws_transparent : color ≡ Transparent fg → old ≡ buffer
        → shown framebuffer (ones_picture ps g part value) old ≡ shown framebuffer (box_picture color ps box) buffer
    draws_transparent c o = rw (c, b, v, o, ← wide) (ink_rectangle buffer f)

    pub draws_background : {bg : ℕ} → color ≡ WithBackground fg bg → old ≡ shown framebuffer (fill_picture bg (Some r)) buffer
        → shown framebuffer (ones_picture ps g part value) old ≡ shown framebuffer (box_picture color ps box) buffer
    draws_background {bg} c o = rw (o, c, b, v, ← wide) (ink_background buffer f bg)
