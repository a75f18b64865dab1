-- A glyph's box, and the part of it that lies on the framebuffer. Assumes nothing.
use Rattle.integers.proofs.Prelude.{◌≡◌, sym, ap, subst, Bool, true, false, ◌||◌, List, ℕ, ◌≤◌, ◌<◌, arith, eqb, pos, length}
use Rattle.integers.proofs.Choices.{impossible}
use Rattle.integers.specs.Integers.{pick}
use Rattle.integers.proofs.Laws.{zarith, plus}
use Rattle.definitions.specs.Vocabulary.{BoundingBox, None, Some, Rectangle, GlyphReader, FontColor, Framebuffer}
use Rattle.definitions.specs.Geometry.{left, top}
use Rattle.definitions.specs.Picture.{rectangle_picture}
use Rattle.definitions.specs.Framebuffer.{shown, BufferFits}
use Rattle.visible_part.specs.declared.VisiblePart.{VisiblePart}
use Rattle.visible_part.specs.Visible.{visible_part}
use Rattle.rows.specs.Ones.{PartFits}
use Rattle.glyph_renderer.specs.Drawing.{GlyphBox, GlyphArea}
use Rattle.visible_part.proofs.VisibleLaws.{Seen, none_seen, seen_visible}
use Rattle.glyph_renderer.proofs.RectangleLaws.{not_shown}

some_area : (t : Bool) {r area : Rectangle} → pick t None (Some r) ≡ Some area → r ≡ area
some_area true e = impossible cc
some_area false e = cc

pub box_area : (g : GlyphReader) (area : Rectangle) → GlyphBox g (Some area) → GlyphArea g area
box_area g area b =
    let s = some_area (eqb g.glyph_width 0 || eqb g.glyph_height 0) (sym b.is) in
    let w : area.size.width ≡ g.glyph_width = sym (ap (λ (r : Rectangle). r.size.width) s) in
    let h : area.size.height ≡ g.glyph_height = sym (ap (λ (r : Rectangle). r.size.height) s) in
    let c = b.reach.columns in
    let r = b.reach.rows in
    record {
      width = w;
      height = h;
      left = record { low = omega (zarith, c.low); high = omega (zarith, c.high, plus (left area) (pos area.size.width)) };
      top = record { low = omega (zarith, r.low); high = omega (zarith, r.high, plus (top area) (pos area.size.height)) };
    }

-- the same of a box that is an area
pub area_of_box : {g : GlyphReader} {area : Rectangle} {b : BoundingBox} → b ≡ Some area → GlyphBox g b → GlyphArea g area
area_of_box {g} {area} e b = box_area g area (subst (λ (x : BoundingBox). GlyphBox g x) e b)

module _ {g : GlyphReader} {r : Rectangle} (a : GlyphArea g r) (framebuffer : Framebuffer) {part : VisiblePart} (e : part ≡ visible_part r.top_left g framebuffer) where
  pub columns_seen : part.columns.start < part.columns.end
      → Seen (left r) r.size.width framebuffer.width part.columns.start part.columns.end part.left
  columns_seen h = rw (e, a.width) (seen_visible (left r) g.glyph_width framebuffer.width (rw e at h))

  pub rows_seen : part.rows.start < part.rows.end
      → Seen (top r) r.size.height framebuffer.height part.rows.start part.rows.end part.top
  rows_seen h = rw (e, a.height) (seen_visible (top r) g.glyph_height framebuffer.height (rw e at h))

  pub part_fits : {bytes : ℕ} → BufferFits bytes framebuffer
      → part.columns.start < part.columns.end → part.rows.start < part.rows.end → PartFits g part framebuffer bytes
  part_fits f h k =
      let x = columns_seen h in
      let y = rows_seen k in
      record {
        some_columns = h;
        some_rows = k;
        in_width = omega (arith, x.within, a.width);
        in_height = omega (arith, y.within, a.height);
        right = x.ends;
        bottom = y.ends;
        window = f;
      }

  module _ (buffer : List ℕ) (f : BufferFits (length buffer) framebuffer) (color : FontColor) (ps : List ℕ) where
    -- Nothing is seen of a glyph beside the framebuffer,
    pub beside : part.columns.end ≤ part.columns.start → shown framebuffer (rectangle_picture color ps r) buffer ≡ buffer
    beside h =
        not_shown framebuffer buffer f color ps r (λ column row c d i.
        none_seen (left r) g.glyph_width framebuffer.width (rw e at h) column c i.from_left (rw a.width at i.to_right))

    -- nor of one above or below it.
    pub above_or_below : part.rows.end ≤ part.rows.start → shown framebuffer (rectangle_picture color ps r) buffer ≡ buffer
    above_or_below h =
        not_shown framebuffer buffer f color ps r (λ column row c d i.
        none_seen (top r) g.glyph_height framebuffer.height (rw e at h) row d i.from_top (rw a.height at i.to_bottom))
