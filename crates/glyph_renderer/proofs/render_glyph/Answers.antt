-- The ones of the visible part are what the box shows, on a background that was filled (RectangleLaws). Assumes nothing.
use Rattle.integers.proofs.Prelude.{◌≡◌, sym, ap, subst, ◌∙◌, ℕ, ◌<◌, length}
use Rattle.std.proofs.Common.{rules}
use Rattle.definitions.specs.Vocabulary.{BoundingBox}
use Rattle.definitions.specs.Font.{u8g2, pixels_of}
use Rattle.definitions.specs.Picture.{box_picture}
use Rattle.definitions.specs.Framebuffer.{shown, BufferFits}
use Rattle.definitions.proofs.ByteLaws.{length_map_at}
use Rattle.definitions.proofs.FramebufferLaws.{shown_blank}
use Rattle.glyph_renderer.proofs.RectangleLaws.{draws_transparent, draws_background}
use Rattle.glyph_renderer.proofs.BoxLaws.{area_of_box, columns_seen, rows_seen, part_fits, beside, above_or_below}
use Rattle.glyph_renderer.proofs.render_glyph.Goals as goal
use Rattle.glyph_renderer.proofs.render_glyph.Goals.{then-is_empty-via-then-is_empty, then-is_empty-via-else-is_empty+then-is_empty-2, in-Transparent, in-WithBackground}

pub returns-in_default : goal.returns-in_default
returns-in_default c =
    let a = c.args in
    sym (ap (λ (b : BoundingBox). shown a.framebuffer (box_picture a.color (pixels_of (u8g2 a.font.now.bytes.now) a.glyph) b) a.buffer.now)
    c.in_default.is ∙ shown_blank a.framebuffer a.buffer.now)

pub returns-then-is_empty : goal.returns-then-is_empty
returns-then-is_empty c =
    let a = c.args in
    let ps = pixels_of (u8g2 a.font.now.bytes.now) a.glyph in
    let g = area_of_box c.in-Some.is c.requires.box in
    let e = c.get_visible_part-part.ensures in
    sym (ap (λ (b : BoundingBox). shown a.framebuffer (box_picture a.color ps b) a.buffer.now) c.in-Some.is
    ∙ elim c.then-is_empty.branch [
      | then-is_empty-via-then-is_empty w ↦ beside g a.framebuffer e a.buffer.now c.requires.window a.color ps (search rules)
      | then-is_empty-via-else-is_empty+then-is_empty-2 w ↦ above_or_below g a.framebuffer e a.buffer.now c.requires.window a.color ps (search rules)
    ])

pub draw_rows-requires : goal.draw_rows-requires
draw_rows-requires c =
    let a = c.args in
    let g = area_of_box c.in-Some.is c.requires.box in
    -- the background keeps the buffer's length
    let same_size : length c.match-color.buffer ≡ length a.buffer.now =
    elim c.match-color.branch [
      | in-Transparent w ↦ ap length w.buffer-is
      | in-WithBackground w ↦ ap length (w.buffer-is ∙ w.fill_box.ensures) ∙ simp length_map_at
    ]
    in
    let part = c.get_visible_part-part.result in
    let columns : part.columns.start < part.columns.end = search rules in
    let rows : part.rows.start < part.rows.end = search rules in
    let f = subst (λ (n : ℕ). BufferFits n a.framebuffer) (sym same_size) c.requires.window in
    record { checked = c.requires.checked; fits = part_fits g a.framebuffer c.get_visible_part-part.ensures f columns rows }

pub returns : goal.returns
returns c =
    let a = c.args in
    let part = c.get_visible_part-part in
    let g = area_of_box c.in-Some.is c.requires.box in
    let x = columns_seen g a.framebuffer part.ensures (search rules) in
    let y = rows_seen g a.framebuffer part.ensures (search rules) in
    c.draw_rows.ensures
    ∙ elim c.match-color.branch [
      | in-Transparent w ↦
          draws_transparent a.framebuffer _ _ c.in-Some.area _ x y a.glyph g.width a.buffer.now c.requires.window c.in-Some.is
          w.value-is w.in-Transparent.is w.buffer-is
      | in-WithBackground w ↦
          draws_background a.framebuffer _ _ c.in-Some.area _ x y a.glyph g.width a.buffer.now c.requires.window c.in-Some.is
          w.value-is w.in-WithBackground.is (w.buffer-is ∙ w.fill_box.ensures)
    ]
