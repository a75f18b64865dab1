-- The visible part of a glyph lies in the glyph. Assumes nothing.
use Rattle.integers.proofs.Prelude.{List, ℕ, ◌+◌, ◌-◌, ◌*◌, ◌≤◌, add-mul, mul-le-mul_right, mul_comm, arith}
use Rattle.definitions.specs.Vocabulary.{GlyphReader, Framebuffer}
use Rattle.visible_part.specs.declared.VisiblePart.{VisiblePart}
use Rattle.rows.specs.Ones.{PartFits, ones_of}
use Rattle.rows.proofs.StateLaws.{Lies}

pub part_lies : {g : GlyphReader} {part : VisiblePart} {framebuffer : Framebuffer} {bytes : ℕ} → PartFits g part framebuffer bytes
    → (ps : List ℕ) (value : ℕ) → Lies (ones_of ps g.glyph_width part value) (g.glyph_width * g.glyph_height) framebuffer
part_lies {g} {part} f ps value =
    let rows : part.rows.start + (part.rows.end - part.rows.start) ≤ g.glyph_height = omega (arith, f.some_rows, f.in_height) in
    record {
      some = f.window.some;
      in_row = omega (arith, f.some_columns, f.in_width);
      in_glyph = omega (
        arith,
        add-mul part.rows.start (part.rows.end - part.rows.start) g.glyph_width,
        mul-le-mul_right g.glyph_width rows,
        mul_comm g.glyph_width g.glyph_height,
      );
    }
