-- Where and how a reading is drawn, by the numbers and codes of a call.
use Rattle.std.specs.Prelude.{ℕ, ℤ}
use Rattle.definitions.specs.Vocabulary.{Framebuffer, Place}
use Rattle.definitions.specs.Text.{point}
use Rattle.c_codes.specs.declared.Meaning.{Meaning}
use Rattle.c_codes.specs.Codes.{style_of}

abbrev pub place_by : Meaning → ℤ → ℤ → ℕ → ℕ → ℕ → ℕ → Framebuffer → Place
place_by m x y line_height fg bg background framebuffer = record {
  position = point x y;
  style = style_of m fg bg;
  horizontal_align = m.horizontal_align;
  line_height = line_height;
  background = background;
  framebuffer = framebuffer;
}
