-- SPECIFICATION, Bits and fields: a glyph's fields, in the order w, h, x, y, advance, and the answer to a code point.
use Rattle.std.specs.Prelude.{List, ℕ, ◌+◌, ◌*◌}
use Rattle.definitions.specs.Vocabulary.{FontReader, GlyphReader}
use Rattle.definitions.specs.Refusals.{Outcome, success, refused, and_then}
use Rattle.definitions.specs.Header.{header}
use Rattle.definitions.specs.Bits.{Read, got, ends, read_at, biased}
use Rattle.definitions.specs.Lookup.{Search, found, missing, short, search}

-- what a read for the code point c comes to: number 8 where the font ends
abbrev pub or_ends : ℕ → Read → Outcome ℕ
or_ends c (got n) = success n
or_ends c ends = refused 8 c

abbrev pub unless_ends : ℕ → Read → (ℕ → Outcome GlyphReader) → Outcome GlyphReader
unless_ends c r rest = and_then (or_ends c r) rest

-- A field of b bits from the bit `at` on; what comes of its number and of the bit after it is `rest`.
abbrev pub field : List ℕ → ℕ → ℕ → ℕ → (ℕ → ℕ → Outcome GlyphReader) → Outcome GlyphReader
field font c b at rest = unless_ends c (read_at font at b) (λ n. rest n (at + b))

-- The fields of the glyph of c from the bit `at` on, their widths being the header's.
unfoldable pub fields : List ℕ → FontReader → ℕ → ℕ → Outcome GlyphReader
fields font head c at =
    field font c head.bitcnt_w at (λ w at.
    field font c head.bitcnt_h at (λ h at.
    field font c head.bitcnt_x at (λ x at.
    field font c head.bitcnt_y at (λ y at.
    field font c head.bitcnt_d at (λ d at.
    success record {
      glyph_width = w;
      glyph_height = h;
      offset_x = biased head.bitcnt_x x;
      offset_y = biased head.bitcnt_y y;
      advance = biased head.bitcnt_d d;
      bit_pos = at;
    })))))

abbrev pub from_search : List ℕ → ℕ → Search → Outcome GlyphReader
from_search font c (found start steps) = fields font (header font) c (start * 8)
from_search font c (missing steps) = refused 7 c
from_search font c short = refused 8 c

-- What the font answers to the code point c: the glyph, or the reason there is none.
unfoldable pub glyph : List ℕ → ℕ → Outcome GlyphReader
glyph font c = from_search font c (search font c)
