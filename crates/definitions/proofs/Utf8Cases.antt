-- Sequences that tell readings of Unicode's table 3-7 apart: one table of bytes and what they decode to, and one theorem,
-- which computes them all.
use Rattle.integers.proofs.Prelude.{◌≡◌, refl, List, [], ◌∷◌, map, ℕ}
use Rattle.definitions.specs.Utf8.{table, row_of, first_character, Decoded, characters, not_utf8, decode_from, decode}

pub record Case : Type 0 where
  pub bytes : List ℕ
  pub expected : Decoded

unfoldable pub cases : List Case
cases =
    -- nothing; one, two, three and four bytes
    record { bytes = []; expected = characters [] }
    ∷ record { bytes = 0x00 ∷ 0x2D ∷ 0x7F ∷ []; expected = characters (0x00 ∷ 0x2D ∷ 0x7F ∷ []) }
    ∷ record { bytes = 0xC2 ∷ 0x80 ∷ 0xDF ∷ 0xBF ∷ []; expected = characters (0x80 ∷ 0x7FF ∷ []) }
    ∷ record { bytes = 0xE0 ∷ 0xA0 ∷ 0x80 ∷ 0xE2 ∷ 0x82 ∷ 0xAC ∷ 0xEF ∷ 0xBF ∷ 0xBF ∷ []; expected = characters (0x800 ∷ 0x20AC ∷ 0xFFFF ∷ []) }
    ∷ record { bytes = 0xF0 ∷ 0x90 ∷ 0x80 ∷ 0x80 ∷ 0xF0 ∷ 0x9F ∷ 0x98 ∷ 0x80 ∷ []; expected = characters (0x10000 ∷ 0x1F600 ∷ []) }
    ∷ record { bytes = 0xF4 ∷ 0x8F ∷ 0xBF ∷ 0xBF ∷ 0x0A ∷ []; expected = characters (0x10FFFF ∷ 10 ∷ []) }
    -- the code points beside the surrogates, and the first and the last surrogate
    ∷ record { bytes = 0xED ∷ 0x9F ∷ 0xBF ∷ 0xEE ∷ 0x80 ∷ 0x80 ∷ []; expected = characters (0xD7FF ∷ 0xE000 ∷ []) }
    ∷ record { bytes = 0xED ∷ 0xA0 ∷ 0x80 ∷ []; expected = not_utf8 }
    ∷ record { bytes = 0xED ∷ 0xBF ∷ 0xBF ∷ []; expected = not_utf8 }
    -- overlong
    ∷ record { bytes = 0x2D ∷ 0xC0 ∷ 0xAF ∷ []; expected = not_utf8 }
    ∷ record { bytes = 0xC1 ∷ 0xBF ∷ []; expected = not_utf8 }
    ∷ record { bytes = 0xE0 ∷ 0x80 ∷ 0x80 ∷ []; expected = not_utf8 }
    ∷ record { bytes = 0xE0 ∷ 0x9F ∷ 0xBF ∷ []; expected = not_utf8 }
    ∷ record { bytes = 0xF0 ∷ 0x80 ∷ 0x80 ∷ 0x80 ∷ []; expected = not_utf8 }
    ∷ record { bytes = 0xF0 ∷ 0x8F ∷ 0xBF ∷ 0xBF ∷ []; expected = not_utf8 }
    -- above the last code point
    ∷ record { bytes = 0xF4 ∷ 0x90 ∷ 0x80 ∷ 0x80 ∷ []; expected = not_utf8 }
    ∷ record { bytes = 0xF5 ∷ 0x80 ∷ 0x80 ∷ 0x80 ∷ []; expected = not_utf8 }
    ∷ record { bytes = 0xFF ∷ []; expected = not_utf8 }
    -- cut, with nothing or another character after it; a byte that continues nothing; one that does not continue
    ∷ record { bytes = 0xE2 ∷ 0x82 ∷ []; expected = not_utf8 }
    ∷ record { bytes = 0xC2 ∷ []; expected = not_utf8 }
    ∷ record { bytes = 0xF0 ∷ 0x9F ∷ 0x98 ∷ 0x2D ∷ []; expected = not_utf8 }
    ∷ record { bytes = 0x80 ∷ []; expected = not_utf8 }
    ∷ record { bytes = 0xE2 ∷ 0x82 ∷ 0xC0 ∷ []; expected = not_utf8 }
    ∷ []

pub cases_hold : map (λ (c : Case). decode c.bytes) cases ≡ map (λ (c : Case). c.expected) cases
unfolding cases table row_of first_character decode_from
cases_hold = refl
