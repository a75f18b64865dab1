-- The measuring program's examples (SPECIFICATION, Font T): one table of what `measuring_line` gives and is to give, computed.
use Rattle.integers.proofs.Prelude.{◌≡◌, refl, List, [], ◌∷◌, map, ℕ}
use Rattle.integers.specs.Integers.{signed8}
use Rattle.definitions.specs.Header.{header, header_off}
use Rattle.definitions.specs.Bits.{low_bits, bits, number, read_at}
use Rattle.definitions.specs.Lookup.{record8, chain, record16, jump_table, search}
use Rattle.definitions.specs.Glyph.{fields, glyph}
use Rattle.definitions.specs.Utf8.{table, row_of, first_character, decode_from, newlines}
use Rattle.definitions.specs.Text.{join_all, letters, lines, line_by_line}
use Rattle.definitions.specs.Calls.{open_font, measure}
use Rattle.definitions.specs.FontT.{T}
use Rattle.numbers.specs.Decimal.{decimal_from, decimal}
use Rattle.measure_line.specs.Measured.{measured_by_program, measuring_line}

pub record LineCase : Type 0 where
  pub font : List ℕ
  pub text : List ℕ
  pub line : List ℕ

unfoldable pub line_cases : List LineCase
line_cases =
    -- "-4": `ok 6 0 0 -3 5 3`
    record { font = T; text = 45 ∷ 52 ∷ []; line = 111 ∷ 107 ∷ 32 ∷ 54 ∷ 32 ∷ 48 ∷ 32 ∷ 48 ∷ 32 ∷ 45 ∷ 51 ∷ 32 ∷ 53 ∷ 32 ∷ 51 ∷ 10 ∷ [] }
    -- "A": `no 7 65`
    ∷ record { font = T; text = 65 ∷ []; line = 110 ∷ 111 ∷ 32 ∷ 55 ∷ 32 ∷ 54 ∷ 53 ∷ 10 ∷ [] }
    -- "-4" and six U+0000: `no 7 0`
    ∷ record { font = T; text = 45 ∷ 52 ∷ 0 ∷ 0 ∷ 0 ∷ 0 ∷ 0 ∷ 0 ∷ []; line = 110 ∷ 111 ∷ 32 ∷ 55 ∷ 32 ∷ 48 ∷ 10 ∷ [] }
    -- the empty text: `ok 0 0 none`
    ∷ record { font = T; text = []; line = 111 ∷ 107 ∷ 32 ∷ 48 ∷ 32 ∷ 48 ∷ 32 ∷ 110 ∷ 111 ∷ 110 ∷ 101 ∷ 10 ∷ [] }
    -- "-4" and a newline, which is part of the text: `ok 0 4 0 -3 5 3`
    ∷ record { font = T; text = 45 ∷ 52 ∷ 10 ∷ []; line = 111 ∷ 107 ∷ 32 ∷ 48 ∷ 32 ∷ 52 ∷ 32 ∷ 48 ∷ 32 ∷ 45 ∷ 51 ∷ 32 ∷ 53 ∷ 32 ∷ 51 ∷ 10 ∷ [] }
    -- a missing font: `no 1 0`
    ∷ record { font = []; text = []; line = 110 ∷ 111 ∷ 32 ∷ 49 ∷ 32 ∷ 48 ∷ 10 ∷ [] }
    ∷ []

pub line_cases_hold : map (λ (c : LineCase). measuring_line c.font c.text) line_cases ≡ map (λ (c : LineCase). c.line) line_cases
unfolding line_cases measuring_line measured_by_program decimal decimal_from open_font header header_off signed8 T glyph fields search record8
    chain record16 jump_table read_at bits low_bits number table row_of first_character decode_from newlines join_all letters lines line_by_line measure
line_cases_hold = refl
