-- Agreement is not empty: its hypotheses hold for "-4" drawn with font T on 8 × 8 pixels and with five bytes added to T
-- on 9 × 12, the contents differing from the seventh row on. The 4 lies off the first framebuffer and half off the second.
use Rattle.integers.proofs.Prelude.{◌≡◌, refl, false, List, [], ◌∷◌, ◌++◌, ℕ, arith, pos, replicate}
use Rattle.definitions.specs.Vocabulary.{BoundingBox, Bytes, Packed, Some, RenderedDimensions, Transparent}
use Rattle.types.specs.declared.style.HorizontalAlignment.TheVariants.{Center}
use Rattle.types.specs.declared.style.VerticalPosition.TheVariants.{Baseline}
use Rattle.integers.specs.Integers.{signed8}
use Rattle.definitions.specs.Header.{header, header_off}
use Rattle.definitions.specs.Bits.{low_bits, bits, number, read_at}
use Rattle.definitions.specs.Lookup.{record8, chain, search}
use Rattle.definitions.specs.Glyph.{fields, glyph}
use Rattle.definitions.specs.Utf8.{table, row_of, first_character, decode_from, newlines}
use Rattle.definitions.specs.Refusals.{success}
use Rattle.definitions.specs.Text.{point, join_all, letters, lines, line_by_line}
use Rattle.definitions.specs.Runs.{after_pair, runs, glyph_pixels}
use Rattle.definitions.specs.Picture.{text_picture}
use Rattle.definitions.specs.Framebuffer.{sized, map_at}
use Rattle.definitions.specs.Calls.{Request, placed, request, plain, draw, draw_buffer, draw_aligned}
use Rattle.definitions.specs.Font.{u8g2}
use Rattle.definitions.specs.FontT.{T}
use Rattle.definitions.specs.Agreement.{Ground, on, drawn, after, pixel, results, aligned_results, plain_box, aligned_box, TwoDrawings, Agree}
use Rattle.definitions.proofs.Agreement.{agreement}
use Rattle.definitions.proofs.AlignedLaws.{aligned_agreement}

abbrev added : List ℕ
added = 45 ∷ 3 ∷ 255 ∷ 0 ∷ 9 ∷ []

abbrev asked : Request
asked = plain (45 ∷ 52 ∷ []) (placed (point (pos 5) (pos 3)) 4 false) Baseline

abbrev small : Ground
small = on (sized Bytes 8 8) (replicate 64 0)

abbrev large : Ground
large = on (sized Bytes 9 12) (replicate 54 0 ++ replicate 54 7)

abbrev dimensions : RenderedDimensions
dimensions = record {
  advance = point (pos 6) (pos 0);
  bounding_box = Some record { top_left = record { x = pos 5; y = pos 0 }; size = record { width = 5; height = 3 } };
}

pub supposed : TwoDrawings T (T ++ added) asked small large
unfolding T header header_off signed8 table row_of first_character decode_from
supposed = record { first_within = refl; second_within = refl; no_skips = refl; more = added; longer = refl; same_format = refl; as_wide = omega arith; as_high = omega arith }

pub succeeds : drawn (u8g2 T) asked (Transparent 1) small ≡ success dimensions
unfolding T header header_off signed8 glyph fields search record8 chain read_at bits low_bits number
    table row_of first_character decode_from newlines join_all letters lines line_by_line after_pair runs glyph_pixels draw
succeeds = refl

-- The drawing changes pixels: the left one of "-" in both, and that of "4" in the second.
abbrev changed : List ℕ
changed =
    pixel small (after (u8g2 T) asked (Transparent 1) small) 5 0
    ∷ pixel large (after (u8g2 (T ++ added)) asked (Transparent 1) large) 5 0
    ∷ pixel large (after (u8g2 (T ++ added)) asked (Transparent 1) large) 8 1
    ∷ []

pub changes : changed ≡ 1 ∷ 1 ∷ 1 ∷ []
unfolding T header header_off signed8 glyph fields search record8 chain read_at bits low_bits number
    table row_of first_character decode_from newlines join_all letters lines line_by_line after_pair runs glyph_pixels text_picture map_at draw_buffer
changes = refl

pub claimed : Agree plain_box small large (results (u8g2 T) (u8g2 (T ++ added)) asked (Transparent 1) small large) dimensions
claimed = agreement T (T ++ added) asked (Transparent 1) small large supposed dimensions succeeds

-- ---- the same of a centred text of two lines

abbrev centered : Request
centered = request (45 ∷ 10 ∷ 52 ∷ []) (placed (point (pos 5) (pos 3)) 4 false) Baseline Center

abbrev centered_box : BoundingBox
centered_box = Some record { top_left = record { x = pos 4; y = pos 0 }; size = record { width = 2; height = 7 } }

pub centered_supposed : TwoDrawings T (T ++ added) centered small large
unfolding T header header_off signed8 table row_of first_character decode_from
centered_supposed = record { first_within = refl; second_within = refl; no_skips = refl; more = added; longer = refl; same_format = refl; as_wide = omega arith; as_high = omega arith }

pub centered_succeeds : draw_aligned (u8g2 T) centered (Transparent 1) small.framebuffer small.before ≡ success centered_box
unfolding T header header_off signed8 glyph fields search record8 chain read_at bits low_bits number
    table row_of first_character decode_from newlines join_all letters lines line_by_line after_pair runs glyph_pixels draw_aligned
centered_succeeds = refl

pub centered_changes : (pixel small (after (u8g2 T) centered (Transparent 1) small) 4 0 ∷ pixel large (after (u8g2 (T ++ added)) centered (Transparent 1) large) 4 5 ∷ []) ≡ 1 ∷ 1 ∷ []
unfolding T header header_off signed8 glyph fields search record8 chain read_at bits low_bits number
    table row_of first_character decode_from newlines join_all letters lines line_by_line after_pair runs glyph_pixels text_picture map_at draw_buffer
centered_changes = refl

pub centered_claimed : Agree aligned_box small large (aligned_results (u8g2 T) (u8g2 (T ++ added)) centered (Transparent 1) small large) centered_box
centered_claimed = aligned_agreement T (T ++ added) centered (Transparent 1) small large centered_supposed centered_box centered_succeeds

-- ---- the same text on packed framebuffers

abbrev small_packed : Ground
small_packed = on (sized Packed 8 8) (replicate 8 0)

abbrev large_packed : Ground
large_packed = on (sized Packed 9 16) (replicate 9 0 ++ replicate 9 255)

pub packed_supposed : TwoDrawings T (T ++ added) centered small_packed large_packed
unfolding T header header_off signed8 table row_of first_character decode_from
packed_supposed =
    record { first_within = refl; second_within = refl; no_skips = refl; more = added; longer = refl; same_format = refl; as_wide = omega arith; as_high = omega arith }

pub packed_succeeds : draw_aligned (u8g2 T) centered (Transparent 1) small_packed.framebuffer small_packed.before ≡ success centered_box
unfolding T header header_off signed8 glyph fields search record8 chain read_at bits low_bits number
    table row_of first_character decode_from newlines join_all letters lines line_by_line after_pair runs glyph_pixels draw_aligned
packed_succeeds = refl

pub packed_changes :
    (pixel small_packed (after (u8g2 T) centered (Transparent 1) small_packed) 4 0
    ∷ pixel large_packed (after (u8g2 (T ++ added)) centered (Transparent 1) large_packed) 4 5
    ∷ [])
    ≡ 1 ∷ 1 ∷ []
unfolding T header header_off signed8 glyph fields search record8 chain read_at bits low_bits number
    table row_of first_character decode_from newlines join_all letters lines line_by_line after_pair runs glyph_pixels text_picture map_at draw_buffer
packed_changes = refl

pub packed_claimed : Agree aligned_box small_packed large_packed
    (aligned_results (u8g2 T) (u8g2 (T ++ added)) centered (Transparent 1) small_packed large_packed) centered_box
packed_claimed = aligned_agreement T (T ++ added) centered (Transparent 1) small_packed large_packed packed_supposed centered_box packed_succeeds
