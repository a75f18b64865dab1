-- The worked cases of SPECIFICATION, Font T (marked *), and cases of what no law speaks of: the header's bytes, both inks,
-- skipping. One table of what the definitions give and what follows from the rules, and one theorem, which computes them all.
use Rattle.std.specs.Prelude.{◌≡◌, refl, Bool, true, false, List, [], ◌∷◌, ◌++◌, map, ℕ, ◌+◌, ◌*◌, ℤ, pos, neg_ℤ, take, set, replicate}
use Rattle.definitions.specs.Vocabulary.{FontReader, Framebuffer, PixelFormat, Packed, Bytes, BoundingBox, None, Some, Rectangle}
use Rattle.definitions.specs.Vocabulary.{RenderedDimensions, GlyphReader, LookupSteps}
use Rattle.definitions.specs.Vocabulary.{FontColor, Transparent, WithBackground, HorizontalAlignment}
use Rattle.types.specs.declared.style.HorizontalAlignment.TheVariants.{Left as Alignment-as-Left, Center as Alignment-as-Center, Right as Alignment-as-Right}
use Rattle.types.specs.declared.style.VerticalPosition.TheVariants.{Baseline, Top, Center, Bottom}
use Rattle.integers.specs.Integers.{signed8}
use Rattle.definitions.specs.Refusals.{Outcome, success, refused}
use Rattle.definitions.specs.Header.{header, header_off}
use Rattle.definitions.specs.Bits.{low_bits, bits, number, read_at}
use Rattle.definitions.specs.Lookup.{record8, chain, record16, jump_table, search}
use Rattle.definitions.specs.Glyph.{fields, glyph}
use Rattle.definitions.specs.VerticalOffset.{vertical_offset}
use Rattle.definitions.specs.Utf8.{table, row_of, first_character, decode_from, newlines}
use Rattle.definitions.specs.Text.{point, join_all, letters, lines, line_by_line}
use Rattle.definitions.specs.Runs.{after_pair, runs, glyph_pixels}
use Rattle.definitions.specs.Picture.{text_picture}
use Rattle.definitions.specs.Framebuffer.{map_at, sized}
use Rattle.definitions.specs.Font.{u8g2}
use Rattle.definitions.specs.Calls.{Request, placed, request, plain, open_font, font_bounding_box, measure, measure_aligned, draw, draw_buffer, draw_aligned}
use Rattle.definitions.specs.Sums.{total, up_to, sums}
use Rattle.definitions.specs.FontT.{T}

-- what a case is about
pub data Result : Type 0 where
  offset : ℤ → Result
  opened : Outcome FontReader → Result
  box : Outcome Rectangle → Result
  answered : Outcome GlyphReader → Result
  measured : Outcome RenderedDimensions → Result
  boxed : Outcome BoundingBox → Result
  drawn : Outcome RenderedDimensions → List ℕ → Result
  summed : Outcome RenderedDimensions → LookupSteps → Result
  drawn_aligned : Outcome BoundingBox → LookupSteps → List ℕ → Result

pub record Case : Type 0 where
  pub given : Result
  pub expected : Result

abbrev neg : ℕ → ℤ
neg n = neg_ℤ (pos n)

abbrev rectangle : ℤ → ℤ → ℕ → ℕ → Rectangle
rectangle x y w h = record { top_left = record { x = x; y = y }; size = record { width = w; height = h } }

abbrev metrics : ℕ → ℕ → ℤ → ℤ → ℤ → ℕ → GlyphReader
metrics w h x y d at = record { glyph_width = w; glyph_height = h; offset_x = x; offset_y = y; advance = d; bit_pos = at }

-- a text at (10, 20) on the baseline, with T's line height: measured, skipping unknown letters or not ..
abbrev measured_with : Bool → List ℕ → List ℕ → Result
measured_with skip font text = measured (measure (u8g2 font) (plain text (placed (point (pos 10) (pos 20)) 4 skip) Baseline))

abbrev measured_at : List ℕ → List ℕ → Result
measured_at = measured_with false

abbrev aligned_at : HorizontalAlignment → List ℕ → List ℕ → Result
aligned_at a font text = boxed (measure_aligned (u8g2 font) (request text (placed (point (pos 10) (pos 20)) 4 false) Baseline a))

-- .. and drawn on 15 × 24 pixels of 0, in the colour 1 unless another is given
abbrev drawn_with : FontColor → Bool → List ℕ → List ℕ → Result
drawn_with color skip font text =
    let r = plain text (placed (point (pos 10) (pos 20)) 4 skip) Baseline in
    let p : Framebuffer = record { format = Bytes; width = 15; height = 24 } in
    drawn (draw (u8g2 font) r color p (replicate 360 0)) (draw_buffer (u8g2 font) r color p (replicate 360 0))

abbrev drawn_at : List ℕ → List ℕ → Result
drawn_at = drawn_with (Transparent 1) false

-- .. and drawn at (0, 8) on 8 columns of so many rows, by the format (request A4)
abbrev drawn_by : PixelFormat → ℕ → FontColor → List ℕ → List ℕ → List ℕ → Result
drawn_by format height color font text before =
    let r = plain text (placed (point (pos 0) (pos 8)) 4 false) Baseline in
    let p = sized format 8 height in
    drawn (draw (u8g2 font) r color p before) (draw_buffer (u8g2 font) r color p before)

-- .. and what a call comes to, with the sums that go with that
abbrev summed_by : (Request → Outcome RenderedDimensions) → Bool → List ℕ → List ℕ → Result
summed_by call skip font text =
    let r = plain text (placed (point (pos 10) (pos 20)) 4 skip) Baseline in summed (call r) (sums (u8g2 font) text (call r))

abbrev summed_at : List ℕ → List ℕ → Result
summed_at font = summed_by (measure (u8g2 font)) false font

-- .. and drawn with an alignment on the same pixels (request A2)
abbrev aligned_on : HorizontalAlignment → List ℕ → List ℕ → Result
aligned_on a font text =
    let r = request text (placed (point (pos 10) (pos 20)) 4 false) Baseline a in
    let p : Framebuffer = record { format = Bytes; width = 15; height = 24 } in
    let o = draw_aligned (u8g2 font) r (Transparent 1) p (replicate 360 0) in
    drawn_aligned o (sums (u8g2 font) text o) (draw_buffer (u8g2 font) r (Transparent 1) p (replicate 360 0))

abbrev steps : ℕ → ℕ → LookupSteps
steps r e = record { records = r; entries = e }

abbrev dims : ℤ → ℤ → BoundingBox → Outcome RenderedDimensions
dims x y b = success record { advance = point x y; bounding_box = b }

-- "-4" at (0, 8)
abbrev minus_four_at_8 : Outcome RenderedDimensions
minus_four_at_8 = dims (pos 6) (pos 0) (Some (rectangle (pos 0) (pos 5) 5 3))

-- the 15 × 24 pixels with a colour where column and row are listed ..
abbrev colored : ℕ → List (ℕ × ℕ) → List ℕ → List ℕ
colored color [] pixels = pixels
colored color (p ∷ ps) pixels = set (colored color ps pixels) (p.1 * 15 + p.0) color

-- .. the colour 1
abbrev inked : List (ℕ × ℕ) → List ℕ
inked ps = colored 1 ps (replicate 360 0)

-- T's "-", "4", "-4", and "4" on the line below "-": advance and box, and the pixels that are set
abbrev minus : Outcome RenderedDimensions
minus = dims (pos 3) (pos 0) (Some (rectangle (pos 10) (pos 17) 2 1))

abbrev minus_pixels : List (ℕ × ℕ)
minus_pixels = (10, 17) ∷ (11, 17) ∷ []

abbrev four : Outcome RenderedDimensions
four = dims (pos 3) (pos 0) (Some (rectangle (pos 10) (pos 18) 2 2))

abbrev four_pixels : List (ℕ × ℕ)
four_pixels = (10, 18) ∷ (10, 19) ∷ (11, 19) ∷ []

abbrev minus_four : Outcome RenderedDimensions
minus_four = dims (pos 6) (pos 0) (Some (rectangle (pos 10) (pos 17) 5 3))

abbrev minus_four_pixels : List (ℕ × ℕ)
minus_four_pixels = (10, 17) ∷ (11, 17) ∷ (13, 18) ∷ (13, 19) ∷ (14, 19) ∷ []

abbrev four_below : Outcome RenderedDimensions
four_below = dims (pos 3) (pos 4) (Some (rectangle (pos 10) (pos 17) 2 7))

abbrev four_below_pixels : List (ℕ × ℕ)
four_below_pixels = (10, 17) ∷ (11, 17) ∷ (10, 22) ∷ (10, 23) ∷ (11, 23) ∷ []

-- header values of T, and its line height 4
abbrev header_of_t : FontReader
header_of_t = record {
  glyph_count = 2;
  supports_background_color = false;
  m0 = 2;
  m1 = 2;
  bitcnt_w = 3;
  bitcnt_h = 3;
  bitcnt_x = 2;
  bitcnt_y = 3;
  bitcnt_d = 3;
  font_bounding_box_width = pos 2;
  font_bounding_box_height = pos 3;
  font_bounding_box_x_offset = pos 0;
  font_bounding_box_y_offset = pos 0;
  ascent = pos 3;
  descent = pos 0;
  ascent_of_parentheses = pos 3;
  descent_of_parentheses = pos 0;
  array_offset_upper_a = 10;
  array_offset_lower_a = 10;
  array_offset_0x0100 = 12;
  line_height = 4;
}

-- A font of 23 different bytes, none of them 0: a value that is read from another byte differs. Bytes 11 to 16 are negative,
-- and Center divides −3 by 2.
abbrev H : List ℕ
H =
    150 ∷ 200 ∷ 5 ∷ 6 ∷ 7 ∷ 3 ∷ 2 ∷ 4 ∷ 8 ∷ 11 ∷ 13 ∷ 251 ∷ 247 ∷ 235 ∷ 239 ∷ 253 ∷ 242
    ∷ 1 ∷ 9 ∷ 10 ∷ 12 ∷ 15 ∷ 16
    ∷ []

-- its values, byte 1 being 0 or not
abbrev header_of_h : Bool → FontReader
header_of_h background = record {
  glyph_count = 150;
  supports_background_color = background;
  m0 = 5;
  m1 = 6;
  bitcnt_w = 7;
  bitcnt_h = 3;
  bitcnt_x = 2;
  bitcnt_y = 4;
  bitcnt_d = 8;
  font_bounding_box_width = pos 11;
  font_bounding_box_height = pos 13;
  font_bounding_box_x_offset = neg 5;
  font_bounding_box_y_offset = neg 9;
  ascent = neg 21;
  descent = neg 17;
  ascent_of_parentheses = neg 3;
  descent_of_parentheses = neg 14;
  array_offset_upper_a = 265;
  array_offset_lower_a = 2572;
  array_offset_0x0100 = 3856;
  line_height = 14;
}

-- T's header with all offsets 0 and a glyph count of 1, a glyph "!" of no pixels and advance 1, and T's "-"
abbrev F : List ℕ
F =
    1 ∷ 0 ∷ 2 ∷ 2 ∷ 3 ∷ 3 ∷ 2 ∷ 3 ∷ 3 ∷ 2 ∷ 3 ∷ 0 ∷ 0 ∷ 3 ∷ 0 ∷ 3 ∷ 0 ∷ 0 ∷ 0 ∷ 0 ∷ 0 ∷ 0 ∷ 0
    ∷ 33 ∷ 5 ∷ 24 ∷ 40 ∷ 0
    ∷ 45 ∷ 5 ∷ 138 ∷ 62 ∷ 2
    ∷ 0 ∷ 0
    ∷ []

unfoldable pub cases : List Case
cases =
    -- * Center with ascent −4 and descent 0, a text of one line
    record { given = offset (vertical_offset Center (pos 0) (neg 4) (pos 0)); expected = offset (neg 1) }
    -- T opens, with line height 4; T's font box from each anchor
    ∷ record { given = opened (open_font T); expected = opened (success header_of_t) }
    ∷ record { given = box (font_bounding_box T Baseline); expected = box (success (rectangle (pos 0) (neg 3) 2 3)) }
    ∷ record { given = box (font_bounding_box T Top); expected = box (success (rectangle (pos 0) (pos 1) 2 3)) }
    ∷ record { given = box (font_bounding_box T Center); expected = box (success (rectangle (pos 0) (neg 1) 2 3)) }
    ∷ record { given = box (font_bounding_box T Bottom); expected = box (success (rectangle (pos 0) (neg 3) 2 3)) }
    -- H opens, with its byte 1 and with 0 there; H's font box from each anchor
    ∷ record { given = opened (open_font H); expected = opened (success (header_of_h true)) }
    ∷ record { given = opened (open_font (set H 1 0)); expected = opened (success (header_of_h false)) }
    ∷ record { given = box (font_bounding_box H Baseline); expected = box (success (rectangle (neg 5) (neg 4) 11 13)) }
    ∷ record { given = box (font_bounding_box H Top); expected = box (success (rectangle (neg 5) (neg 24) 11 13)) }
    ∷ record { given = box (font_bounding_box H Center); expected = box (success (rectangle (neg 5) (neg 22) 11 13)) }
    ∷ record { given = box (font_bounding_box H Bottom); expected = box (success (rectangle (neg 5) (neg 21) 11 13)) }
    -- the glyphs of "-" and "4"
    ∷ record { given = answered (glyph T 45); expected = answered (success (metrics 2 1 (pos 0) (pos 2) (pos 3) 214)) }
    ∷ record { given = answered (glyph T 52); expected = answered (success (metrics 2 2 (pos 0) (pos 0) (pos 3) 254)) }
    -- * "A", U+0100, U+10000 and U+0000: 7 (U+0000 amended by A3: the record 0 0 ends the chain)
    ∷ record { given = answered (glyph T 65); expected = answered (refused 7 65) }
    ∷ record { given = answered (glyph T 256); expected = answered (refused 7 256) }
    ∷ record { given = answered (glyph T 65536); expected = answered (refused 7 65536) }
    ∷ record { given = answered (glyph T 0); expected = answered (refused 7 0) }
    -- .. whatever follows that record; without its jump it is 8
    ∷ record { given = answered (glyph (T ++ replicate 9 0) 0); expected = answered (refused 7 0) }
    ∷ record { given = answered (glyph (take 34 T) 0); expected = answered (refused 8 0) }
    -- .. and a record of U+0000 with a jump is found
    ∷ record { given = measured_at (take 23 F ++ 0 ∷ 5 ∷ 138 ∷ 62 ∷ 2 ∷ []) (0 ∷ []); expected = measured minus }
    -- * the first 33 bytes of T: "4" is there, "A" is 8
    ∷ record { given = answered (glyph (take 33 T) 52); expected = answered (success (metrics 2 2 (pos 0) (pos 0) (pos 3) 254)) }
    ∷ record { given = answered (glyph (take 33 T) 65); expected = answered (refused 8 65) }
    -- glyph data reaches past its jump: T with the jump of "4" cut to 3
    ∷ record { given = answered (glyph (set T 29 3) 52); expected = answered (success (metrics 2 2 (pos 0) (pos 0) (pos 3) 254)) }
    -- * "-" and "4" at (10, 20)
    ∷ record { given = measured_at T (45 ∷ []); expected = measured minus }
    ∷ record { given = drawn_at T (45 ∷ []); expected = drawn minus (inked minus_pixels) }
    ∷ record { given = drawn_at T (52 ∷ []); expected = drawn four (inked four_pixels) }
    -- "4" with the background colour 2 where the font allows one (byte 1), and where it does not
    ∷ record {
      given = drawn_with (WithBackground 1 2) false (set T 1 3) (52 ∷ []);
      expected = drawn four (colored 2 ((11, 18) ∷ []) (inked four_pixels));
    }
    ∷ record { given = drawn_with (WithBackground 1 2) false T (52 ∷ []); expected = drawn (refused 6 0) (inked []) }
    -- * "-4", plain, centred and from the right
    ∷ record { given = measured_at T (45 ∷ 52 ∷ []); expected = measured minus_four }
    ∷ record { given = drawn_at T (45 ∷ 52 ∷ []); expected = drawn minus_four (inked minus_four_pixels) }
    ∷ record {
      given = aligned_at Alignment-as-Center T (45 ∷ 52 ∷ []);
      expected = boxed (success (Some (rectangle (pos 8) (pos 17) 5 3)));
    }
    ∷ record {
      given = aligned_at Alignment-as-Right T (45 ∷ 52 ∷ []);
      expected = boxed (success (Some (rectangle (pos 5) (pos 17) 5 3)));
    }
    -- a centred line whose box does not begin at the line's start: "!-" in a font whose "!" has no pixels
    ∷ record {
      given = aligned_at Alignment-as-Center F (33 ∷ 45 ∷ []);
      expected = boxed (success (Some (rectangle (pos 9) (pos 17) 2 1)));
    }
    -- * "-", newline, "4"
    ∷ record { given = measured_at T (45 ∷ 10 ∷ 52 ∷ []); expected = measured four_below }
    ∷ record { given = drawn_at T (45 ∷ 10 ∷ 52 ∷ []); expected = drawn four_below (inked four_below_pixels) }
    -- * "A", U+0100, U+10000 and U+0000: 7 (U+0000 amended by A3)
    ∷ record { given = measured_at T (65 ∷ []); expected = measured (refused 7 65) }
    ∷ record { given = measured_at T (196 ∷ 128 ∷ []); expected = measured (refused 7 256) }
    ∷ record { given = measured_at T (240 ∷ 144 ∷ 128 ∷ 128 ∷ []); expected = measured (refused 7 65536) }
    ∷ record { given = measured_at T (0 ∷ []); expected = measured (refused 7 0) }
    -- unknown letters skipped: "A", and "-A4"; an 8 is never: "-A" in the first 33 bytes of T
    ∷ record { given = measured_with true T (65 ∷ []); expected = measured (dims (pos 0) (pos 0) None) }
    ∷ record {
      given = drawn_with (Transparent 1) true T (45 ∷ 65 ∷ 52 ∷ []);
      expected = drawn minus_four (inked minus_four_pixels);
    }
    ∷ record {
      given = drawn_with (Transparent 1) true (take 33 T) (45 ∷ 65 ∷ []);
      expected = drawn (refused 8 65) (inked minus_pixels);
    }
    -- "-4" padded with U+0000 to eight characters, skipped and not (request A3)
    ∷ record {
      given = drawn_with (Transparent 1) true T (45 ∷ 52 ∷ replicate 6 0);
      expected = drawn minus_four (inked minus_four_pixels);
    }
    ∷ record {
      given = drawn_at T (45 ∷ 52 ∷ replicate 6 0);
      expected = drawn (refused 7 0) (inked minus_four_pixels);
    }
    ∷ record {
      given = aligned_on Alignment-as-Center T (45 ∷ 52 ∷ replicate 6 0);
      expected = drawn_aligned (refused 7 0) (steps 5 0) (inked []);
    }
    -- "-4" on packed framebuffers (request A4): on ground of 0, and in the colour 0 on ground of 1
    ∷ record {
      given = drawn_by Packed 8 (Transparent 1) T (45 ∷ 52 ∷ []) (replicate 8 0);
      expected = drawn minus_four_at_8 (32 ∷ 32 ∷ 0 ∷ 192 ∷ 128 ∷ 0 ∷ 0 ∷ 0 ∷ []);
    }
    ∷ record {
      given = drawn_by Packed 8 (Transparent 0) T (45 ∷ 52 ∷ []) (replicate 8 255);
      expected = drawn minus_four_at_8 (223 ∷ 223 ∷ 255 ∷ 63 ∷ 127 ∷ 255 ∷ 255 ∷ 255 ∷ []);
    }
    -- .. a colour that is no bit: 9, before the font's 6, which the byte framebuffer gives; a height of 12 rows: 3, and none there
    ∷ record { given = drawn_by Packed 8 (WithBackground 2 0) T (45 ∷ []) (replicate 8 0); expected = drawn (refused 9 0) (replicate 8 0) }
    ∷ record { given = drawn_by Bytes 8 (WithBackground 2 0) T (45 ∷ []) (replicate 64 0); expected = drawn (refused 6 0) (replicate 64 0) }
    ∷ record { given = drawn_by Packed 12 (Transparent 1) T [] (replicate 8 0); expected = drawn (refused 3 0) (replicate 8 0) }
    ∷ record {
      given = drawn_by Bytes 12 (Transparent 1) T [] (replicate 96 0);
      expected = drawn (dims (pos 0) (pos 0) None) (replicate 96 0);
    }
    -- * the first 33 bytes of T: "4" is drawn, "A" is 8
    ∷ record { given = drawn_at (take 33 T) (52 ∷ []); expected = drawn four (inked four_pixels) }
    ∷ record { given = drawn_at (take 33 T) (65 ∷ []); expected = drawn (refused 8 65) (inked []) }
    -- * the empty text
    ∷ record { given = measured_at T []; expected = measured (dims (pos 0) (pos 0) None) }
    -- the sums of a success, newlines bringing nothing; of "A", "5" and U+0000, which are missing, the record with jump 0 not
    -- counted (amended by A3); of U+10000, for which no byte is read
    ∷ record { given = summed_at T (45 ∷ 52 ∷ []); expected = summed minus_four (steps 3 0) }
    ∷ record { given = summed_at T (45 ∷ 10 ∷ 52 ∷ []); expected = summed four_below (steps 3 0) }
    ∷ record { given = summed_at T (65 ∷ []); expected = summed (refused 7 65) (steps 0 0) }
    ∷ record { given = summed_at T (53 ∷ []); expected = summed (refused 7 53) (steps 2 0) }
    ∷ record { given = summed_at T (0 ∷ []); expected = summed (refused 7 0) (steps 2 0) }
    ∷ record { given = summed_at T (240 ∷ 144 ∷ 128 ∷ 128 ∷ []); expected = summed (refused 7 65536) (steps 0 0) }
    -- with 7 up to the missing letter, with 8 none
    ∷ record { given = summed_at T (45 ∷ 65 ∷ []); expected = summed (refused 7 65) (steps 1 0) }
    ∷ record { given = summed_at T (45 ∷ 65 ∷ 52 ∷ []); expected = summed (refused 7 65) (steps 1 0) }
    ∷ record { given = summed_at (take 33 T) (45 ∷ 65 ∷ []); expected = summed (refused 8 65) (steps 0 0) }
    -- a text that is not UTF-8; "A" skipped; the padded "-4", of which each U+0000 passes two records
    ∷ record { given = summed_at T (45 ∷ 255 ∷ []); expected = summed (refused 4 0) (steps 0 0) }
    ∷ record { given = summed_by (measure (u8g2 T)) true T (45 ∷ 65 ∷ 52 ∷ []); expected = summed minus_four (steps 3 0) }
    ∷ record { given = summed_by (measure (u8g2 T)) true T (45 ∷ 52 ∷ replicate 6 0); expected = summed minus_four (steps 15 0) }
    -- runs that the font's end cuts off: 8 in drawing alone
    ∷ record { given = summed_at (take 32 T) (52 ∷ []); expected = summed four (steps 2 0) }
    ∷ record {
      given = summed_by (λ r. draw (u8g2 (take 32 T)) r (Transparent 1) record { format = Bytes; width = 1; height = 1 } (0 ∷ [])) false (take 32 T) (52 ∷ []);
      expected = summed (refused 8 52) (steps 0 0);
    }
    -- U+0100 by the jump table: an entry whose distance leads past the end, three bytes more, two entries and a byte
    ∷ record { given = summed_at (take 23 F ++ 255 ∷ 255 ∷ 0 ∷ 0 ∷ []) (196 ∷ 128 ∷ []); expected = summed (refused 7 256) (steps 0 1) }
    ∷ record {
      given = summed_at (take 23 F ++ 255 ∷ 255 ∷ 0 ∷ 0 ∷ 0 ∷ 0 ∷ 0 ∷ []) (196 ∷ 128 ∷ []);
      expected = summed (refused 7 256) (steps 0 1);
    }
    ∷ record { given = summed_at (T ++ replicate 9 0) (196 ∷ 128 ∷ []); expected = summed (refused 7 256) (steps 0 2) }
    -- .. an entry and a record with code 0, and an entry and the glyph's record
    ∷ record {
      given = summed_at (T ++ 0 ∷ 4 ∷ 255 ∷ 255 ∷ 0 ∷ 0 ∷ 0 ∷ []) (196 ∷ 128 ∷ []);
      expected = summed (refused 7 256) (steps 1 1);
    }
    ∷ record {
      given = summed_at (T ++ 0 ∷ 4 ∷ 255 ∷ 255 ∷ 1 ∷ 0 ∷ 6 ∷ 138 ∷ 62 ∷ 2 ∷ []) (196 ∷ 128 ∷ []);
      expected = summed minus (steps 1 1);
    }
    -- .. and with jump 0, which up to 255 ends the chain (request A3)
    ∷ record {
      given = summed_at (take 23 F ++ 0 ∷ 4 ∷ 255 ∷ 255 ∷ 1 ∷ 0 ∷ 0 ∷ 138 ∷ 62 ∷ 2 ∷ []) (196 ∷ 128 ∷ []);
      expected = summed minus (steps 1 1);
    }
    ∷ record { given = summed_at (take 23 F ++ 45 ∷ 0 ∷ 138 ∷ 62 ∷ 2 ∷ []) (45 ∷ []); expected = summed (refused 7 45) (steps 0 0) }
    -- aligned drawing: "-", an empty line, "-", of which the last lies below the pixels; "-" and "-4" centred and from the right
    ∷ record {
      given = aligned_on Alignment-as-Left T (45 ∷ 10 ∷ 10 ∷ 45 ∷ []);
      expected = drawn_aligned (success (Some (rectangle (pos 10) (pos 17) 2 9))) (steps 2 0) (inked ((10, 17) ∷ (11, 17) ∷ []));
    }
    ∷ record {
      given = aligned_on Alignment-as-Center T (45 ∷ 10 ∷ 45 ∷ 52 ∷ []);
      expected = drawn_aligned (success (Some (rectangle (pos 8) (pos 17) 5 7))) (steps 4 0)
          (inked ((9, 17) ∷ (10, 17) ∷ (8, 21) ∷ (9, 21) ∷ (11, 22) ∷ (11, 23) ∷ (12, 23) ∷ []));
    }
    ∷ record {
      given = aligned_on Alignment-as-Right T (45 ∷ 10 ∷ 45 ∷ 52 ∷ []);
      expected = drawn_aligned (success (Some (rectangle (pos 5) (pos 17) 5 7))) (steps 4 0)
          (inked ((8, 17) ∷ (9, 17) ∷ (5, 21) ∷ (6, 21) ∷ (8, 22) ∷ (8, 23) ∷ (9, 23) ∷ []));
    }
    -- "-", newline, "4A": Left has drawn the "4", the others measure the line first; the sums are the same
    ∷ record {
      given = aligned_on Alignment-as-Left T (45 ∷ 10 ∷ 52 ∷ 65 ∷ []);
      expected = drawn_aligned (refused 7 65) (steps 3 0) (inked four_below_pixels);
    }
    ∷ record {
      given = aligned_on Alignment-as-Center T (45 ∷ 10 ∷ 52 ∷ 65 ∷ []);
      expected = drawn_aligned (refused 7 65) (steps 3 0) (inked ((9, 17) ∷ (10, 17) ∷ []));
    }
    ∷ record {
      given = aligned_on Alignment-as-Right T (45 ∷ 10 ∷ 52 ∷ 65 ∷ []);
      expected = drawn_aligned (refused 7 65) (steps 3 0) (inked ((8, 17) ∷ (9, 17) ∷ []));
    }
    -- "4" with its runs cut off, and U+10000 after it: with Center and Right the later 7 comes before the cut runs' 8
    ∷ record {
      given = aligned_on Alignment-as-Left (take 32 T) (52 ∷ 240 ∷ 144 ∷ 128 ∷ 128 ∷ []);
      expected = drawn_aligned (refused 8 52) (steps 0 0) (inked []);
    }
    ∷ record {
      given = aligned_on Alignment-as-Center (take 32 T) (52 ∷ 240 ∷ 144 ∷ 128 ∷ 128 ∷ []);
      expected = drawn_aligned (refused 7 65536) (steps 2 0) (inked []);
    }
    ∷ record {
      given = aligned_on Alignment-as-Right (take 32 T) (52 ∷ 240 ∷ 144 ∷ 128 ∷ 128 ∷ []);
      expected = drawn_aligned (refused 7 65536) (steps 2 0) (inked []);
    }
    -- .. and the runs' 8 with what the lines before drew
    ∷ record {
      given = aligned_on Alignment-as-Center (take 32 T) (45 ∷ 10 ∷ 45 ∷ 52 ∷ []);
      expected = drawn_aligned (refused 8 52) (steps 0 0) (inked ((9, 17) ∷ (10, 17) ∷ (8, 21) ∷ (9, 21) ∷ []));
    }
    ∷ []

pub cases_hold : map (λ (c : Case). c.given) cases ≡ map (λ (c : Case). c.expected) cases
unfolding cases open_font font_bounding_box header header_off signed8 T glyph fields search record8 chain record16 jump_table
    read_at bits low_bits number table row_of first_character decode_from newlines join_all letters lines line_by_line after_pair runs glyph_pixels
    text_picture map_at measure measure_aligned draw draw_buffer draw_aligned total up_to
cases_hold = refl
