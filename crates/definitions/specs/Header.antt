-- SPECIFICATION, Header, and its limits: causes 1 and 2 of Refusals.
use Rattle.std.specs.Prelude.{Bool, ◌||◌, not, List, [], ◌∷◌, ◌≡◌, ℕ, ◌+◌, ◌*◌, ◌≤◌, ltb, eqb, ℤ, pos, nat_abs, ◌+ℤ◌, length, get_or, ◌≤ℤ◌}
use Rattle.std.specs.Int.Signed.{lt_z}
use Rattle.integers.specs.Integers.{signed8}
use Rattle.definitions.specs.Vocabulary.{FontReader}
use Rattle.definitions.specs.Refusals.{Cause}

-- a font is the list of its bytes; past its end stands 0, which no call reads
abbrev pub byte : List ℕ → ℕ → ℕ
byte font i = get_or font i 0

-- a byte that is signed
abbrev pub signed_byte : List ℕ → ℕ → ℤ
signed_byte font i = signed8 (byte font i)

-- a 16-bit number, its high byte first
abbrev pub big_endian16 : List ℕ → ℕ → ℕ
big_endian16 font i = byte font i * 256 + byte font (i + 1)

-- The default line height is the font box's height plus 1.
abbrev pub default_line_height : List ℕ → ℕ
default_line_height font = nat_abs (signed_byte font 10 +ℤ pos 1)

-- Every value of the header, and the default line height.
unfoldable pub header : List ℕ → FontReader
header font = record {
  glyph_count = byte font 0;
  supports_background_color = not (eqb (byte font 1) 0);
  m0 = byte font 2;
  m1 = byte font 3;
  bitcnt_w = byte font 4;
  bitcnt_h = byte font 5;
  bitcnt_x = byte font 6;
  bitcnt_y = byte font 7;
  bitcnt_d = byte font 8;
  font_bounding_box_width = signed_byte font 9;
  font_bounding_box_height = signed_byte font 10;
  font_bounding_box_x_offset = signed_byte font 11;
  font_bounding_box_y_offset = signed_byte font 12;
  ascent = signed_byte font 13;
  descent = signed_byte font 14;
  ascent_of_parentheses = signed_byte font 15;
  descent_of_parentheses = signed_byte font 16;
  array_offset_upper_a = big_endian16 font 17;
  array_offset_lower_a = big_endian16 font 19;
  array_offset_0x0100 = big_endian16 font 21;
  line_height = default_line_height font;
}

-- Cause 1: too few bytes for a header, or more than a mebibyte.
abbrev pub length_off : List ℕ → Bool
length_off font = ltb (length font) 23 || ltb 1048576 (length font)

-- the width of w, h or a run is 0 to 8
abbrev pub width_off : ℕ → Bool
width_off b = ltb 8 b

-- the width of x, y or the advance is 1 to 8
abbrev pub signed_width_off : ℕ → Bool
signed_width_off b = eqb b 0 || ltb 8 b

abbrev pub negative : ℤ → Bool
negative z = lt_z z (pos 0)

-- Cause 2: a width is off its limits, or the font box's width or height is negative.
unfoldable pub header_off : List ℕ → Bool
header_off font =
    width_off (byte font 2)
    || width_off (byte font 3)
    || width_off (byte font 4)
    || width_off (byte font 5)
    || signed_width_off (byte font 6)
    || signed_width_off (byte font 7)
    || signed_width_off (byte font 8)
    || negative (signed_byte font 9)
    || negative (signed_byte font 10)

-- The causes that concern the font, in order: every call that takes a font tests these first.
abbrev pub font_causes : List ℕ → List Cause
font_causes font =
    record { number = 1; applies = length_off font }
    ∷ record { number = 2; applies = header_off font }
    ∷ []

-- A font to which neither cause applies, and the header that was read from it: what the functions inside may count on.
pub record Opened (font : List ℕ) (head : FontReader) : Type 0 where
  pub least : 23 ≤ length font
  pub most : length font ≤ 1048576
  pub read : head ≡ header font
  pub m0 : head.m0 ≤ 8
  pub m1 : head.m1 ≤ 8
  pub w : head.bitcnt_w ≤ 8
  pub h : head.bitcnt_h ≤ 8
  pub x : (1 ≤ head.bitcnt_x) × (head.bitcnt_x ≤ 8)
  pub y : (1 ≤ head.bitcnt_y) × (head.bitcnt_y ≤ 8)
  pub d : (1 ≤ head.bitcnt_d) × (head.bitcnt_d ≤ 8)
  pub width : pos 0 ≤ℤ head.font_bounding_box_width
  pub height : pos 0 ≤ℤ head.font_bounding_box_height
