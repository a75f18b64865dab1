-- SPECIFICATION, Limits, of texts, places, line heights and colours: causes 4, 5, 9 and 6 of Refusals.
-- (Causes 1 and 2 stand in Header.antt, cause 3 in Framebuffer.antt.)
use Rattle.std.specs.Prelude.{Bool, false, ◌||◌, not, List, ℕ, ltb, ℤ, pos, negsuc, length}
use Rattle.std.specs.Int.Signed.{lt_z}
use Rattle.definitions.specs.Vocabulary.{Point, FontColor, Transparent, WithBackground, PixelFormat, Bytes, Packed}
use Rattle.definitions.specs.Refusals.{Cause}
use Rattle.definitions.specs.Utf8.{decode, is_utf8}

-- Cause 4: the text is too long, or not UTF-8.
abbrev pub text_cause : List ℕ → Cause
text_cause text = record { number = 4; applies = ltb 4096 (length text) || not (is_utf8 (decode text)) }

-- a coordinate beyond 2 to the power 20, on either side
abbrev pub coordinate_off : ℤ → Bool
coordinate_off z = lt_z z (negsuc 1048575) || lt_z (pos 1048576) z

-- Cause 5: the place as it is given, and a line height of 0 to 65,535.
abbrev pub position_cause : Point → ℕ → Cause
position_cause position line_height =
    record { number = 5; applies = coordinate_off position.x || coordinate_off position.y || ltb 65535 line_height }

-- Cause 9 (request A4): a pixel is a bit, and a colour that it would take is neither 0 nor 1. Tested before cause 6.
abbrev pub no_bit : ℕ → Bool
no_bit c = ltb 1 c

abbrev pub color_off : PixelFormat → FontColor → Bool
color_off Bytes color = false
color_off Packed (Transparent c) = no_bit c
color_off Packed (WithBackground fg bg) = no_bit fg || no_bit bg

abbrev pub color_cause : PixelFormat → FontColor → Cause
color_cause format color = record { number = 9; applies = color_off format color }

-- Cause 6: a background colour is wanted, and the font does not allow it.
abbrev pub background_off : FontColor → Bool → Bool
background_off (Transparent c) allowed = false
background_off (WithBackground fg bg) allowed = not allowed

abbrev pub background_cause : FontColor → Bool → Cause
background_cause color allowed = record { number = 6; applies = background_off color allowed }
