-- What opening a font stores for the caller: the header's values and the default line height.
use Rattle.std.specs.Prelude.{◌≡◌, List, [], ◌∷◌, ℕ, ltb, ℤ, pos}
use lib.Seq.{sets}
use Rattle.std.specs.Int.{from_bool}
use Rattle.integers.specs.Integers.{pick}
use Rattle.definitions.specs.Vocabulary.{FontReader}
use Rattle.definitions.specs.Refusals.{Outcome, success, refused}

abbrev pub header_values : FontReader → List ℤ
header_values h =
    pos h.glyph_count
    ∷ pos (from_bool h.supports_background_color)
    ∷ pos h.m0
    ∷ pos h.m1
    ∷ pos h.bitcnt_w
    ∷ pos h.bitcnt_h
    ∷ pos h.bitcnt_x
    ∷ pos h.bitcnt_y
    ∷ pos h.bitcnt_d
    ∷ h.font_bounding_box_width
    ∷ h.font_bounding_box_height
    ∷ h.font_bounding_box_x_offset
    ∷ h.font_bounding_box_y_offset
    ∷ h.ascent
    ∷ h.descent
    ∷ h.ascent_of_parentheses
    ∷ h.descent_of_parentheses
    ∷ pos h.array_offset_upper_a
    ∷ pos h.array_offset_lower_a
    ∷ pos h.array_offset_0x0100
    ∷ pos h.line_height
    ∷ []

-- The status, and what `out` then holds: as it was where the font is refused.
abbrev pub open_status : Outcome FontReader → ℕ
open_status (success h) = 0
open_status (refused n c) = n

abbrev pub open_stored : Outcome FontReader → List ℤ → List ℤ
open_stored (success h) out = sets out 0 (header_values h)
open_stored (refused n c) out = out

-- `out` needs room for 21 numbers; else the status is 255.
abbrev pub Opens : ℕ → Outcome FontReader → ℕ → List ℤ → List ℤ → Type 0
Opens room o r before after = (r ≡ pick (ltb room 21) 255 (open_status o)) × (after ≡ pick (ltb room 21) before (open_stored o before))
