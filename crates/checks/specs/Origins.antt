-- Where a text begins, from the ascent and the descent of the font's header, and what the checks of a call leave.
use Rattle.std.specs.Prelude.{◌≡◌, true, List, [], ◌∷◌, ℕ, ◌*◌, ◌≤◌, ℤ, pos, negsuc, ◌+ℤ◌, length, ◌≤ℤ◌}
use Rattle.definitions.specs.Vocabulary.{Point, FontReader, Placement}
use Rattle.definitions.specs.Refusals.{Outcome, success, Cause, unless_refused}
use Rattle.definitions.specs.Header.{Opened}
use Rattle.definitions.specs.Utf8.{decode, is_utf8, newlines}
use Rattle.definitions.specs.VerticalOffset.{vertical_offset}
use Rattle.definitions.specs.Text.{point}
use Rattle.definitions.specs.Font.{u8g2}
use Rattle.definitions.specs.Limits.{text_cause, position_cause}
use Rattle.definitions.specs.Calls.{Request, code_points_of, origin}
use Rattle.checks.specs.declared.origin.Pen.{Pen}

-- `origin` of Calls.antt, of these two instead of the font
abbrev pub origin_by : ℤ → ℤ → Request → Point
origin_by ascent descent r =
    point
    r.position.x
    (r.position.y +ℤ vertical_offset r.anchor (pos (newlines (code_points_of r.text) * r.line_height)) ascent descent)

-- causes 4 and 5 (SPECIFICATION, Refusals)
abbrev pub place_causes : Request → List Cause
place_causes r = text_cause r.text ∷ position_cause r.position r.line_height ∷ []

-- .. unless one of them applies
abbrev pub checked_origin : ℤ → ℤ → Request → Outcome Point
checked_origin ascent descent r = unless_refused (place_causes r) (success (origin_by ascent descent r))

-- a text that begins there goes on as it was placed
abbrev pub pen_at : Point → Placement → Pen
pen_at origin p = record { origin = origin; line_height = p.line_height; ignore_unknown_chars = p.ignore_unknown_chars }

-- the pen of a request
abbrev pub pen_of : List ℕ → Request → Pen
pen_of font r = record { origin = origin (u8g2 font) r; line_height = r.line_height; ignore_unknown_chars = r.skip }

-- What the checks of a call leave of a text and its place: the text is UTF-8 of at most 4,096 bytes, the line height at most
-- 65,535, and the place within its limits, moved by the anchor.
-- (It stays a clause, of a text and a pen: each line of a text is measured and drawn with the pen of all of it.)
pub record Checked (text : List ℕ) (origin : Point) (line_height : ℕ) : Type 0 where
  pub short : length text ≤ 4096
  pub utf8 : is_utf8 (decode text) ≡ true
  pub line : line_height ≤ 65535
  pub left : negsuc 1048575 ≤ℤ origin.x
  pub right : origin.x ≤ℤ pos 1048576
  pub top : negsuc 269480063 ≤ℤ origin.y
  pub bottom : origin.y ≤ℤ pos 1048704

-- A line of such a text, or all of it, whose place an alignment may have moved sideways.
pub record CheckedLine (text : List ℕ) (origin : Point) (line_height : ℕ) : Type 0 where
  pub short : length text ≤ 4096
  pub utf8 : is_utf8 (decode text) ≡ true
  pub line : line_height ≤ 65535
  pub left : negsuc 4194303 ≤ℤ origin.x
  pub right : origin.x ≤ℤ pos 4194304
  pub top : negsuc 269480063 ≤ℤ origin.y
  pub bottom : origin.y ≤ℤ pos 1048704

-- Such a text, in a font that is open.
pub record CheckedText (font : List ℕ) (head : FontReader) (text : List ℕ) (pen : Pen) : Type 0 where
  pub opened : Opened font head
  pub checked : Checked text pen.origin pen.line_height
