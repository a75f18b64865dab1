-- A case's sixteen numbers, of four bytes each, in the order of the file.
use Rattle.std.specs.Prelude.{◌≡◌, Bool, true, false, Option, Some, None, ℕ, zero, suc, ◌≤◌, ◌<◌, ◌/◌, ◌%◌, ℤ, eqb, leb}
use Rattle.std.specs.Prelude.{List, length, take, drop, Result, Ok, Err, unwrap_or}
use Rattle.std.specs.Int.{w32, from_le_bytes, cast_signed}
use Rattle.integers.specs.Integers.{pick}
use Rattle.definitions.specs.Vocabulary.{FontColor, Place, PixelFormat, Bytes, Packed}
use Rattle.types.specs.declared.style.HorizontalAlignment.TheVariants.{Right}
use Rattle.types.specs.declared.style.VerticalPosition.TheVariants.{Bottom}
use Rattle.c_codes.specs.Codes.{anchor_of, alignment_of, flag_of, format_of, ink_of}
use Rattle.cases.specs.declared.reader.CaseError.{CaseError}
use Rattle.cases.specs.Reading.{Position, passed, byte as byte_at, number_or_zero as number_at, signed_number as signed_number_at}
use Rattle.case_calls.specs.declared.case.Call.{Call}
use Rattle.case_calls.specs.declared.case.Call.TheVariants.{Open, FontBox, Measure, MeasureAligned, Draw}
use Rattle.case_calls.specs.declared.case.Drawing.TheVariants.{Plain, Aligned, Redraw}
use Rattle.case_calls.specs.declared.case.Case.{Case}

-- where and how a redraw's readings are drawn
abbrev pub place_of : Case → Place
place_of c = record {
  position = c.placement.position;
  style = c.style;
  horizontal_align = c.horizontal_align;
  line_height = c.placement.line_height;
  background = c.background;
  framebuffer = c.framebuffer;
}

-- ---- of the bytes that are left, where each number is there and has a meaning

-- what stands behind n numbers
abbrev pub behind : ℕ → List ℕ → List ℕ
behind zero file = file
behind (suc n) file = drop 4 (behind n file)

-- the number behind n others
abbrev pub number : ℕ → List ℕ → ℕ
number n file = from_le_bytes w32 (take 4 (behind n file))

abbrev pub signed_number : ℕ → List ℕ → ℤ
signed_number n file = cast_signed w32 (number n file)

unfoldable pub call_of : ℕ → Option Call
call_of code =
    pick (eqb code 0) (Some Open)
    (pick (eqb code 1) (Some FontBox)
    (pick (eqb code 2) (Some Measure)
    (pick (eqb code 3) (Some MeasureAligned)
    (pick (eqb code 4) (Some (Draw Plain))
    (pick (eqb code 5) (Some (Draw Redraw))
    (pick (eqb code 6) (Some (Draw Aligned)) None))))))

-- a flag and two bytes are a colour
pub record IsColor (file : List ℕ) (color : FontColor) : Type 0 where
  pub long : 4 ≤ length (behind 2 file)
  pub background : Bool
  pub known : flag_of (number 0 file) ≡ Some background
  pub is : color ≡ ink_of background (number 1 file) (number 2 file)
  pub fg : number 1 file < 256
  pub bg : number 2 file < 256

-- the numbers of a case
pub record IsCase (file : List ℕ) (case : Case) : Type 0 where
  pub long : 4 ≤ length (behind 15 file)
  pub call : call_of (number 0 file % 16) ≡ Some case.call
  pub sums : case.sums ≡ leb 16 (number 0 file % 32)
  pub format : format_of (number 0 file / 32) ≡ Some case.framebuffer.format
  pub x : case.placement.position.x ≡ signed_number 1 file
  pub y : case.placement.position.y ≡ signed_number 2 file
  pub anchor : anchor_of (number 3 file) ≡ Some case.style.vertical_pos
  pub align : alignment_of (number 4 file) ≡ Some case.horizontal_align
  pub line_height : case.placement.line_height ≡ number 5 file
  pub skip : flag_of (number 6 file) ≡ Some case.placement.ignore_unknown_chars
  pub color : IsColor (behind 7 file) case.style.color
  pub width : case.framebuffer.width ≡ number 10 file
  pub height : case.framebuffer.height ≡ number 11 file
  pub fill : case.fill ≡ number 12 file
  pub fill_low : number 12 file < 256
  pub len : case.len ≡ number 13 file
  pub old_len : case.old_len ≡ number 14 file
  pub background : case.background ≡ number 15 file
  pub background_low : number 15 file < 256

-- A value is read of n numbers, which are passed, or they are no such value.
abbrev pub Reads : {A : Type 0} → (List ℕ → A → Type 0) → ℕ → List ℕ → List ℕ → Result A CaseError → Type 0
Reads Is n before after (Ok value) = Is before value × (after ≡ behind n before)
Reads Is n before after (Err e) = (value : _) → Is before value → ⊥

-- ---- from a place on: what is not there is 0, and every code has a meaning

-- where what stands behind n numbers begins
abbrev pub behind_at : ℕ → Position → Position
behind_at zero p = p
behind_at (suc n) p = passed 4 (behind_at n p)

-- the number behind n others
abbrev pub number_or_zero : ℕ → Position → ℕ
number_or_zero n p = number_at (behind_at n p)

abbrev pub signed_number_or_zero : ℕ → Position → ℤ
signed_number_or_zero n p = signed_number_at (behind_at n p)

abbrev pub byte : ℕ → Position → ℕ
byte n p = byte_at (behind_at n p)

-- 5 and what is no call's number are the redraw step.
unfoldable pub call_or_redraw : ℕ → Call
call_or_redraw code =
    pick (eqb code 0) Open
    (pick (eqb code 1) FontBox
    (pick (eqb code 2) Measure
    (pick (eqb code 3) MeasureAligned
    (pick (eqb code 4) (Draw Plain)
    (pick (eqb code 6) (Draw Aligned) (Draw Redraw))))))

-- Above the format packed come no others, but bytes.
abbrev pub format_in : ℕ → PixelFormat
format_in kind = unwrap_or (format_of (kind / 32)) Bytes

-- a kind without its format
abbrev pub kind_without : PixelFormat → ℕ → ℕ
kind_without Bytes kind = kind
kind_without Packed kind = kind % 32

-- A flag and two bytes. Of the flag all but 0 is a background.
abbrev pub color_at : Position → FontColor
color_at p = ink_of (unwrap_or (flag_of (number_or_zero 0 p)) true) (byte 1 p) (byte 2 p)

-- The numbers of a case. A code without a meaning has that of the last one; what skips is 1 alone.
pub record IsCaseAt (p : Position) (case : Case) : Type 0 where
  pub format : case.framebuffer.format ≡ format_in (number_or_zero 0 p)
  pub call : case.call ≡ call_or_redraw (number_or_zero 0 p % 16)
  pub sums : case.sums ≡ leb 16 (kind_without (format_in (number_or_zero 0 p)) (number_or_zero 0 p))
  pub x : case.placement.position.x ≡ signed_number_or_zero 1 p
  pub y : case.placement.position.y ≡ signed_number_or_zero 2 p
  pub anchor : case.style.vertical_pos ≡ unwrap_or (anchor_of (number_or_zero 3 p)) Bottom
  pub align : case.horizontal_align ≡ unwrap_or (alignment_of (number_or_zero 4 p)) Right
  pub line_height : case.placement.line_height ≡ number_or_zero 5 p
  pub skip : case.placement.ignore_unknown_chars ≡ unwrap_or (flag_of (number_or_zero 6 p)) false
  pub color : case.style.color ≡ color_at (behind_at 7 p)
  pub width : case.framebuffer.width ≡ number_or_zero 10 p
  pub height : case.framebuffer.height ≡ number_or_zero 11 p
  pub fill : case.fill ≡ byte 12 p
  pub len : case.len ≡ number_or_zero 13 p
  pub old_len : case.old_len ≡ number_or_zero 14 p
  pub background : case.background ≡ byte 15 p
