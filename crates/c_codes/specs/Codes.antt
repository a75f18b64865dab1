-- What the codes of a call mean: numbers from 0 in the order of the variants, and no others.
use Rattle.std.specs.Prelude.{Bool, true, false, Option, Some, None, ℕ, eqb, ltb, ℤ}
use Rattle.integers.specs.Integers.{pick}
use Rattle.definitions.specs.Vocabulary.{FontColor, Transparent, WithBackground, FontStyle, Framebuffer, PixelFormat, Bytes, Packed}
use Rattle.definitions.specs.Vocabulary.{Placement, HorizontalAlignment, VerticalPosition}
use Rattle.definitions.specs.Text.{point}
use Rattle.definitions.specs.Framebuffer.{sized}
use Rattle.definitions.specs.Calls.{placed}
use Rattle.types.specs.declared.style.HorizontalAlignment.TheVariants.{Left, Center as Centre, Right}
use Rattle.types.specs.declared.style.VerticalPosition.TheVariants.{Baseline, Top, Center, Bottom}
use Rattle.c_codes.specs.declared.Meaning.{Meaning}

unfoldable pub anchor_of : ℕ → Option VerticalPosition
anchor_of code =
    pick (eqb code 0) (Some Baseline)
    (pick (eqb code 1) (Some Top)
    (pick (eqb code 2) (Some Center)
    (pick (eqb code 3) (Some Bottom) None)))

unfoldable pub alignment_of : ℕ → Option HorizontalAlignment
alignment_of code =
    pick (eqb code 0) (Some Left)
    (pick (eqb code 1) (Some Centre)
    (pick (eqb code 2) (Some Right) None))

unfoldable pub flag_of : ℕ → Option Bool
flag_of code = pick (eqb code 0) (Some false) (pick (eqb code 1) (Some true) None)

unfoldable pub format_of : ℕ → Option PixelFormat
format_of code = pick (eqb code 0) (Some Bytes) (pick (eqb code 1) (Some Packed) None)

-- All of a call's codes have a meaning and the answer has room, or not.
abbrev pub all_known : Option VerticalPosition → Option HorizontalAlignment → Option Bool → Option Bool → Option PixelFormat → Bool → Option Meaning
all_known (Some v) (Some h) (Some s) (Some b) (Some f) narrow =
    pick narrow None (Some (record { vertical_pos = v; horizontal_align = h; skip = s; background = b; format = f }))
all_known (Some v) (Some h) (Some s) (Some b) None narrow = None
all_known (Some v) (Some h) (Some s) None f narrow = None
all_known (Some v) (Some h) None b f narrow = None
all_known (Some v) None s b f narrow = None
all_known None h s b f narrow = None

unfoldable pub meaning_of : ℕ → ℕ → ℕ → ℕ → ℕ → ℕ → Option Meaning
meaning_of anchor align skip background format room =
    all_known (anchor_of anchor) (alignment_of align) (flag_of skip) (flag_of background) (format_of format) (ltb room 10)

-- The colour of a drawing: with a background colour or transparent.
abbrev pub ink_of : Bool → ℕ → ℕ → FontColor
ink_of true fg bg = WithBackground fg bg
ink_of false fg bg = Transparent fg

-- Where a text stands.
abbrev pub placed_by : Meaning → ℤ → ℤ → ℕ → Placement
placed_by m x y line_height = placed (point x y) line_height m.skip

abbrev pub style_of : Meaning → ℕ → ℕ → FontStyle
style_of m fg bg = record { color = ink_of m.background fg bg; vertical_pos = m.vertical_pos }

-- What is drawn on.
abbrev pub framebuffer_of : Meaning → ℕ → ℕ → Framebuffer
framebuffer_of m width height = sized m.format width height
