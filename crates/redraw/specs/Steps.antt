-- Readings one after the other: each step is handed the text that the steps before it left on the screen.
use Rattle.std.specs.Prelude.{◌≡◌, false, List, [], ◌∷◌, ℕ}
use Rattle.integers.specs.Integers.{pick}
use Rattle.definitions.specs.Vocabulary.{Framebuffer, Point, RenderedDimensions, FontColor, Transparent, HorizontalAlignment, VerticalPosition, Place}
use Rattle.definitions.specs.Refusals.{Outcome, success}
use Rattle.definitions.specs.Font.{u8g2}
use Rattle.definitions.specs.Limits.{color_off, background_off}
use Rattle.definitions.specs.Agreement.{Ground, on}
use Rattle.redraw_checks.specs.Drawing.{Drawing, drawn}
use Rattle.redraw.specs.Redraw.{reading_on, AllOf, redrawn, redrawn_buffer, taken}

-- What stays the same from step to step.
pub record Setting : Type 0 where
  pub font : List ℕ
  pub position : Point
  pub anchor : VerticalPosition
  pub align : HorizontalAlignment
  pub line_height : ℕ
  pub background : ℕ
  pub framebuffer : Framebuffer

abbrev pub setting_of : List ℕ → Place → Setting
setting_of font place = record {
  font = font;
  position = place.position;
  anchor = place.style.vertical_pos;
  align = place.horizontal_align;
  line_height = place.line_height;
  background = place.background;
  framebuffer = place.framebuffer;
}

-- What may change.
pub record Reading : Type 0 where
  pub text : List ℕ
  pub color : FontColor

abbrev pub reading_of : List ℕ → FontColor → Reading
reading_of text color = record { text = text; color = color }

abbrev pub in_setting : Setting → Reading → Drawing
in_setting f r = record {
  text = r.text;
  position = f.position;
  anchor = f.anchor;
  align = f.align;
  color = r.color;
  line_height = f.line_height;
}

abbrev pub ground_in : Setting → List ℕ → Ground
ground_in f bytes = on f.framebuffer bytes

-- The screen, and the reading that the next step is to clear.
pub record Screen : Type 0 where
  pub old : Reading
  pub bytes : List ℕ

-- Before the first step it shows the ground alone: the text without letters has no box.
abbrev pub bare : List ℕ → Screen
bare ground = record { old = record { text = []; color = Transparent 0 }; bytes = ground }

-- What a step answers, and the screen after it. The next step is to clear the new reading if this one was taken.
abbrev pub step_answer : Setting → Screen → Reading → Outcome RenderedDimensions
step_answer f s new = redrawn f.font s.old.text (in_setting f new) f.background (ground_in f s.bytes)

abbrev pub step_on : Setting → Screen → Reading → Screen
step_on f s new = record {
  old = pick (taken (step_answer f s new)) new s.old;
  bytes = redrawn_buffer f.font s.old.text (in_setting f new) f.background (ground_in f s.bytes);
}

-- the screen after a list of steps, and what each of them answered
unfoldable pub steps_on : Setting → Screen → List Reading → Screen
steps_on f s [] = s
steps_on f s (r ∷ rs) = steps_on f (step_on f s r) rs

unfoldable pub answers : Setting → Screen → List Reading → List (Outcome RenderedDimensions)
answers f s [] = []
answers f s (r ∷ rs) = step_answer f s r ∷ answers f (step_on f s r) rs

-- ---- what the screen is to show

-- what a reading drawn alone on the ground answers
abbrev pub alone : Setting → List ℕ → Reading → Outcome RenderedDimensions
alone f ground r = drawn f.font (in_setting f r) (ground_in f ground)

-- the last reading that none of the causes 1 to 6 and 9 refuses, or `old` where there is none
unfoldable pub last_taken : Setting → List ℕ → Reading → List Reading → Reading
last_taken f ground old [] = old
last_taken f ground old (r ∷ rs) = last_taken f ground (pick (taken (alone f ground r)) r old) rs

-- The screen shows a reading on the ground, whole or not at all.
abbrev pub showing : Setting → List ℕ → Reading → Screen
showing f ground r = record { old = r; bytes = reading_on f.font (in_setting f r) (ground_in f ground) }

-- Where a reading stands, the ground is background ..
abbrev pub ClearFor : Setting → List ℕ → Reading → Type 0
ClearFor f ground r = (d : RenderedDimensions) → alone f ground r ≡ success d → AllOf f.background (ground_in f ground) d.bounding_box

-- .. and so it is for each of them.
abbrev pub ClearForAll : Setting → List ℕ → List Reading → Type 0
ClearForAll f ground [] = Unit {0}
ClearForAll f ground (r ∷ rs) = ClearFor f ground r × ClearForAll f ground rs

-- The framebuffer has the colour, and the font allows it: neither 9 nor 6 refuses it.
abbrev pub Allowed : Setting → FontColor → Type 0
Allowed f color = (color_off f.framebuffer.format color ≡ false) × (background_off color (u8g2 f.font).background ≡ false)

-- One step, from `entry` to `exit`: if `entry` shows the old text on a ground, in a colour that is allowed, and the ground is background
-- in its box, `exit` is what the new reading shows on that ground. A step that was not taken leaves the screen as it was.
abbrev pub LeavesReading : Setting → List ℕ → Reading → List ℕ → Outcome RenderedDimensions → List ℕ → Type 0
LeavesReading f old new entry answer exit =
    (ground : List ℕ) (color : FontColor) → Allowed f color → ClearFor f ground (reading_of old color)
    → entry ≡ reading_on f.font (in_setting f (reading_of old color)) (ground_in f ground)
    → exit ≡ pick (taken answer) (reading_on f.font (in_setting f new) (ground_in f ground)) entry
