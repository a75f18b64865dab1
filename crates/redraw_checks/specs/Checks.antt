-- What the step's tests leave of it.
use Rattle.std.specs.Prelude.{List, [], ◌∷◌, ◌++◌, ℕ, length}
use Rattle.definitions.specs.Refusals.{Cause}
use Rattle.definitions.specs.Header.{font_causes}
use Rattle.definitions.specs.Vocabulary.{Transparent}
use Rattle.definitions.specs.Framebuffer.{framebuffer_cause, BufferFits}
use Rattle.definitions.specs.Limits.{text_cause, position_cause, color_cause, background_cause}
use Rattle.definitions.specs.Font.{u8g2}
use Rattle.definitions.specs.Agreement.{Ground}
use Rattle.checks.specs.declared.origin.Pen.{Pen}
use Rattle.checks.specs.declared.origin.Setup.{Setup}
use Rattle.checks.specs.Setups.{SetFor}
use Rattle.redraw_checks.specs.Drawing.{Drawing, asks, with_text}
use Rattle.redraw_checks.specs.declared.Step.{Step}

-- The causes of the step, in the order of SPECIFICATION, Refusals, for both texts. What clears is a colour too, and comes with those of
-- the new text.
abbrev pub redraw_causes : List ℕ → List ℕ → Drawing → ℕ → Ground → List Cause
redraw_causes font old new background p =
    font_causes font
    ++ framebuffer_cause p.framebuffer p.before
    ∷ text_cause old
    ∷ text_cause new.text
    ∷ position_cause new.position new.line_height
    ∷ color_cause p.framebuffer.format new.color
    ∷ color_cause p.framebuffer.format (Transparent background)
    ∷ background_cause new.color (u8g2 font).background
    ∷ []

-- one of its texts with that pen
abbrev pub set_with : Step → Pen → Setup
set_with s pen = record { font = s.font; pen = pen }

-- Both texts are set as they are asked, and the buffer is the framebuffer's.
pub record ReadyFor (font old : List ℕ) (new : Drawing) (p : Ground) (s : Step) : Type 0 where
  pub old_set : SetFor font (asks (with_text old new)) (set_with s s.old_pen)
  pub new_set : SetFor font (asks new) (set_with s s.new_pen)
  pub fits : BufferFits (length p.before) p.framebuffer
