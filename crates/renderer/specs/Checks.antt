-- What the tests of a call that draws leave of it.
use Rattle.std.specs.Prelude.{List, ℕ}
use Rattle.definitions.specs.Vocabulary.{Framebuffer}
use Rattle.definitions.specs.Framebuffer.{BufferFits}
use Rattle.definitions.specs.Calls.{Request}
use Rattle.checks.specs.declared.origin.Setup.{Setup}
use Rattle.checks.specs.Setups.{SetFor}

-- The text is set as it is asked, and a buffer of so many bytes is the framebuffer's.
pub record DrawnFor (font : List ℕ) (r : Request) (framebuffer : Framebuffer) (bytes : ℕ) (s : Setup) : Type 0 where
  pub set : SetFor font r s
  pub fits : BufferFits bytes framebuffer
