-- SPECIFICATION, Drawing and measuring: one drawing on a framebuffer of any format, and the same on one of as many pixels in bytes that
-- begins alike (request A4). `Unpackable` is what is supposed, `DrawnAlike` what is claimed.
use Rattle.std.specs.Prelude.{◌≡◌, false, List, ℕ}
use Rattle.definitions.specs.Vocabulary.{FontColor}
use Rattle.definitions.specs.Refusals.{Outcome}
use Rattle.definitions.specs.Framebuffer.{in_bytes, unpacked, framebuffer_cause}
use Rattle.definitions.specs.Limits.{color_off}
use Rattle.definitions.specs.Agreement.{Ground, on}

-- The size is within limits, the buffer has its length, and each pixel can take the colours. Font, text and place may be anything.
pub record Unpackable (color : FontColor) (p : Ground) : Type 0 where
  pub sized : (framebuffer_cause p.framebuffer p.before).applies ≡ false
  pub bits : color_off p.framebuffer.format color ≡ false

-- the same pixels in bytes
abbrev pub unpacked_ground : Ground → Ground
unpacked_ground p = on (in_bytes p.framebuffer) (unpacked p.framebuffer p.before)

-- Both answer the same, and what the one leaves is, unpacked, what the other leaves.
pub record DrawnAlike {A : Type 0} (p : Ground) (answer : Outcome A) (after : List ℕ) (answer_in_bytes : Outcome A)
    (after_in_bytes : List ℕ) : Type 0 where
  pub answers : answer_in_bytes ≡ answer
  pub pixels : after_in_bytes ≡ unpacked p.framebuffer after
