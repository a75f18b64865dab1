-- Colours as grey values.
use Rattle.std.specs.Prelude.{ℕ, eqb}
use Rattle.integers.specs.Integers.{pick}
use Rattle.definitions.specs.Vocabulary.{PixelFormat, Bytes, Packed}

-- Of a packed framebuffer's two colours 0 is black and 1 white.
abbrev pub grey : PixelFormat → ℕ → ℕ
grey Bytes color = color
grey Packed color = pick (eqb color 0) 0 255
