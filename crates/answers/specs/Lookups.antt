-- What a lookup answers, and its steps.
use Rattle.std.specs.Prelude.{◌≡◌, List, ℕ}
use Rattle.definitions.specs.Refusals.{outcome}
use Rattle.definitions.specs.Vocabulary.{GlyphReader, Report}
use Rattle.definitions.specs.Glyph.{glyph}
use Rattle.definitions.specs.Font.{u8g2}

pub record LookedUp (font : List ℕ) (c : ℕ) (l : Report GlyphReader) : Type 0 where
  pub answered : outcome l.result ≡ glyph font c
  pub counted : l.steps ≡ (u8g2 font).steps c
