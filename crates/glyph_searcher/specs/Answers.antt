-- What the code answers to a code point, of what its lookup comes to, and what a chain may count on.
use Rattle.std.specs.Prelude.{ℕ, ◌≤◌, Ok, Err}
use Rattle.types.specs.declared.error.Error.TheVariants.{GlyphNotFound, FontEnds}
use Rattle.definitions.specs.Vocabulary.{Report}
use Rattle.definitions.specs.Lookup.{Search, found, missing, short, no_steps}

abbrev pub search_report : ℕ → Search → Report ℕ
search_report c (found start steps) = record { result = Ok start; steps = steps }
search_report c (missing steps) = record { result = Err (GlyphNotFound c); steps = steps }
search_report c short = record { result = Err (FontEnds c); steps = no_steps }

-- A font of so many bytes, and where a chain of it may begin.
pub record InLimits (bytes start : ℕ) : Type 0 where
  pub least : 23 ≤ bytes
  pub most : bytes ≤ 1048576
  pub begins : start ≤ 1048576
