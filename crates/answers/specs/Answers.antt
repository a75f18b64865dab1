-- How the code's answer to a character is read, and when it may be drawn.
use Rattle.std.specs.Prelude.{◌≡◌, List, ℕ, Option, Some, None, Result, Ok, Err}
use Rattle.definitions.specs.Vocabulary.{Error, FontReader, GlyphReader, LookupSteps, Report}
use Rattle.definitions.specs.Refusals.{error_number, code_point, outcome}
use Rattle.definitions.specs.Text.{Answer, shows, nothing, stops}
use Rattle.definitions.specs.Glyph.{glyph}
use Rattle.definitions.specs.Font.{u8g2, drawable}
use Rattle.runs.specs.Stands.{CheckedGlyph}

abbrev pub as_answer : Result (Option GlyphReader) Error → Answer
as_answer (Ok (Some g)) = shows g
as_answer (Ok None) = nothing
as_answer (Err e) = stops (error_number e) (code_point e)

-- The code's answer is that one, with those steps.
pub record IsAnswer (a : Answer) (q : LookupSteps) (r : Report (Option GlyphReader)) : Type 0 where
  pub is : as_answer r.result ≡ a
  pub counted : r.steps ≡ q

-- A lookup whose glyph has all its runs.
pub record WholeLookedUp (font : List ℕ) (c : ℕ) (l : Report GlyphReader) : Type 0 where
  pub answered : outcome l.result ≡ drawable (u8g2 font) c (glyph font c)
  pub counted : l.steps ≡ (u8g2 font).steps c

-- the runs of the glyph that it shows were read to the last pixel
abbrev pub RunsChecked : List ℕ → FontReader → Answer → Type 0
RunsChecked font head l = (g : GlyphReader) → l ≡ shows g → CheckedGlyph font head g
