-- What the public calls read their answers off.
use Rattle.std.specs.Prelude.{◌≡◌, List, ℕ}
use Rattle.definitions.specs.Vocabulary.{Report, RenderedDimensions}
use Rattle.definitions.specs.Refusals.{outcome}
use Rattle.definitions.specs.Font.{u8g2}
use Rattle.definitions.specs.Calls.{Request, measure}
use Rattle.definitions.specs.Sums.{sums}

-- The text is measured as it is aligned: aligned measuring answers with the box of that, and plain measuring is the alignment Left.
pub record AlignedMeasured (font : List ℕ) (r : Request) (report : Report RenderedDimensions) : Type 0 where
  pub answered : outcome report.result ≡ measure (u8g2 font) r
  pub summed : report.steps ≡ sums (u8g2 font) r.text (measure (u8g2 font) r)
