-- Two spans that are joined, each a start and a length.
use Rattle.std.specs.Prelude.{ℕ, ℤ}
use Rattle.definitions.specs.Geometry.{SpanInReach}

-- Both are in reach.
pub record SpansInReach (start1 start2 : ℤ) (length1 length2 : ℕ) : Type 0 where
  pub first : SpanInReach start1 length1
  pub second : SpanInReach start2 length2
