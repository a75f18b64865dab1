-- SPECIFICATION, Refusals: what a call comes to, the number and the code point of each refusal, and the order in
-- which causes are tested.
use Rattle.std.specs.Prelude.{Bool, false, ◌||◌, List, [], ◌∷◌, ℕ, Result, Ok, Err}
use Rattle.integers.specs.Integers.{pick}
use Rattle.definitions.specs.Vocabulary.{Error}
use Rattle.types.specs.declared.error.Error.TheVariants.{FontLength, FontHeader, FramebufferSize, TextEncoding, PositionOrLineHeight}
use Rattle.types.specs.declared.error.Error.TheVariants.{BackgroundColorNotSupported, GlyphNotFound, FontEnds, ColorNotSupported}

-- A call succeeds with a value, or is refused with a number and a code point.
pub data Outcome (A : Type 0) : Type 0 where
  success : A → Outcome A
  refused : ℕ → ℕ → Outcome A

-- A success goes on, a refusal stops.
abbrev pub and_then : {A B : Type 0} → Outcome A → (A → Outcome B) → Outcome B
and_then (success a) rest = rest a
and_then (refused n c) rest = refused n c

-- the number of each case of the error type
abbrev pub error_number : Error → ℕ
error_number FontLength = 1
error_number FontHeader = 2
error_number FramebufferSize = 3
error_number TextEncoding = 4
error_number PositionOrLineHeight = 5
error_number BackgroundColorNotSupported = 6
error_number (GlyphNotFound c) = 7
error_number (FontEnds c) = 8
error_number ColorNotSupported = 9

-- the code point that is returned with it: 0 where no letter is to blame
abbrev pub code_point : Error → ℕ
code_point FontLength = 0
code_point FontHeader = 0
code_point FramebufferSize = 0
code_point TextEncoding = 0
code_point PositionOrLineHeight = 0
code_point BackgroundColorNotSupported = 0
code_point (GlyphNotFound c) = c
code_point (FontEnds c) = c
code_point ColorNotSupported = 0

abbrev pub refusal : {A : Type 0} → Error → Outcome A
refusal e = refused (error_number e) (code_point e)

-- how the code's answer is read
abbrev pub outcome : {A : Type 0} → Result A Error → Outcome A
outcome (Ok a) = success a
outcome (Err e) = refusal e

-- A cause that is tested before any letter: its number, and whether it applies to the call.
pub record Cause : Type 0 where
  pub number : ℕ
  pub applies : Bool

-- The first cause that applies refuses the call; where none does, the call comes to what is left.
abbrev pub unless_refused : {A : Type 0} → List Cause → Outcome A → Outcome A
unless_refused [] rest = rest
unless_refused (c ∷ cs) rest = pick c.applies (refused c.number 0) (unless_refused cs rest)

abbrev pub any_applies : List Cause → Bool
any_applies [] = false
any_applies (c ∷ cs) = c.applies || any_applies cs
