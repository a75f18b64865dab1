-- SPECIFICATION, Measuring program: the line of an outcome. Characters are ASCII codes.
use Rattle.std.specs.Prelude.{List, [], ◌∷◌, ◌++◌, ℕ}
use Rattle.definitions.specs.Vocabulary.{BoundingBox, None, Some, RenderedDimensions}
use Rattle.definitions.specs.Refusals.{Outcome, success, refused}
use Rattle.definitions.specs.Geometry.{left, top}
use Rattle.numbers.specs.Decimal.{decimal, signed_decimal}

-- `none`, or left, top, width, height
abbrev pub box_words : BoundingBox → List (List ℕ)
box_words None = (110 ∷ 111 ∷ 110 ∷ 101 ∷ []) ∷ []
box_words (Some r) = signed_decimal (left r) ∷ signed_decimal (top r) ∷ decimal r.size.width ∷ decimal r.size.height ∷ []

-- `ok`, the advance and the box; or `no`, the number and the code point
abbrev pub first_word : Outcome RenderedDimensions → List ℕ
first_word (success d) = 111 ∷ 107 ∷ []
first_word (refused n c) = 110 ∷ 111 ∷ []

abbrev pub later_words : Outcome RenderedDimensions → List (List ℕ)
later_words (success d) = signed_decimal d.advance.x ∷ signed_decimal d.advance.y ∷ box_words d.bounding_box
later_words (refused n c) = decimal n ∷ decimal c ∷ []

-- each word after one space
abbrev pub spaced : List (List ℕ) → List ℕ
spaced [] = []
spaced (word ∷ words) = 32 ∷ word ++ spaced words

-- .. and a newline at the end
abbrev pub outcome_line : Outcome RenderedDimensions → List ℕ
outcome_line o = first_word o ++ spaced (later_words o) ++ 10 ∷ []
