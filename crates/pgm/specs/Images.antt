-- The head of a PGM image (netpbm's pgm(5)): `P5`, width and height in decimal, and 255, the value of white; one white space
-- character before each number and after the last.
use Rattle.std.specs.Prelude.{List, [], ◌∷◌, ◌++◌, ℕ}
use Rattle.numbers.specs.Decimal.{decimal}

abbrev pub pgm_head : ℕ → ℕ → List ℕ
pgm_head width height = 80 ∷ 53 ∷ 32 ∷ decimal width ++ 32 ∷ decimal height ++ 10 ∷ 50 ∷ 53 ∷ 53 ∷ 10 ∷ []
