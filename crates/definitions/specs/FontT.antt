-- SPECIFICATION, Font T: the bytes of font T.
use Rattle.std.specs.Prelude.{List, [], ◌∷◌, ℕ}

unfoldable pub T : List ℕ
T =
    2 ∷ 0 ∷ 2 ∷ 2 ∷ 3 ∷ 3 ∷ 2 ∷ 3 ∷ 3 ∷ 2 ∷ 3 ∷ 0 ∷ 0 ∷ 3 ∷ 0 ∷ 3 ∷ 0 ∷ 0 ∷ 10 ∷ 0 ∷ 10 ∷ 0 ∷ 12
    ∷ 45 ∷ 5 ∷ 138 ∷ 62 ∷ 2
    ∷ 52 ∷ 5 ∷ 146 ∷ 60 ∷ 73
    ∷ 0 ∷ 0
    ∷ []
