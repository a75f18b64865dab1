-- The first line of a text, of its bytes or of its code points, and what comes after its newline. The byte 10 is the newline: no
-- longer sequence of UTF-8 has it.
use Rattle.std.specs.Prelude.{List, [], ◌∷◌, ℕ, eqb}
use Rattle.integers.specs.Integers.{pick}

unfoldable pub line_of : List ℕ → List ℕ
line_of [] = []
line_of (c ∷ cs) = pick (eqb c 10) [] (c ∷ line_of cs)

unfoldable pub rest_of : List ℕ → List ℕ
rest_of [] = []
rest_of (c ∷ cs) = pick (eqb c 10) cs (rest_of cs)
