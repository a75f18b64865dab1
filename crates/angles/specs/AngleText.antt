-- The text of an angle in tenths of a degree, as the gauge shows it: sign, degrees, a point and the tenth. 0 has no sign.
use Rattle.std.specs.Prelude.{List, [], ◌∷◌, ℕ, ◌+◌, ◌/◌, ◌%◌, ltb, ℤ, pos, nat_abs}
use Rattle.std.specs.Int.Signed.{lt_z}
use Rattle.integers.specs.Integers.{pick}

-- '0' is 48
abbrev pub digit : ℕ → ℕ
digit n = 48 + n

-- one digit or two, as needed, before the rest
unfoldable pub degrees_then : ℕ → List ℕ → List ℕ
degrees_then n rest = pick (ltb n 10) (digit n ∷ rest) (digit (n / 10) ∷ digit (n % 10) ∷ rest)

-- '.' is 46
abbrev pub tenths_text : ℕ → List ℕ
tenths_text n = degrees_then (n / 10) (46 ∷ digit (n % 10) ∷ [])

-- '-' is 45 and '+' is 43
abbrev pub sign_then : ℤ → List ℕ → List ℕ
sign_then z rest = pick (lt_z z (pos 0)) (45 ∷ rest) (pick (lt_z (pos 0) z) (43 ∷ rest) rest)

unfoldable pub angle_text : ℤ → List ℕ
angle_text z = sign_then z (tenths_text (nat_abs z))
