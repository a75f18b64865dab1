-- Numbers in decimal, as ASCII digits.
use Rattle.std.specs.Prelude.{List, [], ◌∷◌, ◌++◌, ℕ, zero, suc, ◌+◌, ◌/◌, ◌%◌, ltb, ℤ, pos, negsuc}
use Rattle.integers.specs.Integers.{pick}

-- The digits of n: those of n / 10, then n % 10; below 10, one digit. The first argument bounds the recursion and n is always
-- enough of it (`enough_fuel` of proofs/DecimalLaws.antt).
unfoldable pub decimal_from : ℕ → ℕ → List ℕ
decimal_from zero n = (48 + n) ∷ []
decimal_from (suc fuel) n = let longer = decimal_from fuel (n / 10) ++ (48 + n % 10) ∷ [] in pick (ltb n 10) ((48 + n) ∷ []) longer

unfoldable pub decimal : ℕ → List ℕ
decimal n = decimal_from n n

-- with a minus sign where it is negative
abbrev pub signed_decimal : ℤ → List ℕ
signed_decimal (pos n) = decimal n
signed_decimal (negsuc n) = 45 ∷ decimal (suc n)
