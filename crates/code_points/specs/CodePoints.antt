-- A code point as it is written, U+00B0: at least four hexadecimal digits, in upper case.
use Rattle.std.specs.Prelude.{◌≡◌, refl, List, [], ◌∷◌, ◌++◌, map, ℕ, zero, suc, ◌+◌, ◌/◌, ◌%◌, ltb}
use Rattle.integers.specs.Integers.{pick}

-- '0' (48) to '9', then 'A' (65) to 'F'
abbrev pub hex_digit : ℕ → ℕ
hex_digit d = pick (ltb d 10) (48 + d) (55 + d)

-- the last k digits of n, the highest first
unfoldable pub hex_digits : ℕ → ℕ → List ℕ
hex_digits zero n = []
hex_digits (suc k) n = hex_digits k (n / 16) ++ hex_digit (n % 16) ∷ []

-- how many digits are written of a number of 32 bits
abbrev pub hex_places : ℕ → ℕ
hex_places n =
    pick (ltb n 0x10000) 4
    (pick (ltb n 0x100000) 5
    (pick (ltb n 0x1000000) 6
    (pick (ltb n 0x10000000) 7 8)))

-- U+00B0, U+FFFF and U+1F600
pub cases : map (λ (c : ℕ). hex_digits (hex_places c) c) (176 ∷ 65535 ∷ 128512 ∷ [])
    ≡ (48 ∷ 48 ∷ 66 ∷ 48 ∷ []) ∷ (70 ∷ 70 ∷ 70 ∷ 70 ∷ []) ∷ (49 ∷ 70 ∷ 54 ∷ 48 ∷ 48 ∷ []) ∷ []
unfolding hex_digits
cases = refl

-- 'U' (85), '+' (43), and the digits
abbrev pub code_point_text : ℕ → List ℕ
code_point_text c = 85 ∷ 43 ∷ hex_digits (hex_places c) c
