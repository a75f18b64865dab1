-- SPECIFICATION, Bits and fields: the bits of bytes and the reading of numbers from them.
use Rattle.std.specs.Prelude.{List, [], ◌∷◌, ◌++◌, ℕ, zero, suc, ◌+◌, ◌-◌, ◌*◌, ◌/◌, ◌%◌, ◌^◌, ltb, ℤ, pos, ◌-ℤ◌, length, take, drop}
use Rattle.integers.specs.Integers.{pick}

-- the n lowest bits of a number, from the lowest
unfoldable pub low_bits : ℕ → ℕ → List ℕ
low_bits zero x = []
low_bits (suc n) x = x % 2 ∷ low_bits n (x / 2)

-- The bits of bytes, from the lowest of each byte.
unfoldable pub bits : List ℕ → List ℕ
bits [] = []
bits (b ∷ bs) = low_bits 8 b ++ bits bs

-- The number that bits make, the first being the lowest.
unfoldable pub number : List ℕ → ℕ
number [] = 0
number (x ∷ xs) = x + 2 * number xs

-- A read gives a number, or the font ends.
pub data Read : Type 0 where
  got : ℕ → Read
  ends : Read

-- A read of b bits. It succeeds only if a bit is left after it.
abbrev pub read : ℕ → List ℕ → Read
read b s = pick (ltb b (length s)) (got (number (take b s))) ends

-- A read of b bits of a font, from the bit `at` on. A glyph's data ends with the font.
unfoldable pub read_at : List ℕ → ℕ → ℕ → Read
read_at font at b = read b (drop at (bits font))

-- The value of a signed field: b bits, biased by half of their range.
abbrev pub biased : ℕ → ℕ → ℤ
biased b n = pos n -ℤ pos (2 ^ (b - 1))
