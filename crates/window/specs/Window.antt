-- A window of some bits of a font.
use Rattle.std.specs.Prelude.{List, ℕ, ◌*◌, take, drop}
use Rattle.definitions.specs.Bits.{bits, number}

-- The number of the n bits from the byte i on. Bits past the font's end count as 0.
unfoldable pub window : ℕ → List ℕ → ℕ → ℕ
window n font i = number (take n (drop (8 * i) (bits font)))
