-- A part of a row filled: one pixel of each of its bytes takes the value.
use Rattle.std.specs.Prelude.{◌≡◌, List, ℕ, ◌+◌, ◌≤◌, ◌<◌, eqb, length, get_or}
use Rattle.integers.specs.Integers.{pick}
use Rattle.definitions.specs.Vocabulary.{PixelFormat}
use Rattle.definitions.specs.Picture.{Paint, keep, put}
use Rattle.definitions.specs.Framebuffer.{paint_byte}

-- only the k-th pixel of a byte is painted
abbrev pub only : ℕ → Paint → ℕ → Paint
only k paint j = pick (eqb j k) paint keep

-- The part, which begins at the column `first`, has the value in the columns from `from` to before `to`, and is else as before.
pub record Filled (format : PixelFormat) (pixel first from to value : ℕ) (before after : List ℕ) : Type 0 where
  pub long : length after ≡ length before
  pub inside : (i : ℕ) → i < length before → from ≤ first + i → first + i < to
      → get_or after i 0 ≡ paint_byte format (only pixel (put value)) (get_or before i 0)
  pub outside : (i : ℕ) → (from ≤ first + i → first + i < to → ⊥) → get_or after i 0 ≡ get_or before i 0

-- Every byte of the part has it.
pub record AllFilled (format : PixelFormat) (pixel value : ℕ) (before after : List ℕ) : Type 0 where
  pub long : length after ≡ length before
  pub all : (i : ℕ) → i < length before → get_or after i 0 ≡ paint_byte format (only pixel (put value)) (get_or before i 0)
