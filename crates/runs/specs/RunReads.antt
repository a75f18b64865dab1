-- The reading of runs, pair by pair, as the code does it: each pair from the bit at which its numbers begin.
use Rattle.std.specs.Prelude.{◌≡◌, Bool, true, false, List, ℕ, ◌+◌, ◌*◌, ◌/◌, ◌%◌, ◌^◌, ◌≤◌, ◌<◌, ltb, eqb, length}
use Rattle.integers.specs.Integers.{pick}
use Rattle.definitions.specs.Bits.{Read, got, ends, read_at}
use Rattle.definitions.specs.Runs.{Pixels, pixels, cut}
use Rattle.runs.specs.declared.Runs.{Runs}

-- A pair of runs, or the font ends.
pub data RunsRead : Type 0 where
  Pair : Runs → RunsRead
  Ends : RunsRead

-- the widths of a pair's numbers
pub record Widths (m0 m1 : ℕ) : Type 0 where
  pub zeros : m0 ≤ 8
  pub ones : m1 ≤ 8

-- the numbers of a pair are bytes
pub record Short (runs : Runs) : Type 0 where
  pub zeros : runs.zeros ≤ 255
  pub ones : runs.ones ≤ 255

-- whether the font reaches to a glyph's last pixel
abbrev pub is_whole : Pixels → Bool
is_whole (pixels ps) = true
is_whole cut = false

abbrev pub unless_ends : Read → (ℕ → RunsRead) → RunsRead
unless_ends (got n) rest = rest n
unless_ends ends rest = Ends

-- what comes of a pair
abbrev pub on_pair : (Runs → Pixels) → RunsRead → Pixels
on_pair rest (Pair runs) = rest runs
on_pair rest Ends = cut

-- A zero run then a one run, their numbers being m0 and m1 bits wide.
unfoldable pub pair_at : List ℕ → ℕ → ℕ → ℕ → RunsRead
pair_at font m0 m1 at =
    unless_ends (read_at font at m0) (λ zeros.
    unless_ends (read_at font (at + m0) m1) (λ ones. Pair (record { zeros = zeros; ones = ones; bit_pos = at + m0 + m1 })))

-- The pair after a pair: a one stands for the same pair, after a zero comes another.
unfoldable pub next_pair : List ℕ → ℕ → ℕ → Runs → RunsRead
next_pair font m0 m1 runs =
    unless_ends (read_at font runs.bit_pos 1) (λ repeat.
    pick (eqb repeat 1)
    (Pair (record { zeros = runs.zeros; ones = runs.ones; bit_pos = runs.bit_pos + 1 }))
    (pair_at font m0 m1 (runs.bit_pos + 1)))

-- The pair whose numbers are the lowest bits of a number.
abbrev pub pair_of : ℕ → ℕ → ℕ → ℕ → Runs
pair_of bits m0 m1 next = record { zeros = bits % 2 ^ m0; ones = bits / 2 ^ m0 % 2 ^ m1; bit_pos = next }

-- A pair that is read with zeros past the font's end: it is one if the font has the bit after it.
abbrev pub in_font : List ℕ → Runs → RunsRead
in_font font runs = pick (ltb runs.bit_pos (8 * length font)) (Pair runs) Ends

-- The first pair of a glyph.
pub record FirstPair (font : List ℕ) (m0 m1 start : ℕ) (r : Runs) : Type 0 where
  pub read : in_font font r ≡ pair_at font m0 m1 start
  pub short : Short r

-- The pair after a pair, read further on.
pub record PairAfter (font : List ℕ) (m0 m1 : ℕ) (runs r : Runs) : Type 0 where
  pub read : in_font font r ≡ next_pair font m0 m1 runs
  pub short : Short r
  pub later : runs.bit_pos < r.bit_pos
