-- SPECIFICATION, Runs: a glyph's pixels, row by row from the top left, from its runs.
--
-- The walk goes over the bits after a pair, `skip` of which are passed over first. So it ends with the bits, and no other
-- bound decides an answer.
use Rattle.std.specs.Prelude.{List, [], ◌∷◌, ◌++◌, ℕ, zero, suc, ◌+◌, ◌-◌, ◌*◌, leb, eqb, take, drop, replicate}
use Rattle.integers.specs.Integers.{pick}
use Rattle.definitions.specs.Vocabulary.{FontReader, GlyphReader}
use Rattle.definitions.specs.Bits.{Read, got, ends, bits, read}

-- 1 for each pixel that is set and 0 for each that is not; or the font ends before the last.
pub data Pixels : Type 0 where
  pixels : List ℕ → Pixels
  cut : Pixels

abbrev pub prepend : List ℕ → Pixels → Pixels
prepend xs (pixels ys) = pixels (xs ++ ys)
prepend xs cut = cut

abbrev pub unless_cut : Read → (ℕ → Pixels) → Pixels
unless_cut (got n) rest = rest n
unless_cut ends rest = cut

-- A pair: how many zeros, then how many ones. Both numbers come before any pixel.
abbrev pub read_pair : ℕ → ℕ → List ℕ → (ℕ → ℕ → Pixels) → Pixels
read_pair m0 m1 s rest = unless_cut (read m0 s) (λ zeros. unless_cut (read m1 (drop m0 s)) (λ ones. rest zeros ones))

-- The pixels of a pair, n being missing: of a longer pair only the first n count. What is still missing after it is `rest`.
abbrev pub pair : ℕ → ℕ → ℕ → (ℕ → Pixels) → Pixels
pair n zeros ones rest =
    pick (leb n (zeros + ones))
    (pixels (take n (replicate zeros 0 ++ replicate ones 1)))
    (prepend (replicate zeros 0 ++ replicate ones 1) (rest (n - (zeros + ones))))

-- As long as n pixels are missing a bit is read: a one stands for the same pair, after a zero comes another.
unfoldable pub after_pair : ℕ → ℕ → ℕ → ℕ → ℕ → ℕ → List ℕ → Pixels
after_pair m0 m1 n blanks ones skip [] = cut
after_pair m0 m1 n blanks ones (suc skip) (b ∷ s) = after_pair m0 m1 n blanks ones skip s
after_pair m0 m1 n blanks ones zero (b ∷ s) =
    unless_cut (read 1 (b ∷ s)) (λ repeat.
    pick (eqb repeat 1)
    (pair n blanks ones (λ n. after_pair m0 m1 n blanks ones 0 s))
    (read_pair m0 m1 s (λ zeros ones. pair n zeros ones (λ n. after_pair m0 m1 n zeros ones (m0 + m1) s))))

-- n pixels from the first pair on, m0 and m1 being the widths of the runs.
unfoldable pub runs : ℕ → ℕ → ℕ → List ℕ → Pixels
runs m0 m1 n s = read_pair m0 m1 s (λ zeros ones. pair n zeros ones (λ n. after_pair m0 m1 n zeros ones (m0 + m1) s))

-- A glyph's pixels. Without width or height none of its runs is read.
unfoldable pub glyph_pixels : List ℕ → FontReader → GlyphReader → Pixels
glyph_pixels font head g =
    pick (eqb (g.glyph_width * g.glyph_height) 0)
    (pixels [])
    (runs head.m0 head.m1 (g.glyph_width * g.glyph_height) (drop g.bit_pos (bits font)))

-- What the bits of a font after a pair give, n pixels being missing and the bit `at` being the first after the pair.
abbrev pub pixels_after : List ℕ → ℕ → ℕ → ℕ → ℕ → ℕ → ℕ → Pixels
pixels_after font m0 m1 n zeros ones at = after_pair m0 m1 n zeros ones 0 (drop at (bits font))

-- The same with the pair itself: what a reader of runs still has to give.
abbrev pub pixels_from : List ℕ → ℕ → ℕ → ℕ → ℕ → ℕ → ℕ → Pixels
pixels_from font m0 m1 n zeros ones at = pair n zeros ones (λ n. pixels_after font m0 m1 n zeros ones at)
