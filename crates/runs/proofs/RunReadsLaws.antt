-- The reading of runs pair by pair gives the glyph's pixels. Assumes nothing.
use Rattle.integers.proofs.Prelude.{◌≡◌, refl, sym, ap, ◌∙◌, Bool, true, false, List, [], ℕ, ◌+◌, ◌-◌, ◌*◌, ◌≤◌, ◌<◌, eqb, length, drop, le-leb, lt-leb}
use Rattle.integers.proofs.Prelude.{eq-eqb, ne_eqb}
use Rattle.integers.specs.Integers.{pick}
use Rattle.definitions.specs.Vocabulary.{FontReader, GlyphReader}
use Rattle.definitions.specs.Bits.{Read, got, ends, bits, read_at}
use Rattle.definitions.specs.Runs.{Pixels, pixels, cut, prepend, unless_cut, runs, glyph_pixels, pixels_after, pixels_from}
use Rattle.definitions.proofs.RunsLaws.{pair_pixels, NewPair, runs_reads, after_reads}
use Rattle.runs.specs.declared.Runs.{Runs}
use Rattle.runs.specs.RunReads.{RunsRead, Pair, Short, is_whole, unless_ends, on_pair, in_font, pair_at, next_pair}
use Rattle.runs.proofs.PairLaws.{within, beyond}

-- what a read leads to is the same by pairs and by pixels
both : (r : Read) (f : ℕ → RunsRead) (g : ℕ → Pixels) (rest : Runs → Pixels) → ((n : ℕ) → on_pair rest (f n) ≡ g n) → on_pair rest (unless_ends r f) ≡ unless_cut r g
both (got n) f g rest e = e n
both ends f g rest e = refl

module _ (font : List ℕ) (m0 m1 : ℕ) where
  abbrev again : Runs → Runs
  again r = record { zeros = r.zeros; ones = r.ones; bit_pos = r.bit_pos + 1 }

  -- what a pair still gives, n pixels being missing
  abbrev pub given : ℕ → Runs → Pixels
  given n q = pixels_from font m0 m1 n q.zeros q.ones q.bit_pos

  new_gives : (n at : ℕ) → on_pair (given n) (pair_at font m0 m1 at) ≡ NewPair font m0 m1 n at
  unfolding pair_at
  new_gives n at = both (read_at font at m0) _ _ (given n) (λ zeros. both (read_at font (at + m0) m1) _ _ (given n) (λ ones. refl))

  -- The first pair gives the glyph's pixels.
  pub first_gives : (n at : ℕ) → runs m0 m1 n (drop at (bits font)) ≡ on_pair (given n) (pair_at font m0 m1 at)
  first_gives n at = runs_reads font m0 m1 n at ∙ sym (new_gives n at)

  -- Each next pair gives those after the pair.
  pub next_gives : (n : ℕ) (r : Runs) → pixels_after font m0 m1 n r.zeros r.ones r.bit_pos ≡ on_pair (given n) (next_pair font m0 m1 r)
  unfolding next_pair
  next_gives n r =
      after_reads font m0 m1 n r.zeros r.ones r.bit_pos
      ∙ sym (both (read_at font r.bit_pos 1) _ _ (given n) (λ repeat. split (eqb repeat 1)))
    where
      split : (t : Bool) → on_pair (given n) (pick t (Pair (again r)) (pair_at font m0 m1 (r.bit_pos + 1)))
          ≡ pick t (given n (again r)) (NewPair font m0 m1 n (r.bit_pos + 1))
      split true = refl
      split false = new_gives n (r.bit_pos + 1)

  -- What a pair that is read with zeros past the font's end gives.
  abbrev pub whole : ℕ → Runs → Bool
  whole n r = is_whole (on_pair (given n) (in_font font r))

-- Whether the font has so many pixels from a pair on is whether it has those that are missing from a later pair on.
pub record CountedTo (font : List ℕ) (m0 m1 limit n : ℕ) (first : Runs) (missing : ℕ) (runs : Runs) : Type 0 where
  pub limited : limit ≡ 8 * length font
  pub short : Short runs
  pub same : whole font m0 m1 n first ≡ whole font m0 m1 missing runs

-- So it is whether the font has the glyph's pixels that are missing from there on.
pub counted_from : {font : List ℕ} {m0 m1 limit n missing : ℕ} {first r : Runs} (at : ℕ) → CountedTo font m0 m1 limit n first missing r
    → in_font font first ≡ pair_at font m0 m1 at → is_whole (runs m0 m1 n (drop at (bits font))) ≡ whole font m0 m1 missing r
counted_from {font} {m0} {m1} {limit} {n} at c e = ap is_whole (first_gives font m0 m1 n at) ∙ rw (sym e) c.same

-- ---- whether the font has all of the runs

whole_prepend : (xs : List ℕ) (r : Pixels) → is_whole (prepend xs r) ≡ is_whole r
whole_prepend xs (pixels ps) = refl
whole_prepend xs cut = refl

module _ (font : List ℕ) (m0 m1 n : ℕ) (r : Runs) where
  -- The font ends in the pair.
  pub whole_not : 8 * length font ≤ r.bit_pos → whole font m0 m1 n r ≡ false
  whole_not h = rw (beyond font r h)

  module _ (p : r.bit_pos < 8 * length font) where
    -- The last pixel is one of the pair.
    pub whole_last : n ≤ r.zeros + r.ones → whole font m0 m1 n r ≡ true
    whole_last h = rw (within font r p) (simp (le-leb n (r.zeros + r.ones) h))

    -- The next pair has the rest.
    pub whole_next : (q : Runs) → r.zeros + r.ones < n → in_font font q ≡ next_pair font m0 m1 r → whole font m0 m1 n r ≡ whole font m0 m1 (n - (r.zeros + r.ones)) q
    whole_next q h e =
        rw (within font r p, e)
        (simp (lt-leb n (r.zeros + r.ones) h, next_gives font m0 m1 (n - (r.zeros + r.ones)) r)
        (whole_prepend (pair_pixels r.zeros r.ones) (on_pair (given font m0 m1 (n - (r.zeros + r.ones))) (next_pair font m0 m1 r))))

module _ (font : List ℕ) (head : FontReader) (g : GlyphReader) where
  abbrev count : ℕ
  count = g.glyph_width * g.glyph_height

  pub no_pixels : count ≡ 0 → glyph_pixels font head g ≡ pixels []
  unfolding glyph_pixels
  no_pixels e = simp (eq-eqb count 0 e)

  pub some_pixels : (count ≡ 0 → ⊥) → glyph_pixels font head g ≡ runs head.m0 head.m1 count (drop g.bit_pos (bits font))
  unfolding glyph_pixels
  some_pixels h = simp (ne_eqb count 0 h)
