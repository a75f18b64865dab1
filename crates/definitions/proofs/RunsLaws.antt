-- A glyph's pixels: a longer font gives the same, how many there are and which values they have, and how they follow from
-- the place of a reader that has a pair and the bit after it. Assumes nothing.
use Rattle.integers.proofs.Prelude.{◌≡◌, refl, sym, ap, subst, ◌∙◌, Bool, true, false, List, [], ◌∷◌, ◌++◌, ℕ, zero, suc, ◌+◌, ◌-◌, ◌*◌, ◌≤◌, ◌<◌}
use Rattle.integers.proofs.Prelude.{dec_lt, arith, ltb, leb, eqb, length, take, drop, get_or, replicate, length-append, length-drop, length-replicate}
use Rattle.integers.proofs.Prelude.{get_or-replicate, list_get_or_append, take-append-le, drop-append-le, length-take-le, drop-drop, drop_at}
use Rattle.integers.proofs.Prelude.{get_or-append-add, get_or-take, ltb-true, leb-true, leb-false, eqb-true, lt-ltb, le-ltb, lt-leb}
use Rattle.integers.specs.Integers.{pick}
use Rattle.integers.proofs.Choices.{impossible, LedOn}
use Rattle.definitions.specs.Vocabulary.{FontReader, GlyphReader}
use Rattle.definitions.specs.Bits.{Read, got, ends, bits, number, read, read_at}
use Rattle.definitions.specs.Runs.{Pixels, pixels, cut, prepend, unless_cut, read_pair, pair, after_pair, runs, glyph_pixels, pixels_after, pixels_from}
use Rattle.definitions.proofs.BitsLaws.{bits_append}

-- Runs of one bit each: no zero and a one, then 1 repeats them, then 0 brings a zero and no one.
pub one_repeats : runs 1 1 3 (0 ∷ 1 ∷ 1 ∷ 0 ∷ 1 ∷ 0 ∷ 0 ∷ []) ≡ pixels (1 ∷ 1 ∷ 0 ∷ [])
unfolding runs after_pair number
one_repeats = refl

-- ---- what leads to pixels

abbrev pub pair_pixels : ℕ → ℕ → List ℕ
pair_pixels zeros ones = replicate zeros 0 ++ replicate ones 1

-- a number that was read, and what came of it
taken : (r : Read) (rest : ℕ → Pixels) (ps : List ℕ) → unless_cut r rest ≡ pixels ps → LedOn got r rest (pixels ps)
taken (got n) rest ps e = record { value = n; was = refl; gives = e }
taken ends rest ps e = impossible cc

-- what stands after a pair's pixels
prepended : (xs : List ℕ) (r : Pixels) (ps : List ℕ) → prepend xs r ≡ pixels ps → LedOn pixels r (λ qs. xs ++ qs) ps
prepended xs (pixels qs) ps e = record { value = qs; was = refl; gives = cc }
prepended xs cut ps e = impossible cc

-- ---- a longer font

-- Where one walk over the rest gives pixels, another does.
Same : (r r' : ℕ → Pixels) → Type 0
Same r r' = (n : ℕ) (ps : List ℕ) → r n ≡ pixels ps → r' n ≡ pixels ps

pair_same : (n zeros ones : ℕ) (r r' : ℕ → Pixels) → Same r r' → (ps : List ℕ) → pair n zeros ones r ≡ pixels ps → pair n zeros ones r' ≡ pixels ps
unfolding Same
pair_same n zeros ones r r' same ps = split (leb n (zeros + ones))
  where
    split : (t : Bool)
        → pick t (pixels (take n (pair_pixels zeros ones))) (prepend (pair_pixels zeros ones) (r (n - (zeros + ones)))) ≡ pixels ps
        → pick t (pixels (take n (pair_pixels zeros ones))) (prepend (pair_pixels zeros ones) (r' (n - (zeros + ones)))) ≡ pixels ps
    split true e = e
    split false e =
        let q = prepended (pair_pixels zeros ones) (r (n - (zeros + ones))) ps e in
        rw (same (n - (zeros + ones)) q.value q.was) (ap pixels q.gives)

picked : (t : Bool) (m n : ℕ) → pick t (got m) ends ≡ got n → (t ≡ true) × (m ≡ n)
picked true m n e = (refl, cc)
picked false m n e = impossible cc

-- A read that gives a number lies within the bits, and with more bits gives the same.
read_longer : (b : ℕ) (s t : List ℕ) (n : ℕ) → read b s ≡ got n → (b < length s) × (read b (s ++ t) ≡ got n)
read_longer b s t n e =
    let p = picked (ltb b (length s)) (number (take b s)) n e in
    let h = ltb-true b (length s) p.0 in
    let k : b ≤ length s = omega arith in
    let l : b < length (s ++ t) = omega (arith, length-append s t) in
    (h, rw (lt-ltb b (length (s ++ t)) l, take-append-le b s t k) (ap got p.1))

-- Where one font's read leads to pixels, a longer font's does.
unless_longer : (b : ℕ) (s t : List ℕ) (r r' : ℕ → Pixels) (ps : List ℕ)
    → ((n : ℕ) → b < length s → r n ≡ pixels ps → r' n ≡ pixels ps)
    → unless_cut (read b s) r ≡ pixels ps
    → unless_cut (read b (s ++ t)) r' ≡ pixels ps
unless_longer b s t r r' ps next e =
    let q = taken (read b s) r ps e in
    let l = read_longer b s t q.value q.was in
    rw l.1 (next q.value l.0 q.gives)

pair_longer : (m0 m1 : ℕ) (s t : List ℕ) (r r' : ℕ → ℕ → Pixels) (ps : List ℕ)
    → ((zeros ones : ℕ) → r zeros ones ≡ pixels ps → r' zeros ones ≡ pixels ps)
    → read_pair m0 m1 s r ≡ pixels ps
    → read_pair m0 m1 (s ++ t) r' ≡ pixels ps
pair_longer m0 m1 s t r r' ps next =
    unless_longer m0 s t _ _ ps (λ zeros h e.
    let k : m0 ≤ length s = omega arith in
    rw (drop-append-le m0 s t k) (unless_longer m1 (drop m0 s) t (r zeros) (r' zeros) ps (λ ones g. next zeros ones) e))

-- after the repeat bit
repeat_longer : (m0 m1 zeros ones : ℕ) (s t : List ℕ)
    → ((zeros ones skip : ℕ) → Same (λ n. after_pair m0 m1 n zeros ones skip s) (λ n. after_pair m0 m1 n zeros ones skip (s ++ t)))
    → (n : ℕ) (ps : List ℕ) (u : Bool)
    → pick u
    (pair n zeros ones (λ n. after_pair m0 m1 n zeros ones 0 s))
    (read_pair m0 m1 s (λ zeros ones. pair n zeros ones (λ n. after_pair m0 m1 n zeros ones (m0 + m1) s))) ≡ pixels ps
    → pick u
    (pair n zeros ones (λ n. after_pair m0 m1 n zeros ones 0 (s ++ t)))
    (read_pair m0 m1 (s ++ t) (λ zeros ones. pair n zeros ones (λ n. after_pair m0 m1 n zeros ones (m0 + m1) (s ++ t)))) ≡ pixels ps
repeat_longer m0 m1 zeros ones s t same n ps true = pair_same n zeros ones _ _ (same zeros ones 0) ps
repeat_longer m0 m1 zeros ones s t same n ps false =
    pair_longer m0 m1 s t _ _ ps (λ zeros ones. pair_same n zeros ones _ _ (same zeros ones (m0 + m1)) ps)

after_longer : (m0 m1 : ℕ) (s t : List ℕ) (zeros ones skip : ℕ)
    → Same (λ n. after_pair m0 m1 n zeros ones skip s) (λ n. after_pair m0 m1 n zeros ones skip (s ++ t))
unfolding Same after_pair
after_longer m0 m1 [] t zeros ones skip n ps e = impossible cc
after_longer m0 m1 (b ∷ s) t zeros ones (suc skip) n ps e = after_longer m0 m1 s t zeros ones skip n ps e
after_longer m0 m1 (b ∷ s) t zeros ones zero n ps e =
    unless_longer 1 (b ∷ s) t _ _ ps (λ repeat h. repeat_longer m0 m1 zeros ones s t (λ zeros ones skip. after_longer m0 m1 s t zeros ones skip) n ps (eqb repeat 1)) e

runs_longer : (m0 m1 n : ℕ) (s t ps : List ℕ) → runs m0 m1 n s ≡ pixels ps → runs m0 m1 n (s ++ t) ≡ pixels ps
unfolding runs
runs_longer m0 m1 n s t ps =
    pair_longer m0 m1 s t _ _ ps (λ zeros ones. pair_same n zeros ones _ _ (after_longer m0 m1 s t zeros ones (m0 + m1)) ps)

-- no pixel comes of no bits
runs_some : (m0 m1 n : ℕ) (s ps : List ℕ) → runs m0 m1 n s ≡ pixels ps → 0 < length s
unfolding runs
runs_some m0 m1 n s ps e =
    let q = taken (read m0 s) _ ps e in
    omega (arith, (read_longer m0 s [] q.value q.was).0)

abbrev count : GlyphReader → ℕ
count g = g.glyph_width * g.glyph_height

module _ (font : List ℕ) (head : FontReader) (g : GlyphReader) (ps : List ℕ) where
  -- A longer font gives the same pixels.
  pub glyph_pixels_longer : (more : List ℕ) → glyph_pixels font head g ≡ pixels ps → glyph_pixels (font ++ more) head g ≡ pixels ps
  unfolding glyph_pixels
  glyph_pixels_longer more = split (eqb (count g) 0)
    where
      split : (t : Bool)
          → pick t (pixels []) (runs head.m0 head.m1 (count g) (drop g.bit_pos (bits font))) ≡ pixels ps
          → pick t (pixels []) (runs head.m0 head.m1 (count g) (drop g.bit_pos (bits (font ++ more)))) ≡ pixels ps
      split true e = e
      split false e =
          let h = runs_some head.m0 head.m1 (count g) (drop g.bit_pos (bits font)) ps e in
          let k : g.bit_pos ≤ length (bits font) = omega (arith, length-drop g.bit_pos (bits font)) in
          rw (bits_append font more, drop-append-le g.bit_pos (bits font) (bits more) k)
          (runs_longer head.m0 head.m1 (count g) (drop g.bit_pos (bits font)) (bits more) ps e)

-- ---- what holds of all pixels that come of pairs

pub length_pair : (zeros ones : ℕ) → length (pair_pixels zeros ones) ≡ zeros + ones
length_pair zeros ones = simp (length-append, length-replicate)

pub pair_at : (zeros ones j : ℕ) → j < zeros + ones → get_or (pair_pixels zeros ones) j 0 ≡ pick (ltb j zeros) 0 1
pair_at zeros ones j h = split (dec_lt j zeros)
  where
    split : Dec (j < zeros) → get_or (pair_pixels zeros ones) j 0 ≡ pick (ltb j zeros) 0 1
    split (yes p) =
        list_get_or_append (replicate zeros 0) (replicate ones 1) 0 j (omega (arith, length-replicate {A = ℕ} zeros 0))
        ∙ get_or-replicate zeros j 0 0 p
        ∙ simp (lt-ltb j zeros p)
    split (no p) =
        let e : length {A = ℕ} (replicate zeros 0) + (j - zeros) ≡ j = omega (arith, length-replicate {A = ℕ} zeros 0) in
        ap (λ (i : ℕ). get_or (pair_pixels zeros ones) i 0) (sym e)
        ∙ get_or-append-add (replicate zeros 0) (replicate ones 1) (j - zeros) 0
        ∙ get_or-replicate ones (j - zeros) 1 0 (omega arith)
        ∙ simp (le-ltb j zeros (omega arith))

-- P of n pixels, where the end of a pair and a pair before others have it.
module _
    (P : ℕ → List ℕ → Type 0)
    (last : (n zeros ones : ℕ) → n ≤ zeros + ones → P n (take n (pair_pixels zeros ones)))
    (more : (n zeros ones : ℕ) (ps : List ℕ) → zeros + ones < n → P (n - (zeros + ones)) ps → P n (pair_pixels zeros ones ++ ps)) where
  pair_all : (n zeros ones : ℕ) (r : ℕ → Pixels) → ((n : ℕ) (ps : List ℕ) → r n ≡ pixels ps → P n ps) → (ps : List ℕ) → pair n zeros ones r ≡ pixels ps → P n ps
  pair_all n zeros ones r all ps = split (leb n (zeros + ones)) refl
    where
      split : (t : Bool) → leb n (zeros + ones) ≡ t
          → pick t (pixels (take n (pair_pixels zeros ones))) (prepend (pair_pixels zeros ones) (r (n - (zeros + ones)))) ≡ pixels ps
          → P n ps
      split true h e = let q : take n (pair_pixels zeros ones) ≡ ps = cc in subst (P n) q (last n zeros ones (leb-true n (zeros + ones) h))
      split false h e =
          let q = prepended (pair_pixels zeros ones) (r (n - (zeros + ones))) ps e in
          subst (P n) q.gives (more n zeros ones q.value (leb-false n (zeros + ones) h) (all (n - (zeros + ones)) q.value q.was))

  read_all : (m0 m1 : ℕ) (s : List ℕ) (n : ℕ) (r : ℕ → ℕ → ℕ → Pixels) → ((zeros ones n : ℕ) (ps : List ℕ) → r zeros ones n ≡ pixels ps → P n ps)
      → (ps : List ℕ) → read_pair m0 m1 s (λ zeros ones. pair n zeros ones (r zeros ones)) ≡ pixels ps → P n ps
  read_all m0 m1 s n r all ps e =
      let z = taken (read m0 s) _ ps e in
      let o = taken (read m1 (drop m0 s)) _ ps z.gives in
      pair_all n z.value o.value (r z.value o.value) (all z.value o.value) ps o.gives

  repeat_all : (m0 m1 n zeros ones : ℕ) (s : List ℕ)
      → ((zeros ones skip n : ℕ) (ps : List ℕ) → after_pair m0 m1 n zeros ones skip s ≡ pixels ps → P n ps)
      → (ps : List ℕ) (u : Bool)
      → pick u (pair n zeros ones (λ n. after_pair m0 m1 n zeros ones 0 s)) (read_pair m0 m1 s (λ zeros ones. pair n zeros ones (λ n. after_pair m0 m1 n zeros ones (m0 + m1) s))) ≡ pixels ps
      → P n ps
  repeat_all m0 m1 n zeros ones s all ps true = pair_all n zeros ones _ (all zeros ones 0) ps
  repeat_all m0 m1 n zeros ones s all ps false = read_all m0 m1 s n _ (λ zeros ones. all zeros ones (m0 + m1)) ps

  after_all : (m0 m1 : ℕ) (s : List ℕ) (zeros ones skip n : ℕ) (ps : List ℕ) → after_pair m0 m1 n zeros ones skip s ≡ pixels ps → P n ps
  unfolding after_pair
  after_all m0 m1 [] zeros ones skip n ps e = impossible cc
  after_all m0 m1 (b ∷ s) zeros ones (suc skip) n ps e = after_all m0 m1 s zeros ones skip n ps e
  after_all m0 m1 (b ∷ s) zeros ones zero n ps e =
      let q = taken (read 1 (b ∷ s)) _ ps e in
      repeat_all m0 m1 n zeros ones s (λ zeros ones skip. after_all m0 m1 s zeros ones skip) ps (eqb q.value 1) q.gives

  glyph_all : (font : List ℕ) (head : FontReader) (g : GlyphReader) (ps : List ℕ) → glyph_pixels font head g ≡ pixels ps → P (count g) ps
  unfolding glyph_pixels runs
  glyph_all font head g ps = split (eqb (count g) 0) refl
    where
      s : List ℕ
      s = drop g.bit_pos (bits font)

      split : (t : Bool) → eqb (count g) 0 ≡ t → pick t (pixels []) (runs head.m0 head.m1 (count g) (drop g.bit_pos (bits font))) ≡ pixels ps → P (count g) ps
      split true h e = let q : [] ≡ ps = cc in rw (eqb-true (count g) 0 h) (subst (P 0) q (last 0 0 0 (omega arith)))
      split false h e = read_all head.m0 head.m1 s (count g) _ (λ zeros ones. after_all head.m0 head.m1 s zeros ones (head.m0 + head.m1)) ps e

-- There are w × h pixels.
pub glyph_pixels_length : (font : List ℕ) (head : FontReader) (g : GlyphReader) (ps : List ℕ) → glyph_pixels font head g ≡ pixels ps
    → length ps ≡ g.glyph_width * g.glyph_height
glyph_pixels_length =
    glyph_all
    (λ n ps. length ps ≡ n)
    (λ n zeros ones h. length-take-le n (pair_pixels zeros ones) (omega (arith, length_pair zeros ones)))
    (λ n zeros ones ps h e. omega (arith, length-append (pair_pixels zeros ones) ps, length_pair zeros ones))

-- ---- a pixel is 0 or 1

abbrev Bits : List ℕ → Type 0
Bits ps = (i : ℕ) → get_or ps i 0 ≤ 1

bits_replicate : (n b : ℕ) → b ≤ 1 → Bits (replicate n b)
bits_replicate zero b h i = omega arith
bits_replicate (suc n) b h zero = h
bits_replicate (suc n) b h (suc i) = bits_replicate n b h i

bits_both : (ps qs : List ℕ) → Bits ps → Bits qs → Bits (ps ++ qs)
bits_both [] qs p q i = q i
bits_both (x ∷ ps) qs p q zero = p 0
bits_both (x ∷ ps) qs p q (suc i) = bits_both ps qs (λ j. p (suc j)) q i

bits_take : (n : ℕ) (ps : List ℕ) → Bits ps → Bits (take n ps)
bits_take zero ps p i = omega arith
bits_take (suc n) [] p i = omega arith
bits_take (suc n) (x ∷ ps) p zero = p 0
bits_take (suc n) (x ∷ ps) p (suc i) = bits_take n ps (λ j. p (suc j)) i

bits_pair : (zeros ones : ℕ) → Bits (pair_pixels zeros ones)
bits_pair zeros ones = bits_both (replicate zeros 0) (replicate ones 1) (bits_replicate zeros 0 (omega arith)) (bits_replicate ones 1 (omega arith))

pub glyph_pixels_bits : (font : List ℕ) (head : FontReader) (g : GlyphReader) (ps : List ℕ) → glyph_pixels font head g ≡ pixels ps → (i : ℕ) → get_or ps i 0 ≤ 1
glyph_pixels_bits =
    glyph_all
    (λ n ps. Bits ps)
    (λ n zeros ones h. bits_take n (pair_pixels zeros ones) (bits_pair zeros ones))
    (λ n zeros ones ps h q. bits_both (pair_pixels zeros ones) ps (bits_pair zeros ones) q)

-- ---- from the place of a reader

-- Bits that are passed over are dropped.
pub after_skip : (m0 m1 n zeros ones skip : ℕ) (s : List ℕ) → after_pair m0 m1 n zeros ones skip s ≡ after_pair m0 m1 n zeros ones 0 (drop skip s)
unfolding after_pair
after_skip m0 m1 n zeros ones zero s = refl
after_skip m0 m1 n zeros ones (suc skip) [] = refl
after_skip m0 m1 n zeros ones (suc skip) (b ∷ s) = after_skip m0 m1 n zeros ones skip s

module _ (font : List ℕ) (m0 m1 : ℕ) where
  -- the bits after those at a place
  later : (at k : ℕ) → drop k (drop at (bits font)) ≡ drop (at + k) (bits font)
  later at k = drop-drop k at (bits font)

  passed : (at n zeros ones : ℕ) → after_pair m0 m1 n zeros ones (m0 + m1) (drop at (bits font)) ≡ pixels_after font m0 m1 n zeros ones (at + m0 + m1)
  passed at n zeros ones =
      let e : at + (m0 + m1) ≡ at + m0 + m1 = omega arith in
      after_skip m0 m1 n zeros ones (m0 + m1) (drop at (bits font)) ∙ rw (later at (m0 + m1), e)

  -- A pair that is read at `at`, and what follows it.
  from_pair : (n at : ℕ)
      → read_pair m0 m1 (drop at (bits font)) (λ zeros ones. pair n zeros ones (λ n. after_pair m0 m1 n zeros ones (m0 + m1) (drop at (bits font))))
      ≡ unless_cut (read_at font at m0) (λ zeros. unless_cut (read_at font (at + m0) m1) (λ ones. pixels_from font m0 m1 n zeros ones (at + m0 + m1)))
  unfolding read_at
  from_pair n at =
      simp (passed at, later at m0)

  -- What a new pair at `at` leads to, n pixels being missing.
  abbrev pub NewPair : ℕ → ℕ → Pixels
  NewPair n at = unless_cut (read_at font at m0) (λ zeros. unless_cut (read_at font (at + m0) m1) (λ ones. pixels_from font m0 m1 n zeros ones (at + m0 + m1)))

  -- The first pair.
  pub runs_reads : (n at : ℕ) → runs m0 m1 n (drop at (bits font)) ≡ NewPair n at
  unfolding runs
  runs_reads n at = from_pair n at

  -- While pixels are missing: the repeat bit, and perhaps a new pair.
  pub after_reads : (n zeros ones at : ℕ)
      → pixels_after font m0 m1 n zeros ones at
      ≡ unless_cut (read_at font at 1) (λ repeat. pick (eqb repeat 1) (pixels_from font m0 m1 n zeros ones (at + 1)) (NewPair n (at + 1)))
  unfolding read_at after_pair
  after_reads n zeros ones at = split (drop at (bits font)) (later at 1) (from_pair n (at + 1))
    where
      split : (s : List ℕ) → drop 1 s ≡ drop (at + 1) (bits font)
          → read_pair m0 m1 (drop (at + 1) (bits font)) (λ zeros ones. pair n zeros ones (λ n. after_pair m0 m1 n zeros ones (m0 + m1) (drop (at + 1) (bits font)))) ≡ NewPair n (at + 1)
          → after_pair m0 m1 n zeros ones 0 s ≡ unless_cut (read 1 s) (λ repeat. pick (eqb repeat 1) (pixels_from font m0 m1 n zeros ones (at + 1)) (NewPair n (at + 1)))
      split [] e new = refl
      split (b ∷ s) e new = simp (e, new)

-- What a reader with a pair still gives, where it gives pixels.
module _ (font : List ℕ) (m0 m1 n zeros ones at : ℕ) (ps : List ℕ) where
  -- A pixel of the pair.
  pub pixel_in_pair : (j : ℕ) → j < zeros + ones → j < n → pixels_from font m0 m1 n zeros ones at ≡ pixels ps → get_or ps j 0 ≡ pick (ltb j zeros) 0 1
  pixel_in_pair j h k = split (leb n (zeros + ones))
    where
      split : (t : Bool)
          → pick t (pixels (take n (pair_pixels zeros ones))) (prepend (pair_pixels zeros ones) (pixels_after font m0 m1 (n - (zeros + ones)) zeros ones at)) ≡ pixels ps
          → get_or ps j 0 ≡ pick (ltb j zeros) 0 1
      split true e =
          let q : ps ≡ take n (pair_pixels zeros ones) = cc in
          rw (q, get_or-take n (pair_pixels zeros ones) j 0 k) (pair_at zeros ones j h)
      split false e =
          let q = prepended (pair_pixels zeros ones) (pixels_after font m0 m1 (n - (zeros + ones)) zeros ones at) ps e in
          let l : j < length (pair_pixels zeros ones) = omega (arith, length_pair zeros ones) in
          rw (← q.gives, list_get_or_append (pair_pixels zeros ones) q.value 0 j l) (pair_at zeros ones j h)

  -- Those after the pair.
  pub pixels_after_pair : zeros + ones < n → pixels_from font m0 m1 n zeros ones at ≡ pixels ps
      → pixels_after font m0 m1 (n - (zeros + ones)) zeros ones at ≡ pixels (drop (zeros + ones) ps)
  pixels_after_pair h e =
      let q = prepended (pair_pixels zeros ones) (pixels_after font m0 m1 (n - (zeros + ones)) zeros ones at) ps (simp (lt-leb n (zeros + ones) h) at e) in
      q.was ∙ ap pixels (sym (drop_at (pair_pixels zeros ones) q.value (zeros + ones) (length_pair zeros ones)) ∙ ap (drop (zeros + ones)) q.gives)
