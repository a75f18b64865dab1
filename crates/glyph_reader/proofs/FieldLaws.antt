-- A glyph's fields: what is left of the definition after each, what one fetch gives, and where the font ends. Assumes nothing.
use Rattle.integers.proofs.Prelude.{◌≡◌, refl, sym, ap, ◌∙◌, List, ℕ, ◌+◌, ◌*◌, ◌/◌, ◌%◌, ◌^◌, ◌≤◌, ◌<◌, add-zero, div-one, arith, ℤ, length, take, drop}
use Rattle.definitions.specs.Header.{Opened}
use Rattle.definitions.specs.Vocabulary.{FontReader, GlyphReader}
use Rattle.definitions.specs.Refusals.{Outcome, success, refused}
use Rattle.definitions.specs.Bits.{bits, number, Read, got, ends, read_at, biased}
use Rattle.definitions.specs.Glyph.{unless_ends, field, fields}
use Rattle.definitions.proofs.BitsLaws.{read_got, read_ends}
use Rattle.window.specs.Window.{window}
use Rattle.window.proofs.WindowLaws.{window_part}

abbrev pub metrics : ℕ → ℕ → ℤ → ℤ → ℤ → ℕ → GlyphReader
metrics w h x y d at = record { glyph_width = w; glyph_height = h; offset_x = x; offset_y = y; advance = d; bit_pos = at }

-- what is left after w; after h, x and y
module _ (font : List ℕ) (head : FontReader) (c : ℕ) where
  abbrev pub after_y : ℕ → ℕ → ℤ → ℤ → ℕ → Outcome GlyphReader
  after_y w h x y at = field font c head.bitcnt_d at (λ d at. success (metrics w h x y (biased head.bitcnt_d d) at))

  abbrev pub after_x : ℕ → ℕ → ℤ → ℕ → Outcome GlyphReader
  after_x w h x at = field font c head.bitcnt_y at (λ y at. after_y w h x (biased head.bitcnt_y y) at)

  abbrev pub after_h : ℕ → ℕ → ℕ → Outcome GlyphReader
  after_h w h at = field font c head.bitcnt_x at (λ x at. after_x w h (biased head.bitcnt_x x) at)

  abbrev pub after_w : ℕ → ℕ → Outcome GlyphReader
  after_w w at = field font c head.bitcnt_h at (λ h at. after_h w h at)

-- where the font ends after a field, whatever its number is
stops : (font : List ℕ) (c b at : ℕ) (rest : ℕ → ℕ → Outcome GlyphReader) → ((n : ℕ) → rest n (at + b) ≡ refused 8 c) → field font c b at rest ≡ refused 8 c
stops font c b at rest e = split (read_at font at b)
  where
    split : (r : Read) → unless_ends c r (λ n. rest n (at + b)) ≡ refused 8 c
    split (got n) = e n
    split ends = refl

module _ (font : List ℕ) (head : FontReader) (c start : ℕ) where
  abbrev w : ℕ
  w = head.bitcnt_w

  abbrev h : ℕ
  h = head.bitcnt_h

  abbrev x : ℕ
  x = head.bitcnt_x

  abbrev y : ℕ
  y = head.bitcnt_y

  abbrev d : ℕ
  d = head.bitcnt_d

  -- One test after the last field: the font ends in one of them.
  pub fields_end : 8 * length font ≤ start * 8 + (w + h + x + y + d) → fields font head c (start * 8) ≡ refused 8 c
  unfolding fields
  fields_end k =
      let at = start * 8 + w + h + x + y in
      let l : 8 * length font ≤ at + d = omega arith in
      let e = read_ends font at d l in
      stops font c w (start * 8) (after_w font head c) (λ p.
      stops font c h (start * 8 + w) (after_h font head c p) (λ q.
      stops font c x (start * 8 + w + h) (λ n at. after_x font head c p q (biased x n) at) (λ r.
      stops font c y (start * 8 + w + h + x) (λ n at. after_y font head c p q (biased x r) (biased y n) at) (λ t. rw e))))

  -- The fields by one fetch of 48 bits, which have them all.
  module _ (word : ℕ) (o : Opened font head) (inside : start * 8 + (w + h + x + y + d) < 8 * length font) (e : word % 2 ^ 48 ≡ window 48 font start) where
    -- the b bits from the bit s on
    fetched : (b s : ℕ) → s + b ≤ w + h + x + y + d → (rest : ℕ → ℕ → Outcome GlyphReader)
        → field font c b (start * 8 + s) rest ≡ rest (word / 2 ^ s % 2 ^ b) (start * 8 + (s + b))
    fetched b s k rest =
        let at : 8 * start + s ≡ start * 8 + s = omega arith in
        let end : start * 8 + s + b ≡ start * 8 + (s + b) = omega arith in
        let n = window_part 48 font start word s b e (omega (arith, o.w, o.h, o.x, o.y, o.d)) in
        let r : read_at font (start * 8 + s) b ≡ got (word / 2 ^ s % 2 ^ b) =
        read_got font (start * 8 + s) b (omega arith) ∙ ap got (ap (λ (p : ℕ). number (take b (drop p (bits font)))) (sym at) ∙ sym n) in
        rw (r, end)

    first : (rest : ℕ → ℕ → Outcome GlyphReader) → field font c w (start * 8) rest ≡ rest (word % 2 ^ w) (start * 8 + w)
    first rest = let z : 0 + w ≡ w = omega arith in simp (add-zero, div-one, z) at (fetched w 0 (omega arith) rest)

    abbrev glyph_width : ℕ
    glyph_width = word % 2 ^ w

    abbrev glyph_height : ℕ
    glyph_height = word / 2 ^ w % 2 ^ h

    abbrev offset_x : ℤ
    offset_x = biased x (word / 2 ^ (w + h) % 2 ^ x)

    abbrev offset_y : ℤ
    offset_y = biased y (word / 2 ^ (w + h + x) % 2 ^ y)

    abbrev glyph_advance : ℤ
    glyph_advance = biased d (word / 2 ^ (w + h + x + y) % 2 ^ d)

    pub fields_fetched : fields font head c (start * 8) ≡ success (metrics glyph_width glyph_height offset_x offset_y glyph_advance (start * 8 + (w + h + x + y + d)))
    unfolding fields
    fields_fetched =
        first (after_w font head c)
        ∙ fetched h w (omega arith) (after_h font head c glyph_width)
        ∙ fetched x (w + h) (omega arith) (λ n at. after_x font head c glyph_width glyph_height (biased x n) at)
        ∙ fetched y (w + h + x) (omega arith) (λ n at. after_y font head c glyph_width glyph_height offset_x (biased y n) at)
        ∙ fetched d (w + h + x + y) (omega arith) (λ n at. success (metrics glyph_width glyph_height offset_x offset_y (biased d n) at))
