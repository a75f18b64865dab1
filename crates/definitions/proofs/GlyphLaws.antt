-- The fields of a glyph: a longer font gives the same, and the range of each. Assumes nothing.
use Rattle.integers.proofs.Prelude.{◌≡◌, refl, subst, List, ◌++◌, ℕ, ◌*◌, ◌≤◌, ◌<◌, length, set}
use Rattle.definitions.specs.Vocabulary.{FontReader, GlyphReader}
use Rattle.definitions.specs.Refusals.{Outcome, success}
use Rattle.integers.specs.Integers.{signed8}
use Rattle.integers.proofs.Choices.{impossible, LedOn}
use Rattle.definitions.specs.Header.{header, Opened}
use Rattle.definitions.specs.Bits.{Read, got, ends, low_bits, bits, number, read_at}
use Rattle.definitions.specs.Lookup.{Search, found, missing, short, record8, chain, search}
use Rattle.definitions.specs.Glyph.{unless_ends, fields, from_search, glyph}
use Rattle.definitions.specs.FontT.{T}
use Rattle.definitions.proofs.BitsLaws.{SignedByte, read_inside, read_longer, unsigned_range, signed_range}

-- A glyph may go on past its jump: T with the jump of "4" cut from 5 to 3.
pub past_the_jump : glyph (set T 29 3) 52 ≡ glyph T 52
unfolding T header signed8 glyph fields search record8 chain read_at bits low_bits number
past_the_jump = refl

-- a field that was read: its number, and what came of that
taken : (c : ℕ) (r : Read) (rest : ℕ → Outcome GlyphReader) (g : GlyphReader) → unless_ends c r rest ≡ success g → LedOn got r rest (success g)
taken c (got n) rest g e = record { value = n; was = refl; gives = e }
taken c ends rest g e = impossible cc

-- Where one font's field leads to a glyph, a longer font's does.
field_longer : (font more : List ℕ) (c b at : ℕ) (rest rest' : ℕ → Outcome GlyphReader) (g : GlyphReader)
    → ((n : ℕ) → rest n ≡ success g → rest' n ≡ success g)
    → unless_ends c (read_at font at b) rest ≡ success g
    → unless_ends c (read_at (font ++ more) at b) rest' ≡ success g
field_longer font more c b at rest rest' g next e =
    let t = taken c (read_at font at b) rest g e in
    rw (read_longer font more at b t.value t.was) (next t.value t.gives)

-- What callers may count on in sums.
pub record InRange (font : List ℕ) (g : GlyphReader) : Type 0 where
  pub width : g.glyph_width ≤ 255
  pub height : g.glyph_height ≤ 255
  pub x : SignedByte g.offset_x
  pub y : SignedByte g.offset_y
  pub advance : SignedByte g.advance
  pub runs : g.bit_pos < 8 * length font

same_range : {font : List ℕ} {h g : GlyphReader} → ◌≡◌ {A = Outcome GlyphReader} (success h) (success g) → InRange font h → InRange font g
same_range {font} {h} {g} e r = let same : h ≡ g = cc in subst (λ (k : GlyphReader). InRange font k) same r

module _ (font : List ℕ) (head : FontReader) (c at : ℕ) (g : GlyphReader) where
  pub fields_longer : (more : List ℕ) → fields font head c at ≡ success g → fields (font ++ more) head c at ≡ success g
  unfolding fields
  fields_longer more =
      field_longer font more c _ _ _ _ g (λ w.
      field_longer font more c _ _ _ _ g (λ h.
      field_longer font more c _ _ _ _ g (λ x.
      field_longer font more c _ _ _ _ g (λ y.
      field_longer font more c _ _ _ _ g (λ d e. e)))))

  -- The widths are within their limits, as those of an opened font are.
  pub fields_range : Opened font head → fields font head c at ≡ success g → InRange font g
  unfolding fields
  fields_range o e =
      let w = taken c _ _ g e in
      let h = taken c _ _ g w.gives in
      let x = taken c _ _ g h.gives in
      let y = taken c _ _ g x.gives in
      let d = taken c _ _ g y.gives in
      same_range d.gives
      record {
        width = unsigned_range font _ _ w.value o.w w.was;
        height = unsigned_range font _ _ h.value o.h h.was;
        x = signed_range font _ _ x.value o.x x.was;
        y = signed_range font _ _ y.value o.y y.was;
        advance = signed_range font _ _ d.value o.d d.was;
        runs = (read_inside font _ _ d.value d.was).0;
      }

-- .. and so of each glyph of an opened font.
pub glyph_range : (font : List ℕ) (head : FontReader) (c : ℕ) (g : GlyphReader) → Opened font head → glyph font c ≡ success g → InRange font g
unfolding glyph
glyph_range font head c g o e = by (search font c) e
  where
    by : (s : Search) → from_search font c s ≡ success g → InRange font g
    by (found at steps) e = fields_range font (header font) c (at * 8) g (subst (λ (h : FontReader). Opened font h) o.read o) e
    by (missing steps) e = impossible cc
    by short e = impossible cc
