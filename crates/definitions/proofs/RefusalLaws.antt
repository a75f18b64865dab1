-- Laws of a call's causes: a call that succeeds has none that applies, where none applies the call comes to what is left, and
-- where one does the framebuffer is left as it was. Assumes nothing.
use Rattle.integers.proofs.Prelude.{◌≡◌, refl, Bool, true, false, ◌||◌, List, [], ◌∷◌, ◌++◌, ℕ, ℤ, pos, take, set}
use Rattle.integers.specs.Integers.{signed8}
use Rattle.integers.proofs.Choices.{LedOn, impossible}
use Rattle.definitions.specs.Vocabulary.{Framebuffer, Bytes, Packed, RenderedDimensions, FontColor, Transparent, WithBackground}
use Rattle.types.specs.declared.style.VerticalPosition.TheVariants.{Baseline}
use Rattle.definitions.specs.Refusals.{Outcome, success, refused, and_then, Cause, unless_refused, any_applies}
use Rattle.definitions.specs.Header.{header, header_off}
use Rattle.definitions.specs.Bits.{low_bits, bits, number, read_at}
use Rattle.definitions.specs.Lookup.{record8, chain, search}
use Rattle.definitions.specs.Glyph.{fields, glyph}
use Rattle.definitions.specs.Utf8.{table, row_of, first_character, decode_from, newlines}
use Rattle.definitions.specs.Text.{point, join_all, letters, lines, line_by_line}
use Rattle.definitions.specs.Framebuffer.{sized}
use Rattle.definitions.specs.Calls.{Request, placed, plain, measure, draw_causes, draw, draw_buffer}
use Rattle.definitions.specs.Font.{Font, u8g2}
use Rattle.definitions.specs.FontT.{T}

-- both parts of a disjunction that is false
pub or_false : (s t : Bool) → (s || t) ≡ false → (s ≡ false) × (t ≡ false)
or_false true t e = impossible cc
or_false false t e = (refl, e)

-- what went before a success
pub went_on : {A B : Type 0} (o : Outcome A) (rest : A → Outcome B) (b : B) → and_then o rest ≡ success b → LedOn success o rest (success b)
went_on (success a) rest b e = record { value = a; was = refl; gives = e }
went_on (refused n c) rest b e = impossible cc

module _ {A : Type 0} (rest : Outcome A) where
  pub none_applies : (cs : List Cause) → any_applies cs ≡ false → unless_refused cs rest ≡ rest
  none_applies [] e = refl
  none_applies (c ∷ cs) e = let h = or_false c.applies (any_applies cs) e in rw h.0 (none_applies cs h.1)

  pub succeeded : (a : A) (cs : List Cause) → unless_refused cs rest ≡ success a → (any_applies cs ≡ false) × (rest ≡ success a)
  succeeded a [] e = (refl, e)
  succeeded a (c ∷ cs) e = by c.applies refl (succeeded a cs)
    where
      by : (t : Bool) → c.applies ≡ t → (unless_refused cs rest ≡ success a → (any_applies cs ≡ false) × (rest ≡ success a))
          → (any_applies (c ∷ cs) ≡ false) × (rest ≡ success a)
      by true k next = impossible (cc (rw k at e))
      by false k next = let h = next (rw k at e) in (rw k h.0, h.1)

  -- causes none of which applies, tested before others
  pub passed : (cs ds : List Cause) → any_applies cs ≡ false → unless_refused (cs ++ ds) rest ≡ unless_refused ds rest
  passed [] ds e = refl
  passed (c ∷ cs) ds e = let h = or_false c.applies (any_applies cs) e in rw h.0 (passed cs ds h.1)

-- Causes that refuse one call refuse any.
pub stopped : {A B : Type 0} (a : A) (rest : Outcome B) (cs : List Cause) {n m : ℕ} → unless_refused cs (success a) ≡ refused n m
    → (any_applies cs ≡ true) × (unless_refused cs rest ≡ refused n m)
stopped a rest [] e = impossible cc
stopped a rest (c ∷ cs) {n} {m} e = by c.applies refl (stopped a rest cs)
  where
    by : (t : Bool) → c.applies ≡ t → (unless_refused cs (success a) ≡ refused n m → (any_applies cs ≡ true) × (unless_refused cs rest ≡ refused n m))
        → (any_applies (c ∷ cs) ≡ true) × (unless_refused (c ∷ cs) rest ≡ refused n m)
    by true k next = let h = rw k at e in (rw k refl, rw k cc)
    by false k next = let h = next (rw k at e) in (rw k h.0, rw k h.1)

-- both parts of a list of causes
pub any_parts : (cs ds : List Cause) → any_applies (cs ++ ds) ≡ false → (any_applies cs ≡ false) × (any_applies ds ≡ false)
any_parts [] ds e = (refl, e)
any_parts (c ∷ cs) ds e =
    let h = or_false c.applies (any_applies (cs ++ ds)) e in
    let k = any_parts cs ds h.1 in
    (rw h.0 k.0, k.1)

pub parts_any : (cs ds : List Cause) → any_applies cs ≡ false → any_applies ds ≡ false → any_applies (cs ++ ds) ≡ false
parts_any [] ds e k = k
parts_any (c ∷ cs) ds e k = let h = or_false c.applies (any_applies cs) e in rw h.0 (parts_any cs ds h.1 k)

-- the same, cause by cause
abbrev pub NoneApplies : List Cause → Type 0
NoneApplies [] = Unit {0}
NoneApplies (c ∷ cs) = (c.applies ≡ false) × NoneApplies cs

pub each_off : (cs : List Cause) → any_applies cs ≡ false → NoneApplies cs
each_off [] e = tt
each_off (c ∷ cs) e = let h = or_false c.applies (any_applies cs) e in (h.0, each_off cs h.1)

pub all_off : (cs : List Cause) → NoneApplies cs → any_applies cs ≡ false
all_off [] h = refl
all_off (c ∷ cs) h = rw h.0 (all_off cs h.1)

-- ---- the order of a call's causes

-- A call with every cause, and the same with one after the other mended.
module _ where
  abbrev drawn_on : Framebuffer → List ℕ → List ℕ → ℤ → FontColor → List ℕ → Outcome RenderedDimensions
  drawn_on p font text x color buffer = draw (u8g2 font) (plain text (placed (point x (pos 0)) 0 false) Baseline) color p buffer

  abbrev drawn_of : List ℕ → List ℕ → ℤ → FontColor → List ℕ → Outcome RenderedDimensions
  drawn_of = drawn_on (sized Bytes 1 1)

  abbrev background : FontColor
  background = WithBackground 1 0

  pub draw_order :
      (drawn_of (take 22 T) (255 ∷ []) (pos 1048577) background []
      ∷ drawn_of (set T 4 9) (255 ∷ []) (pos 1048577) background []
      ∷ drawn_of T (255 ∷ []) (pos 1048577) background []
      ∷ drawn_of T (255 ∷ []) (pos 1048577) background (0 ∷ [])
      ∷ drawn_of T (65 ∷ []) (pos 1048577) background (0 ∷ [])
      ∷ drawn_of T (65 ∷ []) (pos 0) background (0 ∷ [])
      ∷ drawn_of T (65 ∷ []) (pos 0) (Transparent 1) (0 ∷ [])
      ∷ [])
      ≡ (refused 1 0 ∷ refused 2 0 ∷ refused 3 0 ∷ refused 4 0 ∷ refused 5 0 ∷ refused 6 0 ∷ refused 7 65 ∷ [])
  unfolding T header header_off signed8 glyph fields search record8 chain read_at bits low_bits number table row_of first_character decode_from newlines join_all letters lines line_by_line draw
  draw_order = refl

  -- Request A4: 9 comes after 5 and before 6, on packed framebuffers alone, and speaks of the colours that the ink has.
  abbrev packed_of : List ℕ → ℤ → FontColor → List ℕ → Outcome RenderedDimensions
  packed_of = drawn_on (sized Packed 1 8) T

  pub packed_order :
      (drawn_on (sized Packed 1 12) T (255 ∷ []) (pos 1048577) (WithBackground 2 0) (0 ∷ [])
      ∷ packed_of (255 ∷ []) (pos 1048577) (WithBackground 2 0) (0 ∷ 0 ∷ [])
      ∷ packed_of (255 ∷ []) (pos 1048577) (WithBackground 2 0) (0 ∷ [])
      ∷ packed_of (65 ∷ []) (pos 1048577) (WithBackground 2 0) (0 ∷ [])
      ∷ packed_of (65 ∷ []) (pos 0) (WithBackground 2 0) (0 ∷ [])
      ∷ packed_of (65 ∷ []) (pos 0) (WithBackground 0 2) (0 ∷ [])
      ∷ packed_of (65 ∷ []) (pos 0) (Transparent 2) (0 ∷ [])
      ∷ packed_of (65 ∷ []) (pos 0) (WithBackground 1 0) (0 ∷ [])
      ∷ packed_of (65 ∷ []) (pos 0) (Transparent 1) (0 ∷ [])
      ∷ drawn_of T (65 ∷ []) (pos 0) (WithBackground 2 0) (0 ∷ [])
      ∷ [])
      ≡ (refused 3 0 ∷ refused 3 0 ∷ refused 4 0 ∷ refused 5 0 ∷ refused 9 0 ∷ refused 9 0 ∷ refused 9 0 ∷ refused 6 0 ∷ refused 7 65 ∷ refused 6 0 ∷ [])
  unfolding T header header_off signed8 glyph fields search record8 chain read_at bits low_bits number table row_of first_character decode_from newlines join_all letters lines line_by_line draw
  packed_order = refl

  abbrev measured_of : List ℕ → List ℕ → ℤ → Outcome RenderedDimensions
  measured_of font text x = measure (u8g2 font) (plain text (placed (point x (pos 0)) 0 false) Baseline)

  pub measure_order :
      (measured_of (take 22 T) (255 ∷ []) (pos 1048577)
      ∷ measured_of (set T 4 9) (255 ∷ []) (pos 1048577)
      ∷ measured_of T (255 ∷ []) (pos 1048577)
      ∷ measured_of T (65 ∷ []) (pos 1048577)
      ∷ measured_of T (65 ∷ []) (pos 0)
      ∷ [])
      ≡ (refused 1 0 ∷ refused 2 0 ∷ refused 4 0 ∷ refused 5 0 ∷ refused 7 65 ∷ [])
  unfolding T header header_off signed8 glyph fields search record8 chain read_at bits low_bits number table row_of first_character decode_from newlines join_all letters lines line_by_line measure
  measure_order = refl

-- ---- the framebuffer of a refused call

pub refused_keeps : (font : Font) (r : Request) (color : FontColor) (p : Framebuffer) (buffer : List ℕ)
    → any_applies (draw_causes font r color p buffer) ≡ true → draw_buffer font r color p buffer ≡ buffer
unfolding draw_buffer
refused_keeps font r color p buffer e = rw e
