-- Drawing lays a text out as measuring does, or stops at a glyph whose runs are cut off, however its lines are aligned. Assumes
-- nothing.
use Rattle.integers.proofs.Prelude.{◌≡◌, refl, false, ◌⊎◌, inl, inr, List, [], ◌∷◌, ℕ, pos, ◌+ℤ◌}
use Rattle.definitions.specs.Vocabulary.{Point, GlyphReader, HorizontalAlignment}
use Rattle.types.specs.declared.style.HorizontalAlignment.TheVariants.{Left, Center, Right}
use Rattle.definitions.specs.Refusals.{Outcome, success, refused}
use Rattle.definitions.specs.Text.{Answer, answer, join_all, Layout, point, place, letters, Lines, last, first, lines, newline, then_lines, line_by_line}
use Rattle.definitions.specs.Text.{horizontal_offset, with_offset, moved_line, aligned_line, aligned}
use Rattle.definitions.specs.Runs.{Pixels, pixels, cut}
use Rattle.definitions.specs.Font.{Font, measured_answer, with_runs, drawable, drawn_answer}

abbrev pub AlikeOrCut : Layout → Layout → Type 0
AlikeOrCut drawn measured = (drawn ≡ measured) ⊎ ((c : ℕ) × (drawn.advance ≡ refused 8 c))

abbrev zero : Point
zero = point (pos 0) (pos 0)

module _ (font : Font) where
  abbrev drawing : ℕ → Answer
  drawing c = drawn_answer font false c

  abbrev measuring : ℕ → Answer
  measuring c = measured_answer font false c

  -- ---- the letters of a line

  abbrev AlikeLetters : Point → Point → List ℕ → Type 0
  AlikeLetters origin advance l = AlikeOrCut (letters drawing origin advance l) (letters measuring origin advance l)

  module _ (origin : Point) (l : List ℕ) (rest : (next : Point) → AlikeLetters origin next l) (advance : Point) (c : ℕ) where
    abbrev Placed : Outcome GlyphReader → Outcome GlyphReader → Type 0
    Placed d m =
        AlikeOrCut
        (place origin advance (answer false d) (λ next. letters drawing origin next l))
        (place origin advance (answer false m) (λ next. letters measuring origin next l))

    after_glyph : (g : GlyphReader) → AlikeLetters origin (point (advance.x +ℤ g.advance) advance.y) l → Placed (success g) (success g)
    after_glyph g (inl e) = inl (rw e)
    after_glyph g (inr e) = inr e

    with_pixels : (g : GlyphReader) (p : Pixels) → Placed (with_runs c g p) (success g)
    with_pixels g (pixels ps) = after_glyph g (rest (point (advance.x +ℤ g.advance) advance.y))
    with_pixels g cut = inr (c, refl)

    placed : (o : Outcome GlyphReader) → Placed (drawable font c o) o
    placed (success g) = with_pixels g (font.pixels g)
    placed (refused n d) = inl refl

  alike_letters : (origin : Point) (l : List ℕ) (advance : Point) → AlikeLetters origin advance l
  unfolding letters
  alike_letters origin [] advance = inl refl
  alike_letters origin (c ∷ l) advance = placed origin l (alike_letters origin l) advance c (font.glyph c)

  -- ---- the lines

  module _ (line_height : ℕ) (a : HorizontalAlignment) (origin : Point) where
    -- a line at its offset
    alike_moved : (b : HorizontalAlignment) (advance : Point) (l : List ℕ)
        → AlikeOrCut (moved_line b measuring drawing origin advance l) (moved_line b measuring measuring origin advance l)
    alike_moved b advance l = by (letters measuring zero zero l).advance
      where
        by : (o : Outcome Point)
            → AlikeOrCut
            (with_offset b (letters measuring zero zero l) o (λ x. letters drawing (point (origin.x +ℤ x) origin.y) advance l))
            (with_offset b (letters measuring zero zero l) o (λ x. letters measuring (point (origin.x +ℤ x) origin.y) advance l))
        by (success end) = alike_letters (point (origin.x +ℤ horizontal_offset b (join_all (letters measuring zero zero l).glyphs) end.x) origin.y) l advance
        by (refused n c) = inl refl

    abbrev drawn_line : HorizontalAlignment → Point → List ℕ → Layout
    drawn_line b = aligned_line b measuring drawing origin

    abbrev measured_line : HorizontalAlignment → Point → List ℕ → Layout
    measured_line b = aligned_line b measuring measuring origin

    alike_line : (b : HorizontalAlignment) (advance : Point) (l : List ℕ) → AlikeOrCut (drawn_line b advance l) (measured_line b advance l)
    alike_line Left advance l = alike_letters origin l advance
    alike_line Center advance l = alike_moved Center advance l
    alike_line Right advance l = alike_moved Right advance l

    -- what comes after a line
    alike_then : (line : Layout) (o : Outcome Point) (d m : Point → Layout) → ((next : Point) → AlikeOrCut (d next) (m next))
        → AlikeOrCut (then_lines line o d) (then_lines line o m)
    alike_then line (success next) d m h = by (h next)
      where
        by : AlikeOrCut (d next) (m next) → AlikeOrCut (then_lines line (success next) d) (then_lines line (success next) m)
        by (inl e) = inl (rw e)
        by (inr e) = inr e
    alike_then line (refused n c) d m h = inl refl

    after_line : (drawn measured : Layout) → AlikeOrCut drawn measured → (d m : Point → Layout) → ((next : Point) → AlikeOrCut (d next) (m next))
        → AlikeOrCut (then_lines drawn drawn.advance d) (then_lines measured measured.advance m)
    after_line drawn measured (inl e) d m h = rw e (alike_then measured measured.advance d m h)
    after_line drawn measured (inr e) d m h = inr (e.0, rw e.1)

    alike_lines : (ls : Lines) (advance : Point) → AlikeOrCut (line_by_line (drawn_line a) line_height advance ls) (line_by_line (measured_line a) line_height advance ls)
    unfolding line_by_line
    alike_lines (last l) advance = alike_line a advance l
    alike_lines (first l ls) advance =
        after_line (drawn_line a advance l) (measured_line a advance l) (alike_line a advance l)
        (λ end. line_by_line (drawn_line a) line_height (newline line_height end) ls)
        (λ end. line_by_line (measured_line a) line_height (newline line_height end) ls)
        (λ end. alike_lines ls (newline line_height end))

    pub alike_or_cut : (cs : List ℕ) → AlikeOrCut (aligned measuring drawing line_height a origin cs) (aligned measuring measuring line_height a origin cs)
    alike_or_cut cs = alike_lines (lines cs) zero
