-- SPECIFICATION, Texts and Alignment: where each letter of a text stands, and what the text comes to.
--
-- Everything here is a function of what the font answers to each letter. No byte of a font is seen, so drawing, another
-- kind of font and another alignment are new uses of these definitions and no new definitions of them.
use Rattle.std.specs.Prelude.{Bool, ◌&&◌, ◌||◌, List, [], ◌∷◌, ◌++◌, ℕ, ◌/◌, eqb, ℤ, pos, neg_ℤ, ◌+ℤ◌, ◌-ℤ◌}
use Rattle.integers.specs.Integers.{pick}
use Rattle.definitions.specs.Vocabulary.{Point, BoundingBox, None, Some, RenderedDimensions, GlyphReader, HorizontalAlignment}
use Rattle.types.specs.declared.style.HorizontalAlignment.TheVariants.{Left, Center, Right}
use Rattle.definitions.specs.Refusals.{Outcome, success, refused, and_then}
use Rattle.definitions.specs.Geometry.{left, join}

-- ---- a character, or letter

-- What the font answers to it: it shows a glyph, or nothing, or stops the text with a refusal.
pub data Answer : Type 0 where
  shows : GlyphReader → Answer
  nothing : Answer
  stops : ℕ → ℕ → Answer

-- A letter that is skipped shows nothing. Only an unknown one is (7), and none that the font's end cuts off (8).
abbrev pub answer : Bool → Outcome GlyphReader → Answer
answer skip (success g) = shows g
answer skip (refused n c) = pick (skip && eqb n 7) nothing (stops n c)

-- The box of a glyph at a place: its offsets count to the right and upwards, to its lowest row. Without pixels it has none.
abbrev pub box_at : ℤ → ℤ → GlyphReader → BoundingBox
box_at x y g =
    pick (eqb g.glyph_width 0 || eqb g.glyph_height 0) None
    (Some record {
      top_left = record { x = x +ℤ g.offset_x; y = y -ℤ (pos g.glyph_height +ℤ g.offset_y) };
      size = record { width = g.glyph_width; height = g.glyph_height };
    })

-- ---- glyphs in their places

-- A glyph and where it stands.
pub record Placed : Type 0 where
  pub x : ℤ
  pub y : ℤ
  pub glyph : GlyphReader

abbrev pub box_of : Placed → BoundingBox
box_of p = box_at p.x p.y p.glyph

-- The box of glyphs: all their boxes joined, or none.
unfoldable pub join_all : List Placed → BoundingBox
join_all [] = None
join_all (p ∷ ps) = join (box_of p) (join_all ps)

-- What letters come to: the glyphs up to the first refusal, and the last advance or that refusal.
pub record Layout : Type 0 where
  pub glyphs : List Placed
  pub advance : Outcome Point

abbrev pub point : ℤ → ℤ → Point
point x y = record { x = x; y = y }

abbrev pub before : List Placed → Layout → Layout
before ps rest = record { glyphs = ps ++ rest.glyphs; advance = rest.advance }

-- What a layout comes to: the advance at its end, and the join of its boxes.
abbrev pub dimensions_of : BoundingBox → Outcome Point → Outcome RenderedDimensions
dimensions_of box advance = and_then advance (λ a. success record { advance = a; bounding_box = box })

abbrev pub dimensions : Layout → Outcome RenderedDimensions
dimensions l = dimensions_of (join_all l.glyphs) l.advance

-- ---- a line is letters

-- Each letter is put where the advance so far leads; its own is added for the next.
abbrev pub place : Point → Point → Answer → (Point → Layout) → Layout
place origin advance (shows g) rest =
    before
    (record { x = origin.x +ℤ advance.x; y = origin.y +ℤ advance.y; glyph = g } ∷ [])
    (rest (point (advance.x +ℤ g.advance) advance.y))
place origin advance nothing rest = rest advance
place origin advance (stops n c) rest = record { glyphs = []; advance = refused n c }

unfoldable pub letters : (ℕ → Answer) → Point → Point → List ℕ → Layout
letters answers origin advance [] = record { glyphs = []; advance = success advance }
letters answers origin advance (c ∷ cs) = place origin advance (answers c) (λ next. letters answers origin next cs)

-- ---- a text is lines

-- The lines of a text: one more than it has newlines.
pub data Lines : Type 0 where
  last : List ℕ → Lines
  first : List ℕ → Lines → Lines

abbrev pub to_first : ℕ → Lines → Lines
to_first c (last l) = last (c ∷ l)
to_first c (first l ls) = first (c ∷ l) ls

-- Code point 10 is the newline, and no letter.
unfoldable pub lines : List ℕ → Lines
lines [] = last []
lines (c ∷ cs) = pick (eqb c 10) (first [] (lines cs)) (to_first c (lines cs))

-- the start of the next line
abbrev pub newline : ℕ → Point → Point
newline line_height advance = point (pos 0) (advance.y +ℤ pos line_height)

-- What comes after a line, from its last advance on, unless the line was stopped.
abbrev pub then_lines : Layout → Outcome Point → (Point → Layout) → Layout
then_lines line (success advance) rest = before line.glyphs (rest advance)
then_lines line (refused n c) rest = line

-- The lines of a text, with the advance so far; what each of them comes to is `line`.
unfoldable pub line_by_line : (Point → List ℕ → Layout) → ℕ → Point → Lines → Layout
line_by_line line line_height advance (last l) = line advance l
line_by_line line line_height advance (first l ls) =
    let done = line advance l in
    then_lines done done.advance (λ end. line_by_line line line_height (newline line_height end) ls)

-- A plain text from the origin on, with the advance so far.
abbrev pub layout : (ℕ → Answer) → ℕ → Point → Point → List ℕ → Layout
layout answers line_height origin advance cs = line_by_line (letters answers origin) line_height advance (lines cs)

-- ---- alignment

-- By how much a line is moved, its box and its advance being counted from the line's start.
abbrev pub horizontal_offset : HorizontalAlignment → BoundingBox → ℤ → ℤ
horizontal_offset Left box advance = pos 0
horizontal_offset Center None advance = pos 0
horizontal_offset Center (Some r) advance = neg_ℤ (pos (r.size.width / 2) +ℤ left r)
horizontal_offset Right box advance = neg_ℤ (advance -ℤ pos 1)

-- what a line that was measured comes to at its offset, unless it was stopped
abbrev pub with_offset : HorizontalAlignment → Layout → Outcome Point → (ℤ → Layout) → Layout
with_offset a line (success end) rest = rest (horizontal_offset a (join_all line.glyphs) end.x)
with_offset a line (refused n c) rest = record { glyphs = []; advance = refused n c }

-- A line is measured from its own start, by what its letters answer in measuring; then its letters stand at the origin moved by
-- the offset, by what they answer there. Of a line that is stopped in measuring nothing is left (request A2).
abbrev pub moved_line : HorizontalAlignment → (ℕ → Answer) → (ℕ → Answer) → Point → Point → List ℕ → Layout
moved_line a measured answers origin advance l =
    let line = letters measured (point (pos 0) (pos 0)) (point (pos 0) (pos 0)) l in
    with_offset a line line.advance (λ x. letters answers (point (origin.x +ℤ x) origin.y) advance l)

-- Left moves no line, so none is measured: it is the plain text.
abbrev pub aligned_line : HorizontalAlignment → (ℕ → Answer) → (ℕ → Answer) → Point → Point → List ℕ → Layout
aligned_line Left measured answers origin advance l = letters answers origin advance l
aligned_line Center measured answers origin advance l = moved_line Center measured answers origin advance l
aligned_line Right measured answers origin advance l = moved_line Right measured answers origin advance l

-- An aligned text from the origin on, its advance being (0, 0) at first.
abbrev pub aligned : (ℕ → Answer) → (ℕ → Answer) → ℕ → HorizontalAlignment → Point → List ℕ → Layout
aligned measured answers line_height a origin cs =
    line_by_line (aligned_line a measured answers origin) line_height (point (pos 0) (pos 0)) (lines cs)
