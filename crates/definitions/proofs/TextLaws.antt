-- Laws of a text's layout: what another font's letters change, and that the folds of TextSteps.antt, which loops follow, come
-- to the layouts of Text.antt. Assumes nothing.
use Rattle.integers.proofs.Prelude.{◌≡◌, refl, sym, ap, ◌∙◌, Bool, true, false, ◌||◌, List, [], ◌∷◌, ◌++◌, map, append_assoc, ℕ, suc, ◌+◌, arith, eqb}
use Rattle.integers.proofs.Prelude.{ℤ, pos, ◌+ℤ◌, ◌-ℤ◌}
use Rattle.integers.specs.Integers.{pick}
use Rattle.integers.proofs.Laws.{zarith, plus, minus}
use Rattle.integers.proofs.Choices.{impossible}
use Rattle.definitions.specs.Vocabulary.{BoundingBox, None, Some, Point, Rectangle, RenderedDimensions, GlyphReader, FontColor}
use Rattle.definitions.specs.Vocabulary.{HorizontalAlignment, Framebuffer}
use Rattle.types.specs.declared.style.HorizontalAlignment.TheVariants.{Left, Center, Right}
use Rattle.definitions.specs.Refusals.{Outcome, success, refused, and_then}
use Rattle.definitions.specs.Geometry.{join}
use Rattle.definitions.specs.Utf8.{newlines}
use Rattle.definitions.specs.Text.{Answer, shows, nothing, stops, answer, box_at, Placed, box_of, join_all, Layout, point, before, dimensions_of, dimensions}
use Rattle.definitions.specs.Text.{place, letters, Lines, last, first, to_first, lines, newline, then_lines, line_by_line, layout, horizontal_offset, with_offset, moved_line, aligned_line, aligned}
use Rattle.definitions.specs.TextSteps.{newline_step, next_box, glyph_step, answer_step, step, measure_from, start, answer_shown, step_shown, or_kept, draw_from}
use Rattle.definitions.specs.TextSteps.{moved_box, LineState, with_line, next_line, answer_of_line, line_step, measure_lines_from, lines_dimensions, measure_lines}
use Rattle.definitions.specs.Picture.{box_picture, text_picture}
use Rattle.definitions.specs.Framebuffer.{shown}
use Rattle.definitions.specs.Calls.{box_of_layout}
use Rattle.definitions.proofs.JoinLaws.{join_none_right, join_assoc, join_moved}
use Rattle.definitions.proofs.FramebufferLaws.{shown_shown, shown_blank}

-- ---- examples, in a font of one glyph for "-", 2 wide and 2 to the right, with advance 3; "!" is skipped, and nothing else is there

abbrev dash : GlyphReader
dash = record { glyph_width = 2; glyph_height = 1; offset_x = pos 2; offset_y = pos 0; advance = pos 3; bit_pos = 0 }

abbrev dashes : ℕ → Answer
dashes c = pick (eqb c 45) (shows dash) (answer (eqb c 33) (refused 7 c))

abbrev dash_at : ℤ → ℤ → Placed
dash_at x y = record { x = x; y = y; glyph = dash }

abbrev at : Point
at = point (pos 10) (pos 20)

-- "-!-", newline, "-"
abbrev two_lines : List ℕ
two_lines = 45 ∷ 33 ∷ 45 ∷ 10 ∷ 45 ∷ []

-- "-", newline, "-A-"
abbrev stopped : List ℕ
stopped = 45 ∷ 10 ∷ 45 ∷ 65 ∷ 45 ∷ []

pub plain_example : layout dashes 4 at (point (pos 0) (pos 0)) two_lines
    ≡ record { glyphs = dash_at (pos 10) (pos 20) ∷ dash_at (pos 13) (pos 20) ∷ dash_at (pos 10) (pos 24) ∷ []; advance = success (point (pos 3) (pos 4)) }
unfolding letters lines line_by_line
plain_example = refl

-- Each line is moved by its own offset: in Center by 4 and 3, in Right by 5 and 2.
pub center_example : aligned dashes dashes 4 Center at two_lines
    ≡ record { glyphs = dash_at (pos 6) (pos 20) ∷ dash_at (pos 9) (pos 20) ∷ dash_at (pos 7) (pos 24) ∷ []; advance = success (point (pos 3) (pos 4)) }
unfolding letters lines line_by_line join_all
center_example = refl

pub right_example : aligned dashes dashes 4 Right at two_lines
    ≡ record { glyphs = dash_at (pos 5) (pos 20) ∷ dash_at (pos 8) (pos 20) ∷ dash_at (pos 8) (pos 24) ∷ []; advance = success (point (pos 3) (pos 4)) }
unfolding letters lines line_by_line join_all
right_example = refl

-- Of a line that is stopped Left leaves the letters before, as in plain texts; Center and Right leave nothing.
pub stopped_example : map (λ (a : HorizontalAlignment). aligned dashes dashes 4 a at stopped) (Left ∷ Center ∷ Right ∷ [])
    ≡ record { glyphs = dash_at (pos 10) (pos 20) ∷ dash_at (pos 10) (pos 24) ∷ []; advance = refused 7 65 }
    ∷ record { glyphs = dash_at (pos 7) (pos 20) ∷ []; advance = refused 7 65 }
    ∷ record { glyphs = dash_at (pos 8) (pos 20) ∷ []; advance = refused 7 65 }
    ∷ []
unfolding letters lines line_by_line join_all
stopped_example = refl

-- A line is measured before it is drawn: "-A" with the runs of "-" cut off is 8 with Left, and with Center and Right 7.
abbrev cut_dashes : ℕ → Answer
cut_dashes c = pick (eqb c 45) (stops 8 45) (dashes c)

pub measured_first : map (λ (a : HorizontalAlignment). (aligned dashes cut_dashes 4 a at (45 ∷ 65 ∷ [])).advance) (Left ∷ Center ∷ Right ∷ [])
    ≡ refused 8 45 ∷ refused 7 65 ∷ refused 7 65 ∷ []
unfolding letters lines line_by_line join_all
measured_first = refl

pub lines_example : measure_lines dashes Center 4 at two_lines
    ≡ success record {
      advance = point (pos 3) (pos 4);
      bounding_box = Some record { top_left = point (pos 8) (pos 19); size = record { width = 5; height = 5 } };
    }
unfolding measure_lines_from
lines_example = refl

-- Skipping does not hide 8.
pub skip_example : answer true (refused 8 0) ≡ stops 8 0
skip_example = refl

-- ---- the box of glyphs

pub join_append : (ps qs : List Placed) → join_all (ps ++ qs) ≡ join (join_all ps) (join_all qs)
unfolding join_all
join_append [] qs = refl
join_append (p ∷ ps) qs = ap (join (box_of p)) (join_append ps qs) ∙ sym (join_assoc (box_of p) (join_all ps) (join_all qs))

-- ---- lines

abbrev line_count : Lines → ℕ
line_count (last l) = 1
line_count (first l ls) = suc (line_count ls)

-- There is one more than there are newlines.
pub line_count_lem : (cs : List ℕ) → line_count (lines cs) ≡ suc (newlines cs)
unfolding lines newlines
line_count_lem [] = refl
line_count_lem (c ∷ cs) = by (eqb c 10) (lines cs) (line_count_lem cs)
  where
    by : (t : Bool) (ls : Lines) → line_count ls ≡ suc (newlines cs) → line_count (pick t (first [] ls) (to_first c ls)) ≡ suc (pick t 1 0 + newlines cs)
    by true ls e = omega arith
    by false (last l) e = omega arith
    by false (first l ls) e = omega arith

-- A text without newlines is one line.
pub lines_last : (cs : List ℕ) → newlines cs ≡ 0 → lines cs ≡ last cs
unfolding lines newlines
lines_last [] e = refl
lines_last (c ∷ cs) e = by (eqb c 10) e (lines_last cs)
  where
    by : (t : Bool) → pick t 1 0 + newlines cs ≡ 0 → (newlines cs ≡ 0 → lines cs ≡ last cs) → pick t (first [] (lines cs)) (to_first c (lines cs)) ≡ last (c ∷ cs)
    by true e rest = absurd (omega arith)
    by false e rest = rw (rest (omega arith))

-- ---- a plain text, letter by letter

then_before : (ps : List Placed) (line : Layout) (o : Outcome Point) (rest : Point → Layout)
    → then_lines (before ps line) o rest ≡ before ps (then_lines line o rest)
then_before ps line (success end) rest = rw append_assoc
then_before ps line (refused n c) rest = refl

module _ (answers : ℕ → Answer) (line_height : ℕ) (origin : Point) where
  abbrev plain_from : Point → Lines → Layout
  plain_from advance ls = line_by_line (letters answers origin) line_height advance ls

  -- a letter in front of the first line
  first_letter : (advance : Point) (c : ℕ) (ls : Lines) (a : Answer) → answers c ≡ a
      → plain_from advance (to_first c ls) ≡ place origin advance a (λ next. plain_from next ls)
  unfolding letters line_by_line
  first_letter advance c (last l) a e = rw e
  first_letter advance c (first l ls) (shows g) e =
      let p : Placed = record { x = origin.x +ℤ advance.x; y = origin.y +ℤ advance.y; glyph = g } in
      let done = letters answers origin (point (advance.x +ℤ g.advance) advance.y) l in
      rw e (then_before (p ∷ []) done done.advance (λ end. plain_from (newline line_height end) ls))
  first_letter advance c (first l ls) nothing e = rw e
  first_letter advance c (first l ls) (stops n d) e = rw e

  -- what the next code point makes of the advance, as a loop goes
  pub layout_next : (c : ℕ) (cs : List ℕ) (advance : Point)
      → layout answers line_height origin advance (c ∷ cs)
      ≡ pick (eqb c 10)
      (layout answers line_height origin (newline line_height advance) cs)
      (place origin advance (answers c) (λ next. layout answers line_height origin next cs))
  unfolding letters lines line_by_line
  layout_next c cs advance = by (eqb c 10)
    where
      by : (t : Bool)
          → plain_from advance (pick t (first [] (lines cs)) (to_first c (lines cs)))
          ≡ pick t (plain_from (newline line_height advance) (lines cs)) (place origin advance (answers c) (λ next. plain_from next (lines cs)))
      by true = refl
      by false = first_letter advance c (lines cs) (answers c) refl

-- ---- measuring is the layout's dimensions

-- what is measured from a state on: the layout's box joined to the state's
abbrev pub dimensions_from : BoundingBox → Layout → Outcome RenderedDimensions
dimensions_from b l = dimensions_of (join b (join_all l.glyphs)) l.advance

module _ (answers : ℕ → Answer) (line_height : ℕ) (origin : Point) where
  measure_place : (d : RenderedDimensions) (l : Answer) (cs : List ℕ)
      → ((next : RenderedDimensions) → measure_from answers line_height origin next cs ≡ dimensions_from next.bounding_box (layout answers line_height origin next.advance cs))
      → and_then (answer_step origin d l) (λ next. measure_from answers line_height origin next cs)
      ≡ dimensions_from d.bounding_box (place origin d.advance l (λ next. layout answers line_height origin next cs))
  unfolding join_all
  measure_place d (shows g) cs rest = rest (glyph_step origin d g) ∙ rw join_assoc
  measure_place d nothing cs rest = rest d
  measure_place d (stops n c) cs rest = refl

  measure_char : (t : Bool) (d : RenderedDimensions) (l : Answer) (cs : List ℕ)
      → ((next : RenderedDimensions) → measure_from answers line_height origin next cs ≡ dimensions_from next.bounding_box (layout answers line_height origin next.advance cs))
      → and_then (pick t (success (newline_step line_height d)) (answer_step origin d l)) (λ next. measure_from answers line_height origin next cs)
      ≡ dimensions_from d.bounding_box
      (pick t
      (layout answers line_height origin (newline line_height d.advance) cs)
      (place origin d.advance l (λ next. layout answers line_height origin next cs)))
  measure_char true d l cs rest = rest (newline_step line_height d)
  measure_char false d l cs rest = measure_place d l cs rest

  pub measure_from_lem : (cs : List ℕ) (d : RenderedDimensions)
      → measure_from answers line_height origin d cs ≡ dimensions_from d.bounding_box (layout answers line_height origin d.advance cs)
  unfolding measure_from letters lines line_by_line join_all
  measure_from_lem [] d = rw join_none_right
  measure_from_lem (c ∷ cs) d =
      measure_char (eqb c 10) d (answers c) cs (measure_from_lem cs)
      ∙ ap (dimensions_from d.bounding_box) (sym (layout_next answers line_height origin c cs d.advance))

-- ---- drawing letter by letter is the text's picture on the framebuffer, up to the refusal if there is one

module _ (p : Framebuffer) (color : FontColor) (pixels_of : GlyphReader → List ℕ) (answers : ℕ → Answer) (line_height : ℕ) (origin : Point) where
  -- the picture of a layout on a framebuffer
  abbrev on : List ℕ → Layout → List ℕ
  on buffer l = shown p (text_picture color pixels_of l.glyphs) buffer

  -- what is to be shown of a list of code points, from each state and each buffer
  abbrev Draws : List ℕ → Type 0
  Draws cs =
      (d : RenderedDimensions) (buffer : List ℕ)
      → draw_from p color pixels_of answers line_height origin d buffer cs ≡ on buffer (layout answers line_height origin d.advance cs)

  draw_place : (cs : List ℕ) → Draws cs → (d : RenderedDimensions) (buffer : List ℕ) (l : Answer)
      → or_kept (answer_step origin d l) (answer_shown p color pixels_of origin d l buffer) (λ next.
      draw_from p color pixels_of answers line_height origin next (answer_shown p color pixels_of origin d l buffer) cs)
      ≡ on buffer (place origin d.advance l (λ next. layout answers line_height origin next cs))
  unfolding text_picture
  draw_place cs rest d buffer (shows g) =
      rest (glyph_step origin d g) _
      ∙ shown_shown p
      (text_picture color pixels_of (layout answers line_height origin (glyph_step origin d g).advance cs).glyphs)
      (box_picture color (pixels_of g) (next_box origin d g))
      buffer
  draw_place cs rest d buffer nothing = rest d buffer
  draw_place cs rest d buffer (stops n c) = sym (shown_blank p buffer)

  draw_char : (cs : List ℕ) → Draws cs → (d : RenderedDimensions) (buffer : List ℕ) (t : Bool) (l : Answer)
      → or_kept (pick t (success (newline_step line_height d)) (answer_step origin d l)) (pick t buffer (answer_shown p color pixels_of origin d l buffer)) (λ next.
      draw_from p color pixels_of answers line_height origin next (pick t buffer (answer_shown p color pixels_of origin d l buffer)) cs)
      ≡ on buffer (pick t (layout answers line_height origin (newline line_height d.advance) cs) (place origin d.advance l (λ next. layout answers line_height origin next cs)))
  draw_char cs rest d buffer true l = rest (newline_step line_height d) buffer
  draw_char cs rest d buffer false l = draw_place cs rest d buffer l

  pub draw_from_lem : (cs : List ℕ) (d : RenderedDimensions) (buffer : List ℕ)
      → draw_from p color pixels_of answers line_height origin d buffer cs
      ≡ shown p (text_picture color pixels_of (layout answers line_height origin d.advance cs).glyphs) buffer
  unfolding draw_from letters lines line_by_line text_picture
  draw_from_lem [] d buffer = sym (shown_blank p buffer)
  draw_from_lem (c ∷ cs) d buffer =
      draw_char cs (draw_from_lem cs) d buffer (eqb c 10) (answers c)
      ∙ ap (on buffer) (sym (layout_next answers line_height origin c cs d.advance))

-- ---- measuring line by line is the aligned layout's dimensions

module _ (x a b : ℤ) where
  left_moved : (x +ℤ a) +ℤ b ≡ x +ℤ (a +ℤ b)
  left_moved = omega (zarith, plus x a, plus a b, plus (x +ℤ a) b, plus x (a +ℤ b))

  top_moved : (x +ℤ a) -ℤ b ≡ x +ℤ (a -ℤ b)
  top_moved = omega (zarith, plus x a, minus a b, minus (x +ℤ a) b, plus x (a -ℤ b))

-- the rectangle of a glyph that has pixels
abbrev pub rectangle_at : ℤ → ℤ → GlyphReader → Rectangle
rectangle_at x y g = record {
  top_left = record { x = x +ℤ g.offset_x; y = y -ℤ (pos g.glyph_height +ℤ g.offset_y) };
  size = record { width = g.glyph_width; height = g.glyph_height };
}

-- what is so of no box and of that rectangle is so of the glyph's box
pub either_box : (P : BoundingBox → Type 0) (x y : ℤ) (g : GlyphReader) → P None → P (Some (rectangle_at x y g)) → P (box_at x y g)
either_box P x y g none some = by (eqb g.glyph_width 0 || eqb g.glyph_height 0)
  where
    by : (t : Bool) → P (pick t None (Some (rectangle_at x y g)))
    by true = none
    by false = some

abbrev pub moved : ℤ → ℤ → Placed → Placed
moved x y p = record { x = x +ℤ p.x; y = y +ℤ p.y; glyph = p.glyph }

module _ (x y : ℤ) where
  -- a glyph's box where the glyph is moved
  box_moved : (p : Placed) → box_of (moved x y p) ≡ moved_box x y (box_of p)
  box_moved p = by (eqb p.glyph.glyph_width 0 || eqb p.glyph.glyph_height 0)
    where
      by : (t : Bool)
          → pick t None (Some (rectangle_at (x +ℤ p.x) (y +ℤ p.y) p.glyph))
          ≡ moved_box x y (pick t None (Some (rectangle_at p.x p.y p.glyph)))
      by true = refl
      by false = cc (left_moved x p.x p.glyph.offset_x, top_moved y p.y (pos p.glyph.glyph_height +ℤ p.glyph.offset_y))

  pub join_all_moved : (ps : List Placed) → join_all (map (moved x y) ps) ≡ moved_box x y (join_all ps)
  unfolding join_all
  join_all_moved [] = refl
  join_all_moved (p ∷ ps) = rw (box_moved p, join_all_moved ps) (join_moved x y (box_of p) (join_all ps))

zero_plus : (x : ℤ) → pos 0 +ℤ x ≡ x
zero_plus x = omega (zarith, plus (pos 0) x)

plus_zero : (x : ℤ) → x +ℤ pos 0 ≡ x
plus_zero x = omega (zarith, plus x (pos 0))

-- a line that was laid out from its own start, at its place: y below the origin
abbrev moved_to : ℤ → ℤ → ℤ → Layout → Layout
moved_to left top y line = record {
  glyphs = map (moved left (top +ℤ y)) line.glyphs;
  advance = and_then line.advance (λ end. success (point end.x y));
}

abbrev zero : Point
zero = point (pos 0) (pos 0)

module _ (answers : ℕ → Answer) (origin : Point) (y : ℤ) where
  place_from_start : (x : ℤ) (a : Answer) (l : List ℕ)
      → ((x : ℤ) → letters answers origin (point x y) l ≡ moved_to origin.x origin.y y (letters answers zero (point x (pos 0)) l))
      → place origin (point x y) a (λ next. letters answers origin next l)
      ≡ moved_to origin.x origin.y y (place zero (point x (pos 0)) a (λ next. letters answers zero next l))
  place_from_start x (shows g) l rest = rw (rest (x +ℤ g.advance), zero_plus x, plus_zero (origin.y +ℤ y))
  place_from_start x nothing l rest = rest x
  place_from_start x (stops n c) l rest = refl

  letters_from_start : (l : List ℕ) (x : ℤ)
      → letters answers origin (point x y) l ≡ moved_to origin.x origin.y y (letters answers zero (point x (pos 0)) l)
  unfolding letters
  letters_from_start [] x = refl
  letters_from_start (c ∷ l) x = place_from_start x (answers c) l (letters_from_start l)

module _ (answers : ℕ → Answer) (a : HorizontalAlignment) (line_height : ℕ) (origin : Point) where
  -- a line from its own start, with an advance and a box so far
  abbrev line_from : ℤ → BoundingBox → List ℕ → Outcome RenderedDimensions
  line_from x b l = dimensions_from b (letters answers zero (point x (pos 0)) l)

  abbrev state_of : RenderedDimensions → ℤ → BoundingBox → LineState
  state_of line y box = record { line = line; y = y; box = box }

  abbrev aligned_from : ℤ → Lines → Layout
  aligned_from y ls = line_by_line (aligned_line a answers answers origin) line_height (point (pos 0) y) ls

  -- the lines of a text, with a line so far and the box of the lines that have ended
  abbrev after : ℤ → BoundingBox → ℤ → BoundingBox → Lines → Outcome RenderedDimensions
  after y box x b (last l) = and_then (line_from x b l) (λ d. success (lines_dimensions a origin (state_of d y box)))
  after y box x b (first l ls) =
      and_then (line_from x b l) (λ d. dimensions_from (with_line a origin (state_of d y box)) (aligned_from (y +ℤ pos line_height) ls))

  -- a line, laid out from its own start
  module _ (l : List ℕ) (y : ℤ) where
    abbrev line : Layout
    line = letters answers zero zero l

    abbrev aside : HorizontalAlignment → Point → ℤ
    aside b end = origin.x +ℤ horizontal_offset b (join_all line.glyphs) end.x

    abbrev there : HorizontalAlignment → Layout
    there b = aligned_line b answers answers origin (point (pos 0) y) l

    line_moved : (b : HorizontalAlignment) (end : Point) → line.advance ≡ success end
        → moved_line b answers answers origin (point (pos 0) y) l ≡ moved_to (aside b end) origin.y y line
    line_moved b end e =
        ap (λ (o : Outcome Point). with_offset b line o (λ x. letters answers (point (origin.x +ℤ x) origin.y) (point (pos 0) y) l)) e
        ∙ letters_from_start answers (point (aside b end) origin.y) y l (pos 0)

    -- it stands aside, unless it is stopped
    there_moved : (b : HorizontalAlignment) (end : Point) → line.advance ≡ success end → there b ≡ moved_to (aside b end) origin.y y line
    there_moved Left end e = letters_from_start answers origin y l (pos 0) ∙ rw plus_zero
    there_moved Center end e = line_moved Center end e
    there_moved Right end e = line_moved Right end e

    there_stopped : (b : HorizontalAlignment) {n c : ℕ} → line.advance ≡ refused n c → (there b).advance ≡ refused n c
    there_stopped Left e = ap (λ (k : Layout). k.advance) (letters_from_start answers origin y l (pos 0)) ∙ rw e
    there_stopped Center e = rw e
    there_stopped Right e = rw e

    -- so the last line comes to its box, moved ..
    last_line : (box : BoundingBox) (o : Outcome Point) → line.advance ≡ o → after y box (pos 0) None (last l) ≡ dimensions_from box (there a)
    last_line box (success end) e = rw (there_moved a end e, e, join_all_moved)
    last_line box (refused n c) e = rw (there_stopped a e, e)

    -- .. and goes before what comes after it
    first_line : (box : BoundingBox) (ls : Lines) (o : Outcome Point) → line.advance ≡ o
        → after y box (pos 0) None (first l ls)
        ≡ dimensions_from box (then_lines (there a) (there a).advance (λ end. line_by_line (aligned_line a answers answers origin) line_height (newline line_height end) ls))
    first_line box ls (success end) e = rw (there_moved a end e, e, join_append, join_all_moved, join_assoc)
    first_line box ls (refused n c) e = rw (there_stopped a e, e) (rw (there_stopped a e))

  after_start : (y : ℤ) (box : BoundingBox) (ls : Lines) → after y box (pos 0) None ls ≡ dimensions_from box (aligned_from y ls)
  unfolding line_by_line
  after_start y box (last l) = last_line l y box _ refl
  after_start y box (first l ls) = first_line l y box ls _ refl

  -- what is read off the state at the end
  abbrev read : Outcome LineState → Outcome RenderedDimensions
  read o = and_then o (λ s. success (lines_dimensions a origin s))

  -- a state in the middle of a line
  abbrev within : ℤ → BoundingBox → ℤ → BoundingBox → LineState
  within y box x b = state_of record { advance = point x (pos 0); bounding_box = b } y box

  -- what is to be shown of a list of code points, from each state
  abbrev Measures : List ℕ → Type 0
  Measures cs =
      (y : ℤ) (box : BoundingBox) (x : ℤ) (b : BoundingBox)
      → read (measure_lines_from answers a line_height origin (within y box x b) cs) ≡ after y box x b (lines cs)

  module _ (cs : List ℕ) (rest : Measures cs) (y : ℤ) (box : BoundingBox) (x : ℤ) (b : BoundingBox) where
    lines_newline : read (measure_lines_from answers a line_height origin (next_line a line_height origin (within y box x b)) cs)
        ≡ after y box x b (first [] (lines cs))
    unfolding letters join_all
    lines_newline =
        rest (y +ℤ pos line_height) (with_line a origin (within y box x b)) (pos 0) None
        ∙ after_start (y +ℤ pos line_height) (with_line a origin (within y box x b)) (lines cs)
        ∙ rw join_none_right

    -- a letter in front of the line
    lines_letter : (c : ℕ) (l : Answer) → answers c ≡ l → (ls : Lines) → lines cs ≡ ls
        → read (and_then (answer_of_line (within y box x b) l) (λ next. measure_lines_from answers a line_height origin next cs)) ≡ after y box x b (to_first c ls)
    unfolding letters join_all
    lines_letter c (shows g) e (last l) k = rest y box (x +ℤ g.advance) (join b (box_at (pos 0 +ℤ x) (pos 0) g)) ∙ rw (k, e, join_assoc)
    lines_letter c (shows g) e (first l ls) k = rest y box (x +ℤ g.advance) (join b (box_at (pos 0 +ℤ x) (pos 0) g)) ∙ rw (k, e, join_assoc)
    lines_letter c nothing e (last l) k = rest y box x b ∙ rw (k, e)
    lines_letter c nothing e (first l ls) k = rest y box x b ∙ rw (k, e)
    lines_letter c (stops n m) e (last l) k = rw e
    lines_letter c (stops n m) e (first l ls) k = rw e

    lines_char : (c : ℕ) (t : Bool)
        → read
        (and_then (pick t (success (next_line a line_height origin (within y box x b))) (answer_of_line (within y box x b) (answers c))) (λ next.
        measure_lines_from answers a line_height origin next cs))
        ≡ after y box x b (pick t (first [] (lines cs)) (to_first c (lines cs)))
    lines_char c true = lines_newline
    lines_char c false = lines_letter c (answers c) refl (lines cs) refl

  lines_from : (cs : List ℕ) → Measures cs
  unfolding measure_lines_from lines letters join_all
  lines_from [] y box x b = rw join_none_right
  lines_from (c ∷ cs) y box x b = lines_char cs (lines_from cs) y box x b c (eqb c 10)

  pub measure_lines_lem : (cs : List ℕ) → measure_lines answers a line_height origin cs ≡ dimensions (aligned answers answers line_height a origin cs)
  unfolding join_all
  measure_lines_lem cs = lines_from cs (pos 0) None (pos 0) None ∙ after_start (pos 0) None (lines cs)

-- aligned measuring answers with the box alone
abbrev pub box_alone : Outcome RenderedDimensions → Outcome BoundingBox
box_alone o = and_then o (λ d. success d.bounding_box)

pub box_of_layout_lem : (l : Layout) → box_of_layout l l.advance ≡ box_alone (dimensions l)
box_of_layout_lem l = by l.advance
  where
    by : (o : Outcome Point) → box_of_layout l o ≡ box_alone (dimensions_of (join_all l.glyphs) o)
    by (success p) = refl
    by (refused n c) = refl

-- ---- aligning Left is the plain layout

module _ (measured answers : ℕ → Answer) (line_height : ℕ) (origin : Point) where
  -- The same glyphs at the same places, and the same last advance or refusal, whatever its lines measure.
  pub left_is_plain : (cs : List ℕ) → aligned measured answers line_height Left origin cs ≡ layout answers line_height origin (point (pos 0) (pos 0)) cs
  left_is_plain cs = refl

module _ (answers : ℕ → Answer) (line_height : ℕ) (origin : Point) where
  -- so measuring line by line is plain measuring
  pub left_measures : (cs : List ℕ) → measure_lines answers Left line_height origin cs ≡ measure_from answers line_height origin start cs
  left_measures cs = measure_lines_lem answers Left line_height origin cs ∙ sym (measure_from_lem answers line_height origin cs start)

-- ---- one turn of each loop

module _ (answers : ℕ → Answer) (line_height : ℕ) (origin : Point) (d : RenderedDimensions) (c : ℕ) (cs : List ℕ) where
  pub measure_next : {next : RenderedDimensions} → step answers line_height origin d c ≡ success next
      → measure_from answers line_height origin d (c ∷ cs) ≡ measure_from answers line_height origin next cs
  unfolding measure_from
  measure_next e = rw e

  pub measure_stops : {n k : ℕ} → step answers line_height origin d c ≡ refused n k → measure_from answers line_height origin d (c ∷ cs) ≡ refused n k
  unfolding measure_from
  measure_stops e = rw e

  module _ (p : Framebuffer) (color : FontColor) (pixels_of : GlyphReader → List ℕ) (buffer : List ℕ) where
    pub draw_next : {next : RenderedDimensions} → step answers line_height origin d c ≡ success next
        → draw_from p color pixels_of answers line_height origin d buffer (c ∷ cs)
        ≡ draw_from p color pixels_of answers line_height origin next (step_shown p color pixels_of answers origin d c buffer) cs
    unfolding draw_from
    draw_next e = rw e

    stops_shown : {n k : ℕ} (t : Bool) (l : Answer) → pick t (success (newline_step line_height d)) (answer_step origin d l) ≡ refused n k
        → pick t buffer (answer_shown p color pixels_of origin d l buffer) ≡ buffer
    stops_shown true l e = refl
    stops_shown false (shows g) e = impossible cc
    stops_shown false nothing e = refl
    stops_shown false (stops n k) e = refl

    pub draw_stops : {n k : ℕ} → step answers line_height origin d c ≡ refused n k
        → draw_from p color pixels_of answers line_height origin d buffer (c ∷ cs) ≡ buffer
    unfolding draw_from
    draw_stops e = rw e (stops_shown (eqb c 10) (answers c) e)

module _ (answers : ℕ → Answer) (a : HorizontalAlignment) (line_height : ℕ) (origin : Point) (s : LineState) (c : ℕ) (cs : List ℕ) where
  pub lines_next : {next : LineState} → line_step answers a line_height origin s c ≡ success next
      → measure_lines_from answers a line_height origin s (c ∷ cs) ≡ measure_lines_from answers a line_height origin next cs
  unfolding measure_lines_from
  lines_next e = rw e

  pub lines_stop : {n k : ℕ} → line_step answers a line_height origin s c ≡ refused n k
      → measure_lines_from answers a line_height origin s (c ∷ cs) ≡ refused n k
  unfolding measure_lines_from
  lines_stop e = rw e

-- ---- letters of another font

-- The letters of the first that show a glyph, or nothing, show the same under the second.
pub record Follows (answers answers' : ℕ → Answer) : Type 0 where
  pub same : (c : ℕ) (g : GlyphReader) → answers c ≡ shows g → answers' c ≡ shows g
  pub skips : (c : ℕ) → answers c ≡ nothing → answers' c ≡ nothing

-- A letter that stops a line stops it wherever the line stands.
module _ (answers : ℕ → Answer) (origin origin' : Point) where
  abbrev Succeeds : Outcome Point → Type 0
  Succeeds o = (end : Point) × (o ≡ success end)

  succeeds_place : (advance advance' : Point) (l : List ℕ) (a : Answer)
      → ((next next' end : Point) → (letters answers origin next l).advance ≡ success end → Succeeds (letters answers origin' next' l).advance)
      → (end : Point) → (place origin advance a (λ next. letters answers origin next l)).advance ≡ success end
      → Succeeds (place origin' advance' a (λ next. letters answers origin' next l)).advance
  succeeds_place advance advance' l (shows g) rest end e = rest _ _ end e
  succeeds_place advance advance' l nothing rest end e = rest _ _ end e
  succeeds_place advance advance' l (stops n c) rest end e = impossible cc

  pub succeeds_there : (l : List ℕ) (advance advance' end : Point) → (letters answers origin advance l).advance ≡ success end
      → Succeeds (letters answers origin' advance' l).advance
  unfolding letters
  succeeds_there [] advance advance' end e = (advance', refl)
  succeeds_there (c ∷ l) advance advance' end e = succeeds_place advance advance' l (answers c) (succeeds_there l) end e

module _ {answers answers' : ℕ → Answer} (follows : Follows answers answers') (origin : Point) where
  -- what is to be shown of a line, from each advance
  abbrev Alike : List ℕ → Type 0
  Alike l =
      (advance end : Point) → (letters answers origin advance l).advance ≡ success end
      → letters answers' origin advance l ≡ letters answers origin advance l

  same_place : (l : List ℕ) → Alike l → (advance end : Point) (c : ℕ) (a : Answer) → answers c ≡ a
      → (place origin advance a (λ next. letters answers origin next l)).advance ≡ success end
      → place origin advance (answers' c) (λ next. letters answers' origin next l) ≡ place origin advance a (λ next. letters answers origin next l)
  same_place l rest advance end c (shows g) e k = rw (follows.same c g e, rest (point (advance.x +ℤ g.advance) advance.y) end k)
  same_place l rest advance end c nothing e k = rw (follows.skips c e, rest advance end k)
  same_place l rest advance end c (stops n d) e k = impossible cc

  same_letters : (l : List ℕ) → Alike l
  unfolding letters
  same_letters [] advance end k = refl
  same_letters (c ∷ l) advance end k = same_place l (same_letters l) advance end c (answers c) refl k

-- Lines that come to the same wherever the first ones succeed make the same text where that succeeds.
module _ (line line' : Point → List ℕ → Layout) (same : (advance : Point) (l : List ℕ) (end : Point) → (line advance l).advance ≡ success end → line' advance l ≡ line advance l)
    (line_height : ℕ) where
  same_lines : (ls : Lines) (advance end : Point) → (line_by_line line line_height advance ls).advance ≡ success end
      → line_by_line line' line_height advance ls ≡ line_by_line line line_height advance ls
  unfolding line_by_line
  same_lines (last l) advance end k = same advance l end k
  same_lines (first l ls) advance end k = by (same_lines ls) (line advance l).advance refl k
    where
      below : (Point → List ℕ → Layout) → Point → Layout
      below each next = line_by_line each line_height (newline line_height next) ls

      by : ((next end : Point) → (line_by_line line line_height next ls).advance ≡ success end → line_by_line line' line_height next ls ≡ line_by_line line line_height next ls)
          → (o : Outcome Point) → (line advance l).advance ≡ o
          → (then_lines (line advance l) o (below line)).advance ≡ success end
          → then_lines (line' advance l) (line' advance l).advance (below line') ≡ then_lines (line advance l) o (below line)
      by rest (success next) e k = rw (same advance l next e, e, rest (newline line_height next) end k)
      by rest (refused n c) e k = impossible cc

module _ {measured answers measured' answers' : ℕ → Answer} (m : Follows answers measured) (m' : Follows answers measured') (d : Follows answers answers') (origin : Point) where
  -- The line is measured alike, so it is moved alike.
  same_moved : (a : HorizontalAlignment) (advance : Point) (l : List ℕ) (o o' : Outcome Point)
      → (letters measured zero zero l).advance ≡ o → (letters measured' zero zero l).advance ≡ o' → (end : Point)
      → (with_offset a (letters measured zero zero l) o (λ x. letters answers (point (origin.x +ℤ x) origin.y) advance l)).advance ≡ success end
      → with_offset a (letters measured' zero zero l) o' (λ x. letters answers' (point (origin.x +ℤ x) origin.y) advance l)
      ≡ with_offset a (letters measured zero zero l) o (λ x. letters answers (point (origin.x +ℤ x) origin.y) advance l)
  same_moved a advance l (refused n c) o' e e' end k = impossible cc
  same_moved a advance l (success to) o' e e' end k =
      let there = point (origin.x +ℤ horizontal_offset a (join_all (letters measured zero zero l).glyphs) to.x) origin.y in
      let s = succeeds_there answers there zero l advance zero end k in
      let here : letters measured zero zero l ≡ letters answers zero zero l = same_letters m zero l zero s.0 s.1 in
      let also : letters measured' zero zero l ≡ letters measured zero zero l = same_letters m' zero l zero s.0 s.1 ∙ sym here in
      let is : success to ≡ o' = sym e ∙ ap (λ (k : Layout). k.advance) (sym also) ∙ e' in
      rw (sym is, also) (same_letters d there l advance end k)

  same_line : (a : HorizontalAlignment) (advance : Point) (l : List ℕ) (end : Point) → (aligned_line a measured answers origin advance l).advance ≡ success end
      → aligned_line a measured' answers' origin advance l ≡ aligned_line a measured answers origin advance l
  same_line Left advance l end k = same_letters d origin l advance end k
  same_line Center advance l end k = same_moved Center advance l _ _ refl refl end k
  same_line Right advance l end k = same_moved Right advance l _ _ refl refl end k

  -- So a text that ends in success under the first is laid out alike under the second, however it is aligned.
  pub same_aligned : (line_height : ℕ) (a : HorizontalAlignment) (cs : List ℕ) (end : Point) → (aligned measured answers line_height a origin cs).advance ≡ success end
      → aligned measured' answers' line_height a origin cs ≡ aligned measured answers line_height a origin cs
  same_aligned line_height a cs end k =
      same_lines (aligned_line a measured answers origin) (aligned_line a measured' answers' origin) (same_line a) line_height (lines cs) zero end k

-- ---- each glyph of a text

-- what is so of each element of a list
abbrev pub Each : {A : Type 0} → (A → Type 0) → List A → Type 0
Each P [] = Unit {0}
Each P (p ∷ ps) = P p × Each P ps

pub each_append : {A : Type 0} (P : A → Type 0) (ps qs : List A) → Each P ps → Each P qs → Each P (ps ++ qs)
each_append P [] qs h k = k
each_append P (p ∷ ps) qs h k = (h.0, each_append P ps qs h.1 k)

pub each_map : {A : Type 0} (P Q : A → Type 0) → ((a : A) → P a → Q a) → (ps : List A) → Each P ps → Each Q ps
each_map P Q f [] h = tt
each_map P Q f (p ∷ ps) h = (f p h.0, each_map P Q f ps h.1)

module _ (P : GlyphReader → Type 0) (measured answers : ℕ → Answer) (every : (c : ℕ) (g : GlyphReader) → answers c ≡ shows g → P g) (line_height : ℕ) (origin : Point) where
  abbrev Holds : Layout → Type 0
  Holds l = Each (λ p. P p.glyph) l.glyphs

  each_place : (at advance : Point) (c : ℕ) (rest : Point → Layout) → ((next : Point) → Holds (rest next)) → (a : Answer) → answers c ≡ a
      → Holds (place at advance a rest)
  each_place at advance c rest h (shows g) e = (every c g e, h (point (advance.x +ℤ g.advance) advance.y))
  each_place at advance c rest h nothing e = h advance
  each_place at advance c rest h (stops n k) e = tt

  each_letter : (at : Point) (l : List ℕ) (advance : Point) → Holds (letters answers at advance l)
  unfolding letters
  each_letter at [] advance = tt
  each_letter at (c ∷ l) advance = each_place at advance c (λ next. letters answers at next l) (each_letter at l) (answers c) refl

  each_moved : (a : HorizontalAlignment) (advance : Point) (l : List ℕ) (line : Layout) (o : Outcome Point)
      → Holds (with_offset a line o (λ x. letters answers (point (origin.x +ℤ x) origin.y) advance l))
  each_moved a advance l line (success end) = each_letter (point (origin.x +ℤ horizontal_offset a (join_all line.glyphs) end.x) origin.y) l advance
  each_moved a advance l line (refused n c) = tt

  each_aligned : (a : HorizontalAlignment) (advance : Point) (l : List ℕ) → Holds (aligned_line a measured answers origin advance l)
  each_aligned Left advance l = each_letter origin l advance
  each_aligned Center advance l = let line = letters measured zero zero l in each_moved Center advance l line line.advance
  each_aligned Right advance l = let line = letters measured zero zero l in each_moved Right advance l line line.advance

  each_then : (line : Layout) → Holds line → (rest : Point → Layout) → ((next : Point) → Holds (rest next)) → (o : Outcome Point)
      → Holds (then_lines line o rest)
  each_then line h rest k (success next) = each_append (λ p. P p.glyph) line.glyphs (rest next).glyphs h (k next)
  each_then line h rest k (refused n c) = h

  each_line : (a : HorizontalAlignment) (ls : Lines) (advance : Point) → Holds (line_by_line (aligned_line a measured answers origin) line_height advance ls)
  unfolding line_by_line
  each_line a (last l) advance = each_aligned a advance l
  each_line a (first l ls) advance =
      each_then (aligned_line a measured answers origin advance l) (each_aligned a advance l)
      (λ end. line_by_line (aligned_line a measured answers origin) line_height (newline line_height end) ls) (λ end. each_line a ls (newline line_height end))
      (aligned_line a measured answers origin advance l).advance

  -- What is so of each glyph that a letter shows is so of each glyph of the text.
  pub each_glyph : (a : HorizontalAlignment) (cs : List ℕ) → Each (λ p. P p.glyph) (aligned measured answers line_height a origin cs).glyphs
  each_glyph a cs = each_line a (lines cs) zero

-- what the default dimensions are
pub default_dimensions : {d : RenderedDimensions} → ((d.advance.x ≡ pos 0) × (d.advance.y ≡ pos 0)) × (d.bounding_box ≡ None) → d ≡ start
default_dimensions e = rw (e.0.0, e.0.1, e.1) refl
