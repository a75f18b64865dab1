-- Where a text stands moves its glyphs and its box, and changes nothing else. Assumes nothing.
use Rattle.integers.proofs.Prelude.{◌≡◌, refl, sym, ap, ◌∙◌, false, ◌||◌, List, [], ◌∷◌, map, map-append, ℕ, ◌*◌, ltb, ℤ, pos, ◌+ℤ◌}
use Rattle.integers.proofs.Laws.{zarith, plus}
use Rattle.integers.proofs.Choices.{impossible}
use Rattle.definitions.specs.Vocabulary.{BoundingBox, Point, RenderedDimensions, HorizontalAlignment}
use Rattle.types.specs.declared.style.HorizontalAlignment.TheVariants.{Left, Center, Right}
use Rattle.definitions.specs.Refusals.{Outcome, success, refused, any_applies}
use Rattle.definitions.specs.Text.{Answer, shows, nothing, stops, join_all, Layout, point, dimensions_of, dimensions, place, letters}
use Rattle.definitions.specs.Text.{Lines, last, first, lines, newline, then_lines, line_by_line, horizontal_offset, with_offset, aligned_line, aligned}
use Rattle.definitions.specs.TextSteps.{moved_box}
use Rattle.definitions.specs.VerticalOffset.{vertical_offset}
use Rattle.definitions.specs.Utf8.{newlines}
use Rattle.definitions.specs.Limits.{text_cause, coordinate_off, position_cause}
use Rattle.definitions.specs.Font.{Font, measured_answer}
use Rattle.definitions.specs.Calls.{Request, placed, request, code_points_of, origin, laid, measure_causes, measured_text, measure}
use Rattle.definitions.proofs.RefusalLaws.{or_false, none_applies, succeeded, NoneApplies, each_off, all_off, any_parts, parts_any}
use Rattle.definitions.proofs.TextLaws.{moved, join_all_moved}

sum_moved : (x a b : ℤ) → (x +ℤ a) +ℤ b ≡ x +ℤ (a +ℤ b)
sum_moved x a b = omega (zarith, plus x a, plus a b, plus (x +ℤ a) b, plus x (a +ℤ b))

module _ (x y : ℤ) where
  abbrev pub moved_point : Point → Point
  moved_point p = point (x +ℤ p.x) (y +ℤ p.y)

  abbrev pub moved_layout : Layout → Layout
  moved_layout l = record { glyphs = map (moved x y) l.glyphs; advance = l.advance }

  -- the advance is counted from the text's start, and stays
  abbrev pub moved_dimensions : Outcome RenderedDimensions → Outcome RenderedDimensions
  moved_dimensions (success d) = success record { advance = d.advance; bounding_box = moved_box x y d.bounding_box }
  moved_dimensions (refused n c) = refused n c

  by_advance : (box : BoundingBox) (o : Outcome Point) → dimensions_of (moved_box x y box) o ≡ moved_dimensions (dimensions_of box o)
  by_advance box (success a) = refl
  by_advance box (refused n c) = refl

  pub dimensions_moved : (l : Layout) → dimensions (moved_layout l) ≡ moved_dimensions (dimensions l)
  dimensions_moved l =
      ap (λ (b : BoundingBox). dimensions_of b l.advance) (join_all_moved x y l.glyphs)
      ∙ by_advance (join_all l.glyphs) l.advance

  module _ (answers : ℕ → Answer) where
    place_moved : (origin : Point) (l : List ℕ) (advance : Point) (a : Answer)
        → ((next : Point) → letters answers (moved_point origin) next l ≡ moved_layout (letters answers origin next l))
        → place (moved_point origin) advance a (λ next. letters answers (moved_point origin) next l)
        ≡ moved_layout (place origin advance a (λ next. letters answers origin next l))
    place_moved origin l advance (shows g) rest =
        rw (rest (point (advance.x +ℤ g.advance) advance.y), sum_moved x origin.x advance.x, sum_moved y origin.y advance.y)
    place_moved origin l advance nothing rest = rest advance
    place_moved origin l advance (stops n c) rest = refl

    letters_moved : (origin : Point) (l : List ℕ) (advance : Point) → letters answers (moved_point origin) advance l ≡ moved_layout (letters answers origin advance l)
    unfolding letters
    letters_moved origin [] advance = refl
    letters_moved origin (c ∷ l) advance = place_moved origin l advance (answers c) (letters_moved origin l)

  then_moved : (line : Layout) (o : Outcome Point) (rest there : Point → Layout) → ((next : Point) → there next ≡ moved_layout (rest next))
      → then_lines (moved_layout line) o there ≡ moved_layout (then_lines line o rest)
  then_moved line (success next) rest there h = rw (h next, map-append (moved x y) line.glyphs (rest next).glyphs)
  then_moved line (refused n c) rest there h = refl

  module _ (measured answers : ℕ → Answer) (line_height : ℕ) (a : HorizontalAlignment) (origin : Point) where
    -- a line's offset is counted from its start
    offset_moved : (b : HorizontalAlignment) (l : List ℕ) (advance : Point) (line : Layout) (o : Outcome Point)
        → with_offset b line o (λ z. letters answers (point ((x +ℤ origin.x) +ℤ z) (y +ℤ origin.y)) advance l)
        ≡ moved_layout (with_offset b line o (λ z. letters answers (point (origin.x +ℤ z) origin.y) advance l))
    offset_moved b l advance line (success end) =
        let z = horizontal_offset b (join_all line.glyphs) end.x in
        rw (sum_moved x origin.x z) (letters_moved answers (point (origin.x +ℤ z) origin.y) l advance)
    offset_moved b l advance line (refused n c) = refl

    abbrev there : HorizontalAlignment → Point → List ℕ → Layout
    there b advance l = aligned_line b measured answers (moved_point origin) advance l

    abbrev here : HorizontalAlignment → Point → List ℕ → Layout
    here b advance l = aligned_line b measured answers origin advance l

    line_moved : (b : HorizontalAlignment) (advance : Point) (l : List ℕ) → there b advance l ≡ moved_layout (here b advance l)
    line_moved Left advance l = letters_moved answers origin l advance
    line_moved Center advance l = let line = letters measured (point (pos 0) (pos 0)) (point (pos 0) (pos 0)) l in offset_moved Center l advance line line.advance
    line_moved Right advance l = let line = letters measured (point (pos 0) (pos 0)) (point (pos 0) (pos 0)) l in offset_moved Right l advance line line.advance

    lines_moved : (ls : Lines) (advance : Point) → line_by_line (there a) line_height advance ls ≡ moved_layout (line_by_line (here a) line_height advance ls)
    unfolding line_by_line
    lines_moved (last l) advance = line_moved a advance l
    lines_moved (first l ls) advance =
        rw (line_moved a advance l)
        (then_moved (here a advance l) (here a advance l).advance
        (λ end. line_by_line (here a) line_height (newline line_height end) ls)
        (λ end. line_by_line (there a) line_height (newline line_height end) ls)
        (λ end. lines_moved ls (newline line_height end)))

    pub aligned_moved : (cs : List ℕ) → aligned measured answers line_height a (moved_point origin) cs ≡ moved_layout (aligned measured answers line_height a origin cs)
    aligned_moved cs = lines_moved (lines cs) (point (pos 0) (pos 0))

-- ---- the calls

-- the same request at another place
abbrev pub at : Point → Request → Request
at position r = request r.text (placed position r.line_height r.skip) r.anchor r.align

module _ (x y : ℤ) (font : Font) (r : Request) where
  abbrev pub moved_request : Request
  moved_request = at (moved_point x y r.position) r

  origin_moved : origin font moved_request ≡ moved_point x y (origin font r)
  origin_moved =
      rw (sum_moved y r.position.y (vertical_offset r.anchor (pos (newlines (code_points_of r.text) * r.line_height)) font.ascent font.descent))

  pub text_moved : (measured answers : ℕ → Answer) → laid font moved_request measured answers ≡ moved_layout x y (laid font r measured answers)
  text_moved measured answers = rw origin_moved (aligned_moved x y measured answers r.line_height r.align (origin font r) (code_points_of r.text))

  -- Measuring at a place moved is measuring, moved, where both places are within the limits.
  pub measure_moved : any_applies (measure_causes font r) ≡ false → any_applies (measure_causes font moved_request) ≡ false
      → measure font moved_request ≡ moved_dimensions x y (measure font r)
  unfolding measure
  measure_moved here there =
      none_applies _ (measure_causes font moved_request) there
      ∙ ap dimensions (text_moved (measured_answer font r.skip) (measured_answer font r.skip))
      ∙ dimensions_moved x y (measured_text font r)
      ∙ ap (moved_dimensions x y) (sym (none_applies _ (measure_causes font r) here))

-- So a text that is measured somewhere is measured at (0, 0), and its box is that one moved.
module _ (font : Font) (r : Request) (d : RenderedDimensions) where
  abbrev zero : Point
  zero = point (pos 0) (pos 0)

  there_is : moved_request r.position.x r.position.y font (at zero r) ≡ r
  there_is = rw (plus_zero r.position.x, plus_zero r.position.y)
    where
      plus_zero : (z : ℤ) → z +ℤ pos 0 ≡ z
      plus_zero z = omega (zarith, plus z (pos 0))

  abbrev AtZero : Outcome RenderedDimensions → Type 0
  AtZero o =
      (e : RenderedDimensions)
      × ((o ≡ success e) × (d.bounding_box ≡ moved_box r.position.x r.position.y e.bounding_box))

  unmoved : (o : Outcome RenderedDimensions) → success d ≡ moved_dimensions r.position.x r.position.y o → AtZero o
  unmoved (success e) h =
      let same : d ≡ record { advance = e.advance; bounding_box = moved_box r.position.x r.position.y e.bounding_box } = cc in
      (e, (refl, ap (λ (z : RenderedDimensions). z.bounding_box) same))
  unmoved (refused n c) h = impossible cc

  -- the causes at (0, 0), where none applies elsewhere
  pub zero_off : any_applies (measure_causes font r) ≡ false → any_applies (measure_causes font (at zero r)) ≡ false
  zero_off e =
      let k = any_parts font.causes _ e in
      let o = each_off (text_cause r.text ∷ position_cause r.position r.line_height ∷ []) k.1 in
      let low = (or_false (coordinate_off r.position.x || coordinate_off r.position.y) (ltb 65535 r.line_height) o.1.0).1 in
      let all : NoneApplies (text_cause r.text ∷ position_cause zero r.line_height ∷ []) = (o.0, (low, tt)) in
      parts_any font.causes _ k.0 (all_off (text_cause r.text ∷ position_cause zero r.line_height ∷ []) all)

  pub measured_at_zero_lem : measure font r ≡ success d → AtZero (measure font (at zero r))
  unfolding measure
  measured_at_zero_lem h =
      let s = succeeded (dimensions (measured_text font r)) d (measure_causes font r) h in
      unmoved (measure font (at zero r))
      (sym h ∙ ap (measure font) (sym there_is)
      ∙ measure_moved r.position.x r.position.y font (at zero r) (zero_off s.0)
      (ap (λ (q : Request). any_applies (measure_causes font q)) there_is ∙ s.0))
