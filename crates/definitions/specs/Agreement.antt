-- SPECIFICATION, Agreement, clause by clause: two drawings of one text, and the measuring of that text with both fonts, agree.
-- `TwoDrawings` is what is supposed, `Agree` what is claimed. It speaks of what four calls come to: proofs/Agreement.antt proves it
-- of the definitions, and crate agreement of the calls themselves. The request's alignment is any of the three; a plain call asks
-- for Left. Plain calls answer with an advance and a box, aligned ones with a box alone (request A2).
use Rattle.std.specs.Prelude.{◌≡◌, false, List, [], ◌∷◌, ◌++◌, ℕ, ◌≤◌, ◌<◌, pos}
use Rattle.definitions.specs.Vocabulary.{Framebuffer, BoundingBox, RenderedDimensions, FontColor}
use Rattle.definitions.specs.Refusals.{Outcome, success, Cause, any_applies}
use Rattle.definitions.specs.Geometry.{InsideBox}
use Rattle.definitions.specs.Font.{Font, u8g2}
use Rattle.definitions.specs.Framebuffer.{pixel_at, framebuffer_cause}
use Rattle.definitions.specs.Limits.{text_cause, position_cause}
use Rattle.definitions.specs.Calls.{Request, measure, measure_aligned, draw, draw_buffer, draw_aligned}

-- What is drawn on: a framebuffer, and what it held before.
pub record Ground : Type 0 where
  pub framebuffer : Framebuffer
  pub before : List ℕ

abbrev pub on : Framebuffer → List ℕ → Ground
on p before = record { framebuffer = p; before = before }

-- Causes 1 to 5 of drawing: the limits of fonts, framebuffers, texts, and of places and line heights.
abbrev pub limits : Font → Request → Ground → List Cause
limits font r p =
    font.causes
    ++ framebuffer_cause p.framebuffer p.before
    ∷ text_cause r.text
    ∷ position_cause r.position r.line_height
    ∷ []

abbrev pub WithinLimits : Font → Request → Ground → Type 0
WithinLimits font r p = any_applies (limits font r p) ≡ false

abbrev pub drawn : Font → Request → FontColor → Ground → Outcome RenderedDimensions
drawn font r color p = draw font r color p.framebuffer p.before

abbrev pub after : Font → Request → FontColor → Ground → List ℕ
after font r color p = draw_buffer font r color p.framebuffer p.before

-- the pixel of a framebuffer's bytes, and how many columns and rows there are
abbrev pub pixel : Ground → List ℕ → ℕ → ℕ → ℕ
pixel p bytes column row = pixel_at p.framebuffer bytes column row

abbrev pub width : Ground → ℕ
width p = p.framebuffer.width

abbrev pub height : Ground → ℕ
height p = p.framebuffer.height

-- What the four calls come to: the answers, and what the two framebuffers then hold.
pub record Results (A : Type 0) : Type 0 where
  pub first : Outcome A
  pub second : Outcome A
  pub first_measured : Outcome A
  pub second_measured : Outcome A
  pub first_after : List ℕ
  pub second_after : List ℕ

-- by the definitions, for any two fonts and framebuffers
abbrev pub results : Font → Font → Request → FontColor → Ground → Ground → Results RenderedDimensions
results f g r color p q = record {
  first = drawn f r color p;
  second = drawn g r color q;
  first_measured = measure f r;
  second_measured = measure g r;
  first_after = after f r color p;
  second_after = after g r color q;
}

-- .. and for aligned calls
abbrev pub aligned_results : Font → Font → Request → FontColor → Ground → Ground → Results BoundingBox
aligned_results f g r color p q = record {
  first = draw_aligned f r color p.framebuffer p.before;
  second = draw_aligned g r color q.framebuffer q.before;
  first_measured = measure_aligned f r;
  second_measured = measure_aligned g r;
  first_after = after f r color p;
  second_after = after g r color q;
}

abbrev pub plain_box : RenderedDimensions → BoundingBox
plain_box d = d.bounding_box

abbrev pub aligned_box : BoundingBox → BoundingBox
aligned_box b = b

-- Both drawings are within limits, and no letter is skipped; the second font is the first with any bytes, or none, added at its
-- end; the second framebuffer is of the same format and at least as wide and high. What the framebuffers held before is not restricted.
pub record TwoDrawings (first_font second_font : List ℕ) (r : Request) (p q : Ground) : Type 0 where
  pub first_within : WithinLimits (u8g2 first_font) r p
  pub second_within : WithinLimits (u8g2 second_font) r q
  pub no_skips : r.skip ≡ false
  pub more : List ℕ
  pub longer : second_font ≡ first_font ++ more
  pub same_format : q.framebuffer.format ≡ p.framebuffer.format
  pub as_wide : width p ≤ width q
  pub as_high : height p ≤ height q

-- No pixel outside the box changes, nor any where there is none: `InsideBox` of none never holds.
abbrev pub KeptOutside : Ground → List ℕ → BoundingBox → Type 0
KeptOutside p bytes box =
    (column row : ℕ) → column < width p → row < height p
    → (InsideBox (pos column) (pos row) box → ⊥)
    → pixel p bytes column row ≡ pixel p p.before column row

-- `box_in` is the box in an answer.
pub record Agree {A : Type 0} (box_in : A → BoundingBox) (p q : Ground) (c : Results A) (d : A) : Type 0 where
  -- the second succeeds, with the same answer
  pub second_succeeds : c.second ≡ success d
  -- measuring succeeds with either font, with exactly that
  pub first_measures : c.first_measured ≡ success d
  pub second_measures : c.second_measured ≡ success d
  -- every pixel that lies in both, as each of the first does, and began alike ends alike
  pub alike : (column row : ℕ) → column < width p → row < height p
      → pixel p p.before column row ≡ pixel q q.before column row
      → pixel p c.first_after column row ≡ pixel q c.second_after column row
  -- no pixel outside the box changes in either
  pub first_kept : KeptOutside p c.first_after (box_in d)
  pub second_kept : KeptOutside q c.second_after (box_in d)

-- If the first drawing succeeds, with an advance and a box or none, or with the box or none alone, all of them agree on that.
abbrev pub MeasuredAsDrawn : {A : Type 0} → (A → BoundingBox) → List ℕ → List ℕ → Request → Ground → Ground → Results A → Type 0
MeasuredAsDrawn {A} box_in first_font second_font r p q c =
    TwoDrawings first_font second_font r p q → (d : A) → c.first ≡ success d → Agree box_in p q c d
