-- How far from 0 the numbers lie that the functions inside are handed. Calls within limits stay far inside.
use Rattle.std.specs.Prelude.{◌≡◌, List, ℕ, ◌*◌, ℤ, pos, negsuc, ◌+ℤ◌, ◌≤ℤ◌}
use Rattle.definitions.specs.Vocabulary.{Point, BoundingBox, None, Some, Rectangle, RenderedDimensions, GlyphReader}
use Rattle.definitions.specs.Geometry.{left, top, InReach}
use Rattle.definitions.specs.Utf8.{newlines}
use Rattle.definitions.specs.TextSteps.{next_box, LineState}

-- less than 2 to the power 29: sums of two such numbers fit an i32
-- (It stays a clause, of a plain i32: a type around it would be taken off for each sum, which need not be near, and made anew.)
pub record Near (z : ℤ) : Type 0 where
  pub low : negsuc 536870910 ≤ℤ z
  pub high : z ≤ℤ pos 536870911

-- the advance after `at` bytes, `rest` being the code points to come
pub record Advanced (line_height at : ℕ) (rest : List ℕ) (x y : ℤ) : Type 0 where
  pub left : negsuc (128 * at) ≤ℤ x
  pub right : x ≤ℤ pos (128 * at)
  pub top : pos 0 ≤ℤ y
  pub bottom : (y +ℤ pos (newlines rest * line_height)) ≤ℤ pos 268431360

-- the dimensions so far
pub record Within (line_height at : ℕ) (rest : List ℕ) (d : RenderedDimensions) : Type 0 where
  pub advance : Advanced line_height at rest d.advance.x d.advance.y
  pub box : InReach d.bounding_box

-- the dimensions so far leave room for one more letter
-- (It stays a clause, of two values: a text has one origin and new dimensions after each letter, and other calls answer with these.)
pub record HasRoom (origin : Point) (d : RenderedDimensions) : Type 0 where
  pub x : Near d.advance.x
  pub y : Near d.advance.y
  pub column : Near (origin.x +ℤ d.advance.x)
  pub row : Near (origin.y +ℤ d.advance.y)
  pub box : InReach d.bounding_box

-- The box of a glyph at the advance so far, in reach.
pub record NextBox (origin : Point) (d : RenderedDimensions) (g : GlyphReader) (b : BoundingBox) : Type 0 where
  pub is : b ≡ next_box origin d g
  pub reach : InReach b

-- ---- measuring line by line: a line, counted from its own start

pub record LineSpan (start : ℤ) (len : ℕ) : Type 0 where
  pub low : negsuc 1048575 ≤ℤ start
  pub high : (start +ℤ pos len) ≤ℤ pos 1048576

pub record LineRectangle (r : Rectangle) : Type 0 where
  pub columns : LineSpan (left r) r.size.width
  pub rows : LineSpan (top r) r.size.height

abbrev pub LineInReach : BoundingBox → Type 0
LineInReach None = Unit {0}
LineInReach (Some r) = LineRectangle r

-- the lines so far leave room for one more letter, and the line may end here
-- (It stays a clause, of two values, as HasRoom: the origin stays, and the lines so far are made anew with each letter.)
pub record LineHasRoom (origin : Point) (s : LineState) : Type 0 where
  pub left : negsuc 1048575 ≤ℤ s.line.advance.x
  pub right : s.line.advance.x ≤ℤ pos 1048575
  pub level : s.line.advance.y ≡ pos 0
  pub line : LineInReach s.line.bounding_box
  pub y : Near s.y
  pub box : InReach s.box
  pub origin_left : negsuc 1048575 ≤ℤ origin.x
  pub origin_right : origin.x ≤ℤ pos 1048576
  pub row : Near (origin.y +ℤ s.y)
