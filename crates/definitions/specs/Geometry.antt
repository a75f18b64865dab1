-- SPECIFICATION, Texts: boxes, when a pixel lies in one, and the join of two.
use Rattle.std.specs.Prelude.{ℕ, ℤ, pos, negsuc, nat_abs, ◌+ℤ◌, ◌-ℤ◌, ◌≤ℤ◌, ◌<ℤ◌}
use Rattle.integers.specs.Integers.{min_z, max_z}
use Rattle.definitions.specs.Vocabulary.{Rectangle, BoundingBox, None, Some}

-- the columns of a rectangle are left to right − 1, its rows top to bottom − 1
abbrev pub left : Rectangle → ℤ
left r = r.top_left.x

abbrev pub top : Rectangle → ℤ
top r = r.top_left.y

abbrev pub right : Rectangle → ℤ
right r = left r +ℤ pos r.size.width

abbrev pub bottom : Rectangle → ℤ
bottom r = top r +ℤ pos r.size.height

-- The pixel (column, row) lies in the rectangle.
pub record Inside (column row : ℤ) (r : Rectangle) : Type 0 where
  pub from_left : left r ≤ℤ column
  pub to_right : column <ℤ right r
  pub from_top : top r ≤ℤ row
  pub to_bottom : row <ℤ bottom r

-- .. in the box, which may be none
abbrev pub InsideBox : ℤ → ℤ → BoundingBox → Type 0
InsideBox column row None = ⊥
InsideBox column row (Some r) = Inside column row r

-- how far it is from the lesser of two starts to the greater of two ends
abbrev pub span_length : (a b : ℤ) (m n : ℕ) → ℕ
span_length a b m n = nat_abs (max_z (a +ℤ pos m) (b +ℤ pos n) -ℤ min_z a b)

abbrev pub join_rectangles : Rectangle → Rectangle → Rectangle
join_rectangles p q = record {
  top_left = record { x = min_z (left p) (left q); y = min_z (top p) (top q) };
  size = record {
    width = span_length (left p) (left q) p.size.width q.size.width;
    height = span_length (top p) (top q) p.size.height q.size.height;
  };
}

abbrev pub join : BoundingBox → BoundingBox → BoundingBox
join None b = b
join (Some p) None = Some p
join (Some p) (Some q) = Some (join_rectangles p q)

-- The reach of the code that joins boxes: every edge lies between −1,073,741,823 and 1,073,741,823, so that the difference of
-- two edges fits an i32. Whatever a call within limits draws or measures lies far inside.
pub record SpanInReach (start : ℤ) (len : ℕ) : Type 0 where
  pub low : negsuc 1073741822 ≤ℤ start
  pub high : (start +ℤ pos len) ≤ℤ pos 1073741823

pub record RectangleInReach (r : Rectangle) : Type 0 where
  pub columns : SpanInReach (left r) r.size.width
  pub rows : SpanInReach (top r) r.size.height

abbrev pub InReach : BoundingBox → Type 0
InReach None = Unit {0}
InReach (Some r) = RectangleInReach r
