-- Joining bounding boxes is associative and commutative, none is neutral, the joined box contains both and is the smallest that
-- does, boxes within reach join to one within reach, and boxes that are moved join to the joined box moved. The laws of one dimension come first: a span is a start and a length,
-- and a rectangle is a span of columns and a span of rows. Assumes nothing.
use Rattle.integers.proofs.Prelude.{◌≡◌, refl, ap, subst, ℕ, ◌≤◌, ℤ, pos, ◌+ℤ◌, ◌-ℤ◌, ◌≤ℤ◌, ◌<ℤ◌}
use Rattle.definitions.specs.Vocabulary.{Rectangle, BoundingBox, None, Some}
use Rattle.integers.specs.Integers.{min_z, max_z}
use Rattle.integers.proofs.Laws.{zarith, up, down, plus, minus, min_is, max_is, whole}
use Rattle.definitions.specs.Geometry.{left, top, Inside, InsideBox, span_length, join_rectangles, join, SpanInReach, InReach}
use Rattle.definitions.specs.TextSteps.{moved_rectangle, moved_box}

-- ---- the lesser and the greater

min_comm : (a b : ℤ) → min_z a b ≡ min_z b a
min_comm a b = omega (zarith, min_is a b, min_is b a)

max_comm : (a b : ℤ) → max_z a b ≡ max_z b a
max_comm a b = omega (zarith, max_is a b, max_is b a)

min_assoc : (a b c : ℤ) → min_z (min_z a b) c ≡ min_z a (min_z b c)
min_assoc a b c = omega (zarith, min_is a b, min_is (min_z a b) c, min_is b c, min_is a (min_z b c))

max_assoc : (a b c : ℤ) → max_z (max_z a b) c ≡ max_z a (max_z b c)
max_assoc a b c = omega (zarith, max_is a b, max_is (max_z a b) c, max_is b c, max_is a (max_z b c))

-- ---- spans

abbrev pub end : ℤ → ℕ → ℤ
end a m = a +ℤ pos m

abbrev In : ℤ → ℤ → ℕ → Type 0
In x a m = (a ≤ℤ x) × (x <ℤ end a m)

module _ (a b : ℤ) (m n : ℕ) where
  pub length_nonneg : down (max_z (end a m) (end b n) -ℤ min_z a b) ≤ up (max_z (end a m) (end b n) -ℤ min_z a b)
  length_nonneg = omega (zarith, minus (max_z (end a m) (end b n)) (min_z a b), max_is (end a m) (end b n), min_is a b, plus a (pos m), plus b (pos n))

  -- the joined span ends where the later of the two ends
  pub join_end : end (min_z a b) (span_length a b m n) ≡ max_z (end a m) (end b n)
  join_end =
      let e = whole (max_z (end a m) (end b n) -ℤ min_z a b) length_nonneg in
      omega (zarith, minus (max_z (end a m) (end b n)) (min_z a b), plus (min_z a b) (pos (span_length a b m n)))

  length_comm : span_length a b m n ≡ span_length b a n m
  length_comm = rw (min_comm a b, max_comm (end a m) (end b n))

  span_contains : {x : ℤ} → In x a m → In x (min_z a b) (span_length a b m n)
  span_contains h = rw join_end (omega (zarith, min_is a b), omega (zarith, max_is (end a m) (end b n)))

  -- what starts no later than both and ends no sooner contains the joined span
  span_smallest : {s e x : ℤ} → s ≤ℤ a → s ≤ℤ b → end a m ≤ℤ e → end b n ≤ℤ e → In x (min_z a b) (span_length a b m n) → (s ≤ℤ x) × (x <ℤ e)
  span_smallest p q u v h = let k = join_end in (omega (zarith, min_is a b), omega (zarith, max_is (end a m) (end b n)))

length_assoc : (a b c : ℤ) (m n o : ℕ) → span_length (min_z a b) c (span_length a b m n) o ≡ span_length a (min_z b c) m (span_length b c n o)
length_assoc a b c m n o = rw (join_end a b m n, join_end b c n o, min_assoc a b c, max_assoc (end a m) (end b n) (end c o))

-- the last place of a span
abbrev last : ℤ → ℕ → ℤ
last a m = end a m -ℤ pos 1

module _ (a : ℤ) (m : ℕ) where
  first_in : 1 ≤ m → In a a m
  first_in h = omega (zarith, plus a (pos m))

  last_in : 1 ≤ m → In (last a m) a m
  last_in h = omega (zarith, plus a (pos m), minus (end a m) (pos 1))

  past_last : {e : ℤ} → last a m <ℤ e → end a m ≤ℤ e
  past_last h = omega (zarith, minus (end a m) (pos 1))

-- ---- rectangles

abbrev width : Rectangle → ℕ
width r = r.size.width

abbrev height : Rectangle → ℕ
height r = r.size.height

inside : (r : Rectangle) {column row : ℤ} → In column (left r) (width r) → In row (top r) (height r) → Inside column row r
inside r x y = record { from_left = x.0; to_right = x.1; from_top = y.0; to_bottom = y.1 }

rectangles_comm : (p q : Rectangle) → join_rectangles p q ≡ join_rectangles q p
rectangles_comm p q = cc (min_comm (left p) (left q), min_comm (top p) (top q), length_comm (left p) (left q) (width p) (width q), length_comm (top p) (top q) (height p) (height q))

rectangles_assoc : (p q r : Rectangle) → join_rectangles (join_rectangles p q) r ≡ join_rectangles p (join_rectangles q r)
rectangles_assoc p q r =
    cc (
      min_assoc (left p) (left q) (left r),
      min_assoc (top p) (top q) (top r),
      length_assoc (left p) (left q) (left r) (width p) (width q) (width r),
      length_assoc (top p) (top q) (top r) (height p) (height q) (height r),
    )

rectangles_contain : (p q : Rectangle) {column row : ℤ} → Inside column row p → Inside column row (join_rectangles p q)
rectangles_contain p q h =
    inside (join_rectangles p q)
    (span_contains (left p) (left q) (width p) (width q) (h.from_left, h.to_right))
    (span_contains (top p) (top q) (height p) (height q) (h.from_top, h.to_bottom))

-- the rectangle has a cell
pub record HasCell (r : Rectangle) : Type 0 where
  pub wide : 1 ≤ r.size.width
  pub high : 1 ≤ r.size.height

-- each cell of p lies in c
abbrev pub Within : Rectangle → Rectangle → Type 0
Within p c = (column row : ℤ) → Inside column row p → Inside column row c

module _ (r c : Rectangle) (some : HasCell r) (within : Within r c) where
  first_cell : Inside (left r) (top r) c
  first_cell = within _ _ (inside r (first_in (left r) (width r) some.wide) (first_in (top r) (height r) some.high))

  last_cell : Inside (last (left r) (width r)) (last (top r) (height r)) c
  last_cell = within _ _ (inside r (last_in (left r) (width r) some.wide) (last_in (top r) (height r) some.high))

-- The joined rectangle is the smallest over both. A rectangle without a cell lies in every c, and the joined one reaches to it
-- all the same: so both must have a cell.
pub join_smallest : (p q c : Rectangle) → HasCell p → HasCell q → Within p c → Within q c → Within (join_rectangles p q) c
join_smallest p q c s t h k column row i =
    let f = first_cell p c s h in
    let g = first_cell q c t k in
    let u = last_cell p c s h in
    let v = last_cell q c t k in
    inside c
    (span_smallest (left p) (left q) (width p) (width q) f.from_left g.from_left
    (past_last (left p) (width p) u.to_right) (past_last (left q) (width q) v.to_right) (i.from_left, i.to_right))
    (span_smallest (top p) (top q) (height p) (height q) f.from_top g.from_top
    (past_last (top p) (height p) u.to_bottom) (past_last (top q) (height q) v.to_bottom) (i.from_top, i.to_bottom))

-- ---- boxes

pub join_none_left : (a : BoundingBox) → join None a ≡ a
join_none_left a = refl

pub join_none_right : (a : BoundingBox) → join a None ≡ a
join_none_right None = refl
join_none_right (Some p) = refl

pub join_comm : (a b : BoundingBox) → join a b ≡ join b a
join_comm None None = refl
join_comm None (Some q) = refl
join_comm (Some p) None = refl
join_comm (Some p) (Some q) = ap Some (rectangles_comm p q)

pub join_assoc : (a b c : BoundingBox) → join (join a b) c ≡ join a (join b c)
join_assoc None b c = refl
join_assoc (Some p) None c = refl
join_assoc (Some p) (Some q) None = refl
join_assoc (Some p) (Some q) (Some r) = ap Some (rectangles_assoc p q r)

module _ (column row : ℤ) where
  pub join_contains_left : (a b : BoundingBox) → InsideBox column row a → InsideBox column row (join a b)
  join_contains_left None b h = absurd h
  join_contains_left (Some p) None h = h
  join_contains_left (Some p) (Some q) h = rectangles_contain p q h

  pub join_contains_right : (a b : BoundingBox) → InsideBox column row b → InsideBox column row (join a b)
  join_contains_right a b h = subst (InsideBox column row) (join_comm b a) (join_contains_left b a h)

-- ---- the reach

reach_span : {a b : ℤ} {m n : ℕ} → SpanInReach a m → SpanInReach b n → SpanInReach (min_z a b) (span_length a b m n)
reach_span {a} {b} {m} {n} h k =
    let e = join_end a b m n in
    record { low = omega (zarith, min_is a b); high = omega (zarith, max_is (end a m) (end b n)) }

pub reach_join : (a b : BoundingBox) → InReach a → InReach b → InReach (join a b)
reach_join None b h k = k
reach_join (Some p) None h k = h
reach_join (Some p) (Some q) h k = record { columns = reach_span h.columns k.columns; rows = reach_span h.rows k.rows }

-- ---- moving

module _ (x a b : ℤ) where
  min_moved : min_z (x +ℤ a) (x +ℤ b) ≡ x +ℤ min_z a b
  min_moved = omega (zarith, min_is a b, min_is (x +ℤ a) (x +ℤ b), plus x a, plus x b, plus x (min_z a b))

  max_moved : max_z (x +ℤ a) (x +ℤ b) ≡ x +ℤ max_z a b
  max_moved = omega (zarith, max_is a b, max_is (x +ℤ a) (x +ℤ b), plus x a, plus x b, plus x (max_z a b))

  difference_moved : (x +ℤ a) -ℤ (x +ℤ b) ≡ a -ℤ b
  difference_moved = omega (zarith, plus x a, plus x b, minus a b, minus (x +ℤ a) (x +ℤ b))

end_moved : (x a : ℤ) (m : ℕ) → end (x +ℤ a) m ≡ x +ℤ end a m
end_moved x a m = omega (zarith, plus x a, plus a (pos m), plus (x +ℤ a) (pos m), plus x (end a m))

length_moved : (x a b : ℤ) (m n : ℕ) → span_length (x +ℤ a) (x +ℤ b) m n ≡ span_length a b m n
length_moved x a b m n =
    rw (end_moved x a m, end_moved x b n, max_moved x (end a m) (end b n), min_moved x a b, difference_moved x (max_z (end a m) (end b n)) (min_z a b))

rectangles_moved : (x y : ℤ) (p q : Rectangle) → join_rectangles (moved_rectangle x y p) (moved_rectangle x y q) ≡ moved_rectangle x y (join_rectangles p q)
rectangles_moved x y p q =
    cc (min_moved x (left p) (left q), min_moved y (top p) (top q), length_moved x (left p) (left q) (width p) (width q), length_moved y (top p) (top q) (height p) (height q))

pub join_moved : (x y : ℤ) (a b : BoundingBox) → join (moved_box x y a) (moved_box x y b) ≡ moved_box x y (join a b)
join_moved x y None b = refl
join_moved x y (Some p) None = refl
join_moved x y (Some p) (Some q) = ap Some (rectangles_moved x y p q)
