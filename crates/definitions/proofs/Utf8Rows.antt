-- Unicode's table 3-7 of well-formed sequences: the row of a first byte, from its range and the other way.
-- Assumes nothing.
use Rattle.integers.proofs.Prelude.{◌≡◌, refl, ◌∙◌, Bool, true, false, ◌&&◌, List, [], ◌∷◌, ℕ, zero, suc, ◌≤◌, ◌<◌, dec_lt, arith, leb, take, drop}
use Rattle.integers.proofs.Prelude.{le-leb, lt-leb, leb-true}
use Rattle.integers.specs.Integers.{pick}
use Rattle.integers.proofs.Choices.{impossible}
use Rattle.definitions.specs.Utf8.{is_in, Row, one, two, three, four, none, TableRow, table, find_row, row_of}

-- ---- ranges of bytes

pub if_less : {P : Type 0} (m n : ℕ) → (m < n → P) → (n ≤ m → P) → P
if_less {P} m n p q = by (dec_lt m n)
  where
    by : Dec (m < n) → P
    by (yes h) = p h
    by (no h) = q (omega arith)

and_false : (t : Bool) → (t && false) ≡ false
and_false true = refl
and_false false = refl

pub both : (s t : Bool) → (s && t) ≡ true → (s ≡ true) × (t ≡ true)
both true true e = (refl, refl)
both true false e = impossible cc
both false t e = impossible cc

pub within : (from to b : ℕ) → from ≤ b → b ≤ to → is_in from to b ≡ true
within from to b p q = simp (le-leb from b p, le-leb b to q)

pub above : (from to b : ℕ) → to < b → is_in from to b ≡ false
above from to b p = simp (lt-leb b to p, and_false)

pub below : (from to b : ℕ) → b < from → is_in from to b ≡ false
below from to b p = simp (lt-leb from b p)

pub bounds : (from to b : ℕ) → is_in from to b ≡ true → (from ≤ b) × (b ≤ to)
bounds from to b e =
    let p = both (leb from b) (leb b to) e in
    (leb-true from b p.0, leb-true b to p.1)

-- ---- the rows of table 3-7

by_range : {A : Type 0} (P : A → Type 0) (from to b : ℕ) {x y : A} → (from ≤ b → b ≤ to → P x) → P y → P (pick (is_in from to b) x y)
by_range {A} P from to b {x} {y} p q = by (is_in from to b) refl
  where
    by : (t : Bool) → is_in from to b ≡ t → P (pick t x y)
    by true e = p (bounds from to b e).0 (bounds from to b e).1
    by false e = q

-- What holds of each row, given the range of its first byte, holds of the row of a.
pub by_rows : (P : Row → Type 0) (a : ℕ)
    → (0x00 ≤ a → a ≤ 0x7F → P one)
    → (0xC2 ≤ a → a ≤ 0xDF → P (two 0x80 0xBF))
    → (0xE0 ≤ a → a ≤ 0xE0 → P (three 0xA0 0xBF))
    → (0xE1 ≤ a → a ≤ 0xEC → P (three 0x80 0xBF))
    → (0xED ≤ a → a ≤ 0xED → P (three 0x80 0x9F))
    → (0xEE ≤ a → a ≤ 0xEF → P (three 0x80 0xBF))
    → (0xF0 ≤ a → a ≤ 0xF0 → P (four 0x90 0xBF))
    → (0xF1 ≤ a → a ≤ 0xF3 → P (four 0x80 0xBF))
    → (0xF4 ≤ a → a ≤ 0xF4 → P (four 0x80 0x8F))
    → P none
    → P (row_of a)
unfolding row_of table
by_rows P a p1 p2 p3 p4 p5 p6 p7 p8 p9 p0 =
    by_range P 0x00 0x7F a p1
    (by_range P 0xC2 0xDF a p2
    (by_range P 0xE0 0xE0 a p3
    (by_range P 0xE1 0xEC a p4
    (by_range P 0xED 0xED a p5
    (by_range P 0xEE 0xEF a p6
    (by_range P 0xF0 0xF0 a p7
    (by_range P 0xF1 0xF3 a p8
    (by_range P 0xF4 0xF4 a p9
    p0))))))))

-- .. and the other way, the row from a's range. Rows whose ranges end at m or before are passed by an a above m, and those
-- that begin at m or later are not met by an a below m; both are computed of the table.
end_by : ℕ → List TableRow → Bool
end_by m [] = true
end_by m (r ∷ rs) = leb r.to m && end_by m rs

begin_from : ℕ → List TableRow → Bool
begin_from m [] = true
begin_from m (r ∷ rs) = leb m r.from && begin_from m rs

module _ (a m : ℕ) where
  pass : (n : ℕ) (rs : List TableRow) → end_by m (take n rs) ≡ true → m < a → find_row a rs ≡ find_row a (drop n rs)
  unfolding end_by
  pass zero rs e h = refl
  pass (suc n) [] e h = refl
  pass (suc n) (r ∷ rs) e h =
      let p = both (leb r.to m) (end_by m (take n rs)) e in
      let l = leb-true r.to m p.0 in
      rw (above r.from r.to a (omega arith)) (pass n rs p.1 h)

  miss : (rs : List TableRow) → begin_from m rs ≡ true → a < m → find_row a rs ≡ none
  unfolding begin_from
  miss [] e h = refl
  miss (r ∷ rs) e h =
      let p = both (leb m r.from) (begin_from m rs) e in
      let l = leb-true m r.from p.0 in
      rw (below r.from r.to a (omega arith)) (miss rs p.1 h)

module _ (a : ℕ) where
  pub row_one : 0x00 ≤ a → a ≤ 0x7F → row_of a ≡ one
  unfolding row_of table
  row_one p q = simp (within 0x00 0x7F a p q)

  pub row_two : 0xC2 ≤ a → a ≤ 0xDF → row_of a ≡ two 0x80 0xBF
  unfolding row_of table end_by
  row_two p q = pass a 0x7F 1 table refl (omega arith) ∙ simp (within 0xC2 0xDF a p q)

  pub row_three_e0 : 0xE0 ≤ a → a ≤ 0xE0 → row_of a ≡ three 0xA0 0xBF
  unfolding row_of table end_by
  row_three_e0 p q = pass a 0xDF 2 table refl (omega arith) ∙ simp (within 0xE0 0xE0 a p q)

  pub row_three_e1 : 0xE1 ≤ a → a ≤ 0xEC → row_of a ≡ three 0x80 0xBF
  unfolding row_of table end_by
  row_three_e1 p q = pass a 0xE0 3 table refl (omega arith) ∙ simp (within 0xE1 0xEC a p q)

  pub row_three_ed : 0xED ≤ a → a ≤ 0xED → row_of a ≡ three 0x80 0x9F
  unfolding row_of table end_by
  row_three_ed p q = pass a 0xEC 4 table refl (omega arith) ∙ simp (within 0xED 0xED a p q)

  pub row_three_ee : 0xEE ≤ a → a ≤ 0xEF → row_of a ≡ three 0x80 0xBF
  unfolding row_of table end_by
  row_three_ee p q = pass a 0xED 5 table refl (omega arith) ∙ simp (within 0xEE 0xEF a p q)

  pub row_four_f0 : 0xF0 ≤ a → a ≤ 0xF0 → row_of a ≡ four 0x90 0xBF
  unfolding row_of table end_by
  row_four_f0 p q = pass a 0xEF 6 table refl (omega arith) ∙ simp (within 0xF0 0xF0 a p q)

  pub row_four_f1 : 0xF1 ≤ a → a ≤ 0xF3 → row_of a ≡ four 0x80 0xBF
  unfolding row_of table end_by
  row_four_f1 p q = pass a 0xF0 7 table refl (omega arith) ∙ simp (within 0xF1 0xF3 a p q)

  pub row_four_f4 : 0xF4 ≤ a → a ≤ 0xF4 → row_of a ≡ four 0x80 0x8F
  unfolding row_of table end_by
  row_four_f4 p q = pass a 0xF3 8 table refl (omega arith) ∙ simp (within 0xF4 0xF4 a p q)

  pub row_none_80 : 0x80 ≤ a → a ≤ 0xC1 → row_of a ≡ none
  unfolding row_of table end_by begin_from
  row_none_80 p q = pass a 0x7F 1 table refl (omega arith) ∙ miss a 0xC2 (drop 1 table) refl (omega arith)

  pub row_none_f5 : 0xF5 ≤ a → row_of a ≡ none
  unfolding row_of table end_by
  row_none_f5 p = pass a 0xF4 9 table refl (omega arith)
