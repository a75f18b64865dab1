-- The ranges of measuring line by line: a line, counted from its own start, stays near 0, and so does the place to which it is moved.
-- Assumes nothing.
use Rattle.integers.proofs.Prelude.{◌≡◌, refl, subst, Bool, true, false, List, ◌∷◌, ℕ, ◌+◌, ◌/◌, ◌≤◌, eqb, ℤ, pos, negsuc, ◌+ℤ◌, ◌-ℤ◌, ◌≤ℤ◌}
use Rattle.integers.proofs.Prelude.{w32, SFits}
use Rattle.integers.proofs.Choices.{impossible}
use Rattle.integers.specs.Integers.{pick, min_z}
use Rattle.integers.proofs.Laws.{zarith, plus, minus, neg, min_is, max_is}
use Rattle.definitions.specs.Vocabulary.{BoundingBox, None, Some, Point, GlyphReader, HorizontalAlignment}
use Rattle.types.specs.declared.style.HorizontalAlignment.TheVariants.{Left, Center, Right}
use Rattle.definitions.specs.Refusals.{success}
use Rattle.definitions.specs.Geometry.{left, span_length, join, SpanInReach, InReach}
use Rattle.definitions.specs.Text.{Answer, shows, nothing, stops, box_at, point, horizontal_offset}
use Rattle.definitions.specs.TextSteps.{next_box, glyph_step, moved_box, LineState, with_line, next_line, answer_of_line, line_step}
use Rattle.definitions.proofs.JoinLaws.{end, join_end, reach_join}
use Rattle.definitions.proofs.TextLaws.{either_box}
use Rattle.checks.specs.Origins.{Checked}
use Rattle.checks.proofs.OriginLaws.{as_line}
use Rattle.layout.specs.Ranges.{Near, Advanced, HasRoom, LineSpan, LineInReach, LineHasRoom}
use Rattle.layout.proofs.RangeLaws.{Small, advanced_y, near_row, advanced_newline, advanced_answer, advanced_nothing}

-- ---- boxes

span_in_reach : {a : ℤ} {m : ℕ} → LineSpan a m → SpanInReach a m
span_in_reach h = record { low = omega zarith; high = omega zarith }

pub line_in_reach : (b : BoundingBox) → LineInReach b → InReach b
line_in_reach None h = tt
line_in_reach (Some r) h = record { columns = span_in_reach h.columns; rows = span_in_reach h.rows }

join_span : {a b : ℤ} {m n : ℕ} → LineSpan a m → LineSpan b n → LineSpan (min_z a b) (span_length a b m n)
join_span {a} {b} {m} {n} h k =
    let e = join_end a b m n in
    record { low = omega (zarith, min_is a b); high = omega (zarith, max_is (end a m) (end b n)) }

pub line_join : (a b : BoundingBox) → LineInReach a → LineInReach b → LineInReach (join a b)
line_join None b h k = k
line_join (Some p) None h k = h
line_join (Some p) (Some q) h k = record { columns = join_span h.columns k.columns; rows = join_span h.rows k.rows }

pub start_fits : {a : ℤ} {m : ℕ} → LineSpan a m → SFits w32 a
start_fits {a} {m} h = omega (zarith, plus a (pos m))

pub moved_fits : {x a : ℤ} {m : ℕ} → Near x → LineSpan a m → SFits w32 (x +ℤ a)
moved_fits {x} {a} {m} n h = omega (zarith, plus a (pos m), plus x a)

moved_span : {x a : ℤ} {m : ℕ} → Near x → LineSpan a m → SpanInReach (x +ℤ a) m
moved_span {x} {a} {m} n h = record {
  low = omega (zarith, plus x a);
  high = omega (zarith, plus a (pos m), plus x a, plus (x +ℤ a) (pos m));
}

pub moved_in_reach : {x y : ℤ} (b : BoundingBox) → Near x → Near y → LineInReach b → InReach (moved_box x y b)
moved_in_reach None p q h = tt
moved_in_reach (Some r) p q h = record { columns = moved_span p h.columns; rows = moved_span q h.rows }

-- a glyph of the line, at the line's advance
glyph_span : {start : ℤ} {len : ℕ} → negsuc 1048575 ≤ℤ start → start ≤ℤ pos 1048000 → len ≤ 255 → LineSpan start len
glyph_span {start} {len} l r h = record { low = l; high = omega (zarith, plus start (pos len)) }

pub line_box : {x y : ℤ} (g : GlyphReader) → negsuc 524288 ≤ℤ x → x ≤ℤ pos 524288 → y ≡ pos 0 → Small g → LineInReach (box_at x y g)
line_box {x} {y} g l r z s =
    let a = s.x in
    let b = s.y in
    let h = s.height in
    let e = pos g.glyph_height +ℤ g.offset_y in
    either_box LineInReach x y g tt
    record {
      columns = glyph_span (omega (zarith, plus x g.offset_x)) (omega (zarith, plus x g.offset_x)) s.width;
      rows = glyph_span
          (omega (zarith, plus (pos g.glyph_height) g.offset_y, minus y e))
          (omega (zarith, plus (pos g.glyph_height) g.offset_y, minus y e)) h;
    }

-- ---- where a line is moved

pub offset_bounds : (a : HorizontalAlignment) (b : BoundingBox) (x : ℤ) → negsuc 1048575 ≤ℤ x → x ≤ℤ pos 1048575 → LineInReach b
    → (negsuc 1048576 ≤ℤ horizontal_offset a b x) × (horizontal_offset a b x ≤ℤ pos 1048577)
offset_bounds Left b x p q h = omega zarith
offset_bounds Center None x p q h = omega zarith
offset_bounds Center (Some r) x p q h =
    let k = h.columns in
    let m = pos (r.size.width / 2) +ℤ left r in
    omega (zarith, plus (left r) (pos r.size.width), plus (pos (r.size.width / 2)) (left r), neg m)
offset_bounds Right b x p q h = omega (zarith, minus x (pos 1), neg (x -ℤ pos 1))

module _ {origin : Point} {s : LineState} (room : LineHasRoom origin s) where
  pub x_near : Near s.line.advance.x
  x_near = let l = room.left in let r = room.right in record { low = omega zarith; high = omega zarith }

  pub column_near : (a : HorizontalAlignment) → Near (origin.x +ℤ horizontal_offset a s.line.bounding_box s.line.advance.x)
  column_near a =
      let o = offset_bounds a s.line.bounding_box s.line.advance.x room.left room.right room.line in
      let l = room.origin_left in
      let r = room.origin_right in
      let z = horizontal_offset a s.line.bounding_box s.line.advance.x in
      record { low = omega (zarith, plus origin.x z); high = omega (zarith, plus origin.x z) }

  pub with_line_in_reach : (a : HorizontalAlignment) → InReach (with_line a origin s)
  with_line_in_reach a = reach_join s.box _ room.box (moved_in_reach s.line.bounding_box (column_near a) room.row room.line)

  -- one more letter of the line
  pub answer_room : HasRoom (point (pos 0) (pos 0)) s.line
  answer_room =
      let x = x_near in
      let z = room.level in
      record {
        x = x;
        y = record { low = omega zarith; high = omega zarith };
        column = record { low = omega (zarith, plus (pos 0) s.line.advance.x); high = omega (zarith, plus (pos 0) s.line.advance.x) };
        row = record { low = omega (zarith, plus (pos 0) s.line.advance.y); high = omega (zarith, plus (pos 0) s.line.advance.y) };
        box = line_in_reach s.line.bounding_box room.line;
      }

-- ---- the lines after `at` bytes

pub record InLines (line_height at : ℕ) (rest : List ℕ) (s : LineState) : Type 0 where
  pub advance : Advanced line_height at rest s.line.advance.x s.y
  pub level : s.line.advance.y ≡ pos 0
  pub line : LineInReach s.line.bounding_box
  pub box : InReach s.box

module _ {line_height at : ℕ} {rest : List ℕ} {s : LineState} (h : at ≤ 4096) (w : InLines line_height at rest s) where
  pub line_has_room : {text : List ℕ} {origin : Point} → Checked text origin line_height → LineHasRoom origin s
  line_has_room k =
      let l = w.advance.left in
      let r = w.advance.right in
      let y = advanced_y h w.advance in
      record {
        left = omega zarith;
        right = omega zarith;
        level = w.level;
        line = w.line;
        y = record { low = omega zarith; high = omega zarith };
        box = w.box;
        origin_left = k.left;
        origin_right = k.right;
        row = near_row h w.advance (as_line k);
      }

  -- the line's box, with a glyph that comes next
  longer_in_reach : (g : GlyphReader) → Small g → LineInReach (join s.line.bounding_box (next_box (point (pos 0) (pos 0)) s.line g))
  longer_in_reach g q =
      let l = w.advance.left in
      let r = w.advance.right in
      let z = w.level in
      let x = s.line.advance.x in
      let y = s.line.advance.y in
      line_join s.line.bounding_box (next_box (point (pos 0) (pos 0)) s.line g) w.line
      (line_box {x = pos 0 +ℤ x} {y = pos 0 +ℤ y} g (omega (zarith, plus (pos 0) x)) (omega (zarith, plus (pos 0) x)) (omega (zarith, plus (pos 0) y)) q)

module _ {answers : ℕ → Answer} (small : (c : ℕ) (g : GlyphReader) → answers c ≡ shows g → Small g) (a : HorizontalAlignment) where
  module _ {line_height at c : ℕ} {cs : List ℕ} {s next : LineState} {origin : Point} {n : ℕ} (h : at ≤ 4096) (room : LineHasRoom origin s) (w : InLines line_height at (c ∷ cs) s) (some : 1 ≤ n) where
    pub in_lines_next : line_step answers a line_height origin s c ≡ success next → InLines line_height (at + n) cs next
    in_lines_next e = by (eqb c 10) refl (answers c) refl e
      where
        by : (t : Bool) → eqb c 10 ≡ t → (l : Answer) → answers c ≡ l
            → pick t (success (next_line a line_height origin s)) (answer_of_line s l) ≡ success next
            → InLines line_height (at + n) cs next
        by true p l f e =
            let same : next_line a line_height origin s ≡ next = cc in
            subst (InLines line_height (at + n) cs) same
            record { advance = advanced_newline some w.advance p; level = refl; line = tt; box = with_line_in_reach room a }
        by false p (shows g) f e =
            let q = small c g f in
            let longer : LineState = record { line = glyph_step (point (pos 0) (pos 0)) s.line g; y = s.y; box = s.box } in
            let same : longer ≡ next = cc in
            subst (InLines line_height (at + n) cs) same
            record { advance = advanced_answer some w.advance p q.advance; level = w.level; line = longer_in_reach h w g q; box = w.box }
        by false p nothing f e =
            let same : s ≡ next = cc in
            subst (InLines line_height (at + n) cs) same
            record { advance = advanced_nothing some w.advance p; level = w.level; line = w.line; box = w.box }
        by false p (stops m k) f e = impossible cc
