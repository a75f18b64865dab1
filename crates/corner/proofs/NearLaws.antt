-- How far the letters of a line reach from where they begin, and what that says of their box. Assumes nothing.
use Rattle.integers.proofs.Prelude.{◌≡◌, refl, subst, Bool, true, false, ◌||◌, List, [], ◌∷◌, ℕ, suc, ◌+◌, ◌*◌, ◌≤◌, arith, eqb, ℤ, pos, ◌+ℤ◌, length}
use Rattle.integers.proofs.Prelude.{eqb-false}
use Rattle.integers.proofs.Choices.{impossible}
use Rattle.integers.specs.Integers.{pick, min_z}
use Rattle.integers.proofs.Laws.{zarith, up, down, plus, minus, min_is, max_is}
use Rattle.definitions.specs.Vocabulary.{BoundingBox, None, Some, Point, Rectangle, GlyphReader}
use Rattle.definitions.specs.Refusals.{success}
use Rattle.definitions.specs.Geometry.{left, top, right, span_length, join}
use Rattle.definitions.specs.Text.{Answer, shows, nothing, stops, box_at, join_all, Layout, point, place, letters}
use Rattle.definitions.proofs.RefusalLaws.{or_false}
use Rattle.definitions.proofs.JoinLaws.{HasCell, end, join_end}
use Rattle.definitions.proofs.GlyphLaws.{InRange}
use Rattle.definitions.proofs.BitsLaws.{SignedByte}
use Rattle.definitions.proofs.TextLaws.{rectangle_at}

-- ---- boxes

-- −m ≤ z ≤ n, as `omega` reads it
abbrev pub Between : ℕ → ℕ → ℤ → Type 0
Between m n z = (down z ≤ up z + m) × (up z ≤ down z + n)

-- columns from −m on to before n, a first row within the limits for places, and a pixel
pub record Near (m n : ℕ) (r : Rectangle) : Type 0 where
  pub from_left : down (left r) ≤ up (left r) + m
  pub to_right : up (right r) ≤ down (right r) + n
  pub from_top : Between 1048576 1048576 (top r)
  pub some : HasCell r

abbrev pub NearBox : ℕ → ℕ → BoundingBox → Type 0
NearBox m n None = Unit {0}
NearBox m n (Some r) = Near m n r

join_some : (a b : ℤ) (m n : ℕ) → 1 ≤ m → 1 ≤ span_length a b m n
join_some a b m n h =
    let e = join_end a b m n in
    omega (zarith, plus (min_z a b) (pos (span_length a b m n)), plus a (pos m), min_is a b, max_is (end a m) (end b n))

pub near_join : (m n : ℕ) (a b : BoundingBox) → NearBox m n a → NearBox m n b → NearBox m n (join a b)
near_join m n None b h k = k
near_join m n (Some p) None h k = h
near_join m n (Some p) (Some q) h k =
    let e = join_end (left p) (left q) p.size.width q.size.width in
    record {
      from_left = omega (zarith, min_is (left p) (left q));
      to_right = omega (zarith, max_is (right p) (right q));
      from_top = omega (zarith, min_is (top p) (top q));
      some = record {
        wide = join_some (left p) (left q) p.size.width q.size.width h.some.wide;
        high = join_some (top p) (top q) p.size.height q.size.height h.some.high;
      };
    }

-- ---- letters

-- From x on there is room for k letters between −m and n: each advances by −128 to 127, and is at most 255 wide.
abbrev pub Room : ℕ → ℕ → ℕ → ℤ → Type 0
Room m n k x = (down x + 128 * k ≤ up x + m) × (up x + 127 * k + 255 ≤ down x + n)

-- where a line of a text of at most 4,096 characters may stand
abbrev pub Level : ℤ → Type 0
Level y = Between 0 524288 y

module _ (m n k : ℕ) where
  room_next : (o x d : ℤ) → SignedByte d → Room m n (suc k) (o +ℤ x) → Room m n k (o +ℤ (x +ℤ d))
  room_next o x d s r = omega (zarith, plus o x, plus x d, plus o (x +ℤ d))

  module _ (font : List ℕ) (g : GlyphReader) (range : InRange font g) (x y : ℤ) (r : Room m n (suc k) x) (v : Level y) where
    near_rectangle : (g.glyph_width ≡ 0 → ⊥) → (g.glyph_height ≡ 0 → ⊥) → Near m n (rectangle_at x y g)
    near_rectangle w h =
        let rise = plus (pos g.glyph_height) g.offset_y in
        record {
          from_left = omega (zarith, plus x g.offset_x);
          to_right = omega (zarith, plus x g.offset_x, plus (x +ℤ g.offset_x) (pos g.glyph_width));
          from_top = omega (zarith, minus y (pos g.glyph_height +ℤ g.offset_y));
          some = record { wide = omega arith; high = omega arith };
        }

    near_glyph : NearBox m n (box_at x y g)
    near_glyph = by (eqb g.glyph_width 0 || eqb g.glyph_height 0) refl
      where
        by : (t : Bool) → (eqb g.glyph_width 0 || eqb g.glyph_height 0) ≡ t → NearBox m n (pick t None (Some (rectangle_at x y g)))
        by true e = tt
        by false e =
            let s = or_false (eqb g.glyph_width 0) (eqb g.glyph_height 0) e in
            near_rectangle (eqb-false g.glyph_width 0 s.0) (eqb-false g.glyph_height 0 s.1)

-- What letters come to: their box is near, and they end at their height, with room for no letter more.
pub record NearLetters (m n : ℕ) (origin advance : Point) (l : Layout) : Type 0 where
  pub box : NearBox m n (join_all l.glyphs)
  pub level : (end : Point) → l.advance ≡ success end → end.y ≡ advance.y
  pub room : (end : Point) → l.advance ≡ success end → Room m n 0 (origin.x +ℤ end.x)

module _ (font : List ℕ) (answers : ℕ → Answer) (ranges : (c : ℕ) (g : GlyphReader) → answers c ≡ shows g → InRange font g) (m n : ℕ) (origin : Point) where
  abbrev NearFrom : List ℕ → Type 0
  NearFrom l =
      (advance : Point) → Room m n (length l) (origin.x +ℤ advance.x) → Level (origin.y +ℤ advance.y)
      → NearLetters m n origin advance (letters answers origin advance l)

  near_place : (c : ℕ) (l : List ℕ) → NearFrom l → (advance : Point) → Room m n (suc (length l)) (origin.x +ℤ advance.x) → Level (origin.y +ℤ advance.y)
      → (a : Answer) → answers c ≡ a → NearLetters m n origin advance (place origin advance a (λ next. letters answers origin next l))
  unfolding join_all
  near_place c l rest advance r v (shows g) e =
      let range = ranges c g e in
      let next = point (advance.x +ℤ g.advance) advance.y in
      let after = rest next (room_next m n (length l) origin.x advance.x g.advance range.advance r) v in
      let first = near_glyph m n (length l) font g range (origin.x +ℤ advance.x) (origin.y +ℤ advance.y) r v in
      record {
        box = near_join m n (box_at (origin.x +ℤ advance.x) (origin.y +ℤ advance.y) g) (join_all (letters answers origin next l).glyphs) first after.box;
        level = after.level;
        room = after.room;
      }
  near_place c l rest advance r v nothing e = rest advance (omega arith) v
  near_place c l rest advance r v (stops i d) e = record { box = tt; level = λ end k. impossible cc; room = λ end k. impossible cc }

  pub near_letters : (l : List ℕ) → NearFrom l
  unfolding letters join_all
  near_letters [] advance r v = record {
    box = tt;
    level = λ end k. cc;
    room = λ end k. let same : advance ≡ end = cc in subst (λ (p : Point). Room m n 0 (origin.x +ℤ p.x)) same r;
  }
  near_letters (c ∷ l) advance r v = near_place c l (near_letters l) advance r v (answers c) refl
