-- The box of a text at (0, 0) lies so near that the opposite of its corner is within the limits for places, however its lines are
-- aligned: a line is moved by at most as much as it reaches (NearLaws.antt), and a line height is at most 128. Assumes nothing.
use Rattle.integers.proofs.Prelude.{◌≡◌, refl, Bool, true, false, List, [], ◌∷◌, ℕ, suc, ◌+◌, ◌*◌, ◌/◌, ◌≤◌, arith, eqb, ℤ, pos, ◌+ℤ◌, ◌-ℤ◌, length}
use Rattle.integers.proofs.Choices.{impossible}
use Rattle.integers.specs.Integers.{pick}
use Rattle.integers.proofs.Laws.{zarith, plus, minus, neg}
use Rattle.definitions.specs.Vocabulary.{BoundingBox, None, Some, Point, Rectangle, GlyphReader, HorizontalAlignment}
use Rattle.types.specs.declared.style.HorizontalAlignment.TheVariants.{Left, Center, Right}
use Rattle.definitions.specs.Refusals.{Outcome, success, refused}
use Rattle.definitions.specs.Geometry.{left}
use Rattle.definitions.specs.Text.{Answer, shows, join_all, Layout, point, letters, Lines, last, first, to_first, lines, then_lines, line_by_line}
use Rattle.definitions.specs.Text.{horizontal_offset, with_offset, moved_line, aligned_line, aligned}
use Rattle.definitions.proofs.GlyphLaws.{InRange}
use Rattle.definitions.proofs.TextLaws.{join_append}
use Rattle.corner.proofs.NearLaws.{Between, Near, NearBox, near_join, Room, Level, near_letters}

abbrev pub NearPlace : BoundingBox → Type 0
NearPlace box = NearBox 1048576 1048576 box

pub near_left : {r : Rectangle} → Near 1048576 1048576 r → Between 1048576 1048576 (left r)
near_left {r} h = omega (zarith, plus (left r) (pos r.size.width))

abbrev zero : Point
zero = point (pos 0) (pos 0)

-- how many characters lines have, with the newlines between them
abbrev characters : Lines → ℕ
characters (last l) = length l
characters (first l ls) = length l + suc (characters ls)

characters_are : (cs : List ℕ) → characters (lines cs) ≡ length cs
unfolding lines
characters_are [] = refl
characters_are (c ∷ cs) = by (eqb c 10) (lines cs) (characters_are cs)
  where
    by : (t : Bool) (ls : Lines) → characters ls ≡ length cs → characters (pick t (first [] ls) (to_first c ls)) ≡ suc (length cs)
    by true ls e = omega arith
    by false (last l) e = omega arith
    by false (first l ls) e = omega arith

-- ---- a line

-- A line of k letters that begins at 0 and ends at x is moved by no more than that.
offset_between : (k : ℕ) (x : ℤ) → Room (128 * k) (127 * k + 255) 0 (pos 0 +ℤ x) → (a : HorizontalAlignment) (box : BoundingBox)
    → NearBox (128 * k) (127 * k + 255) box → Between (127 * k + 255) (128 * k + 1) (horizontal_offset a box x)
offset_between k x ends Left box b = omega arith
offset_between k x ends Center None b = omega arith
offset_between k x ends Center (Some r) b =
    let half = pos (r.size.width / 2) in
    omega (zarith, plus half (left r), neg (half +ℤ left r), plus (left r) (pos r.size.width))
offset_between k x ends Right box b = omega (zarith, plus (pos 0) x, minus x (pos 1), neg (x -ℤ pos 1))

record NearLine (y : ℤ) (l : Layout) : Type 0 where
  box : NearPlace (join_all l.glyphs)
  level : (end : Point) → l.advance ≡ success end → end.y ≡ y

module _ (font : List ℕ) (answers : ℕ → Answer) (ranges : (c : ℕ) (g : GlyphReader) → answers c ≡ shows g → InRange font g) where
  module _ (l : List ℕ) (few : length l ≤ 4096) (y : ℤ) (v : Level y) where
    near_at : (x : ℤ) → Between (127 * length l + 255) (128 * length l + 1) x → NearLine y (letters answers (point (pos 0 +ℤ x) (pos 0)) (point (pos 0) y) l)
    near_at x b =
        let room : Room 1048576 1048576 (length l) ((pos 0 +ℤ x) +ℤ pos 0) = omega (zarith, plus (pos 0) x, plus (pos 0 +ℤ x) (pos 0)) in
        let near = near_letters font answers ranges 1048576 1048576 (point (pos 0 +ℤ x) (pos 0)) l (point (pos 0) y) room (omega (zarith, plus (pos 0) y)) in
        record { box = near.box; level = near.level }

    near_moved : (a : HorizontalAlignment) → NearLine y (moved_line a answers answers zero (point (pos 0) y) l)
    unfolding join_all
    near_moved a = by line.advance refl
      where
        line : Layout
        line = letters answers zero zero l

        by : (o : Outcome Point) → line.advance ≡ o → NearLine y (with_offset a line o (λ x. letters answers (point (pos 0 +ℤ x) (pos 0)) (point (pos 0) y) l))
        by (success end) e =
            let near = near_letters font answers ranges (128 * length l) (127 * length l + 255) zero l zero (omega arith) (omega arith) in
            let box = join_all line.glyphs in
            near_at (horizontal_offset a box end.x) (offset_between (length l) end.x (near.room end e) a box near.box)
        by (refused n c) e = record { box = tt; level = λ end k. impossible cc }

    near_line : (a : HorizontalAlignment) → NearLine y (aligned_line a answers answers zero (point (pos 0) y) l)
    near_line Left = near_at (pos 0) (omega arith)
    near_line Center = near_moved Center
    near_line Right = near_moved Right

  -- ---- the lines of a text

  module _ (a : HorizontalAlignment) (line_height : ℕ) (low : line_height ≤ 128) where
    abbrev from : ℤ → Lines → Layout
    from y ls = line_by_line (aligned_line a answers answers zero) line_height (point (pos 0) y) ls

    near_then : (y : ℤ) (line : Layout) → NearLine y line → (rest : Point → Layout)
        → ((end : Point) → end.y ≡ y → NearPlace (join_all (rest end).glyphs))
        → (o : Outcome Point) → line.advance ≡ o → NearPlace (join_all (then_lines line o rest).glyphs)
    near_then y line near rest h (success end) e =
        rw join_append (near_join 1048576 1048576 (join_all line.glyphs) (join_all (rest end).glyphs) near.box (h end (near.level end e)))
    near_then y line near rest h (refused n c) e = near.box

    near_lines : (ls : Lines) (n : ℕ) (y : ℤ) → n + characters ls ≤ 4096 → Between 0 (128 * n) y → NearPlace (join_all (from y ls).glyphs)
    unfolding line_by_line
    near_lines (last l) n y few v = (near_line l (omega arith) y (omega arith) a).box
    near_lines (first l ls) n y few v =
        let line = aligned_line a answers answers zero (point (pos 0) y) l in
        near_then y line (near_line l (omega arith) y (omega arith) a) (λ end. from (end.y +ℤ pos line_height) ls)
        (λ end e. near_lines ls (n + 1) (end.y +ℤ pos line_height) (omega arith) (omega (zarith, plus end.y (pos line_height))))
        line.advance refl

    -- So it is for all of them.
    pub near_text : (cs : List ℕ) → length cs ≤ 4096 → NearPlace (join_all (aligned answers answers line_height a zero cs).glyphs)
    near_text cs few = near_lines (lines cs) 0 (pos 0) (omega (arith, characters_are cs)) (omega arith)
