-- A line that was measured from its own start, and its offset, stay near 0. Assumes nothing.
use Rattle.integers.proofs.Prelude.{◌≡◌, refl, sym, ap, subst, ◌∙◌, List, [], ◌∷◌, ℕ, suc, ◌+◌, ◌*◌, ◌≤◌, arith, ℤ, pos, negsuc, ◌+ℤ◌, ◌≤ℤ◌, length}
use Rattle.integers.proofs.Laws.{zarith, plus}
use Rattle.integers.proofs.Choices.{impossible}
use Rattle.definitions.specs.Vocabulary.{FontReader, Point, RenderedDimensions, GlyphReader, HorizontalAlignment}
use Rattle.types.specs.declared.style.HorizontalAlignment.TheVariants.{Left}
use Rattle.definitions.specs.Refusals.{Outcome, success, refused, and_then}
use Rattle.definitions.specs.Utf8.{newlines}
use Rattle.definitions.specs.Text.{Answer, shows, nothing, stops, box_at, join_all, Layout, point, dimensions_of, dimensions, place, letters, Lines, line_by_line, horizontal_offset}
use Rattle.definitions.specs.TextSteps.{measure_lines}
use Rattle.definitions.specs.Font.{u8g2, measured_answer}
use Rattle.definitions.specs.Calls.{code_points_of}
use Rattle.definitions.specs.Sums.{sums}
use Rattle.definitions.proofs.Agreement.{dimensions_success}
use Rattle.definitions.proofs.SumsLaws.{sums_then}
use Rattle.definitions.proofs.TextLaws.{lines_last, measure_lines_lem}
use Rattle.definitions.proofs.Utf8Laws.{character_count}
use Rattle.checks.specs.declared.origin.Pen.{Pen}
use Rattle.checks.specs.Origins.{CheckedLine, CheckedText}
use Rattle.checks.proofs.OriginLaws.{as_line}
use Rattle.layout.specs.Ranges.{Near, LineInReach}
use Rattle.layout.proofs.MeasureLaws.{checked_characters, measured_small}
use Rattle.layout.proofs.RangeLaws.{Small}
use Rattle.text_lines.proofs.LinesLaws.{line_box, line_join, offset_bounds}
use Rattle.line_alignment.specs.Pens.{measured_line, moved_by, aligned_pen}

abbrev zero : Point
zero = point (pos 0) (pos 0)

-- the box of a line's letters, and its last advance
pub record InLine (l : Layout) : Type 0 where
  pub box : LineInReach (join_all l.glyphs)
  pub left : (end : Point) → l.advance ≡ success end → negsuc 524288 ≤ℤ end.x
  pub right : (end : Point) → l.advance ≡ success end → end.x ≤ℤ pos 524288

module _ (answers : ℕ → Answer) (small : (c : ℕ) (g : GlyphReader) → answers c ≡ shows g → Small g) where
  -- from an advance after k characters
  abbrev Stays : List ℕ → Type 0
  Stays l =
      (k : ℕ) (x : ℤ) → k + length l ≤ 4096 → negsuc (128 * k) ≤ℤ x → x ≤ℤ pos (128 * k)
      → InLine (letters answers zero (point x (pos 0)) l)

  stays_place : (l : List ℕ) → Stays l → (k : ℕ) (x : ℤ) → k + length l + 1 ≤ 4096 → negsuc (128 * k) ≤ℤ x → x ≤ℤ pos (128 * k)
      → (c : ℕ) (a : Answer) → answers c ≡ a → InLine (place zero (point x (pos 0)) a (λ next. letters answers zero next l))
  unfolding join_all
  stays_place l rest k x few low high c (shows g) e =
      let s = small c g e in
      let d = s.advance in
      let next = rest (suc k) (x +ℤ g.advance) (omega arith) (omega (zarith, plus x g.advance)) (omega (zarith, plus x g.advance)) in
      let mine = line_box {x = pos 0 +ℤ x} {y = pos 0 +ℤ pos 0} g (omega (zarith, plus (pos 0) x)) (omega (zarith, plus (pos 0) x)) refl s in
      record {
        box = line_join (box_at (pos 0 +ℤ x) (pos 0 +ℤ pos 0) g) (join_all (letters answers zero (point (x +ℤ g.advance) (pos 0)) l).glyphs) mine next.box;
        left = next.left;
        right = next.right;
      }
  stays_place l rest k x few low high c nothing e = rest k x (omega arith) low high
  stays_place l rest k x few low high c (stops n m) e = record { box = tt; left = λ end e. impossible cc; right = λ end e. impossible cc }

  stays : (l : List ℕ) → Stays l
  unfolding letters join_all
  stays [] k x few low high =
      record {
        box = tt;
        left = λ end e. let same : x ≡ end.x = ap (λ (o : Outcome Point). x_of o) e in omega zarith;
        right = λ end e. let same : x ≡ end.x = ap (λ (o : Outcome Point). x_of o) e in omega zarith;
      }
    where
      x_of : Outcome Point → ℤ
      x_of (success p) = p.x
      x_of (refused n c) = pos 0
  stays (c ∷ l) k x few low high = stays_place l (stays l) k x (omega arith) low high c (answers c) refl

  pub in_line : (l : List ℕ) → length l ≤ 4096 → InLine (letters answers zero zero l)
  in_line l few = stays l 0 (pos 0) (omega arith) (omega zarith) (omega zarith)

-- ---- the measured line

module _ {font text : List ℕ} {head : FontReader} {pen : Pen} (k : CheckedText font head text pen) (one : newlines (code_points_of text) ≡ 0) where
  abbrev line : Layout
  line = measured_line font pen.ignore_unknown_chars text

  -- measuring line by line comes to it
  pub line_measured : measure_lines (measured_answer (u8g2 font) pen.ignore_unknown_chars) Left pen.line_height zero (code_points_of text) ≡ dimensions line
  unfolding line_by_line
  line_measured =
      let answers = measured_answer (u8g2 font) pen.ignore_unknown_chars in
      measure_lines_lem answers Left pen.line_height zero (code_points_of text)
      ∙ ap (λ (ls : Lines). dimensions (line_by_line (letters answers zero) pen.line_height zero ls)) (lines_last (code_points_of text) one)

  near : InLine line
  near =
      let e = checked_characters (as_line k.checked) in
      in_line (measured_answer (u8g2 font) pen.ignore_unknown_chars) (measured_small k.opened pen.ignore_unknown_chars) (code_points_of text)
      (omega (arith, character_count text e, k.checked.short))

  -- its sums are those of its letters
  pub line_summed : sums (u8g2 font) text (dimensions line) ≡ sums (u8g2 font) text line.advance
  line_summed = sums_then (u8g2 font) text line.advance (λ a. record { advance = a; bounding_box = join_all line.glyphs })

  pub pen_refused : (a : HorizontalAlignment) {n c : ℕ} → refused n c ≡ dimensions line → refused n c ≡ aligned_pen a pen line
  pen_refused a {n} {c} e = by line.advance e
    where
      by : (o : Outcome Point) → refused n c ≡ dimensions_of (join_all line.glyphs) o
          → refused n c ≡ and_then o (λ end. success (moved_by pen (horizontal_offset a (join_all line.glyphs) end.x)))
      by (success end) e = impossible cc
      by (refused m d) e = cc

  module _ {d : RenderedDimensions} (e : success d ≡ dimensions line) where
    ends : (line.advance ≡ success d.advance) × (join_all line.glyphs ≡ d.bounding_box)
    ends = dimensions_success (join_all line.glyphs) line.advance d (sym e)

    pub box_near : LineInReach d.bounding_box
    box_near = subst LineInReach ends.1 near.box

    pub advance_near : Near d.advance.x
    advance_near =
        let l = near.left d.advance ends.0 in
        let r = near.right d.advance ends.0 in
        record { low = omega zarith; high = omega zarith }

    module _ (a : HorizontalAlignment) where
      abbrev offset : ℤ
      offset = horizontal_offset a d.bounding_box d.advance.x

      limits : (negsuc 1048576 ≤ℤ offset) × (offset ≤ℤ pos 1048577)
      limits =
          offset_bounds a d.bounding_box d.advance.x (omega (zarith, near.left d.advance ends.0)) (omega (zarith, near.right d.advance ends.0)) box_near

      pub offset_near : Near offset
      offset_near = let b = limits in record { low = omega zarith; high = omega zarith }

      pub pen_is : success (moved_by pen offset) ≡ aligned_pen a pen line
      pen_is = rw (ends.0, ends.1)

      pub pen_placed : CheckedLine text (moved_by pen offset).origin pen.line_height
      pen_placed =
          let b = limits in
          record {
            short = k.checked.short;
            utf8 = k.checked.utf8;
            line = k.checked.line;
            left = omega (zarith, plus pen.origin.x offset, k.checked.left);
            right = omega (zarith, plus pen.origin.x offset, k.checked.right);
            top = k.checked.top;
            bottom = k.checked.bottom;
          }
