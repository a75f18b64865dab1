-- The ranges of measuring: every number of a checked text stays near 0. Assumes nothing.
use Rattle.integers.proofs.Prelude.{◌≡◌, refl, subst, Bool, true, false, ◌||◌, List, ◌∷◌, ℕ, ◌+◌, ◌*◌, ◌≤◌, zero-add, arith, eqb, ℤ}
use Rattle.integers.proofs.Prelude.{pos, neg_ℤ, ◌+ℤ◌, ◌-ℤ◌, ◌≤ℤ◌, length, w8, w32, SFits}
use Rattle.integers.proofs.Choices.{impossible}
use Rattle.integers.specs.Integers.{pick}
use Rattle.integers.proofs.Laws.{zarith, plus, minus, neg, range}
use Rattle.definitions.specs.Vocabulary.{None, Some, Point, RenderedDimensions, GlyphReader}
use Rattle.definitions.specs.Refusals.{success}
use Rattle.definitions.specs.Geometry.{SpanInReach, InReach}
use Rattle.definitions.specs.Utf8.{newlines}
use Rattle.definitions.specs.Text.{Answer, shows, nothing, stops, box_at}
use Rattle.definitions.specs.TextSteps.{newline_step, next_box, glyph_step, answer_step, step}
use Rattle.definitions.proofs.BitsLaws.{SignedByte}
use Rattle.definitions.proofs.JoinLaws.{reach_join}
use Rattle.definitions.proofs.GlyphLaws.{InRange}
use Rattle.checks.specs.Origins.{CheckedLine}
use Rattle.checks.proofs.OriginLaws.{newlines_length, newlines_most}
use Rattle.layout.specs.Ranges.{Near, Advanced, Within, HasRoom}

pub near_fits : {z : ℤ} → Near z → SFits w32 z
near_fits h = omega zarith

pub signed_byte_lem : {z : ℤ} → SFits w8 z → SignedByte z
signed_byte_lem {z} f = record { low = omega (zarith, range f); high = omega (zarith, range f) }

-- the code's -z is 0 less z
pub negated : (z : ℤ) → pos 0 -ℤ z ≡ neg_ℤ z
negated z = omega (zarith, minus (pos 0) z, neg z)

-- ---- a glyph

-- what the types of the fields say already
pub record Small (g : GlyphReader) : Type 0 where
  pub width : g.glyph_width ≤ 255
  pub height : g.glyph_height ≤ 255
  pub x : SignedByte g.offset_x
  pub y : SignedByte g.offset_y
  pub advance : SignedByte g.advance

pub fits_small : {g : GlyphReader} → g.glyph_width ≤ 255 → g.glyph_height ≤ 255 → SFits w8 g.offset_x → SFits w8 g.offset_y → SFits w8 g.advance → Small g
fits_small w h x y a = record { width = w; height = h; x = signed_byte_lem x; y = signed_byte_lem y; advance = signed_byte_lem a }

pub in_range_small : {font : List ℕ} {g : GlyphReader} → InRange font g → Small g
in_range_small r = record { width = r.width; height = r.height; x = r.x; y = r.y; advance = r.advance }

pub box_in_reach : {x y : ℤ} (g : GlyphReader) → Near x → Near y → Small g → InReach (box_at x y g)
box_in_reach {x} {y} g h k s = by (eqb g.glyph_width 0 || eqb g.glyph_height 0)
  where
    columns : SpanInReach (x +ℤ g.offset_x) g.glyph_width
    columns =
        let a = s.x in
        let w = s.width in
        let l = x +ℤ g.offset_x in
        record { low = omega (zarith, plus x g.offset_x); high = omega (zarith, plus x g.offset_x, plus l (pos g.glyph_width)) }

    rows : SpanInReach (y -ℤ (pos g.glyph_height +ℤ g.offset_y)) g.glyph_height
    rows =
        let b = s.y in
        let h = s.height in
        let e = pos g.glyph_height +ℤ g.offset_y in
        record {
          low = omega (zarith, plus (pos g.glyph_height) g.offset_y, minus y e);
          high = omega (zarith, plus (pos g.glyph_height) g.offset_y, minus y e, plus (y -ℤ e) (pos g.glyph_height));
        }

    by : (t : Bool)
        → InReach
        (pick t None
        (Some record {
          top_left = record { x = x +ℤ g.offset_x; y = y -ℤ (pos g.glyph_height +ℤ g.offset_y) };
          size = record { width = g.glyph_width; height = g.glyph_height };
        }))
    by true = tt
    by false = record { columns = columns; rows = rows }

-- ---- the advance after `at` bytes, `rest` being the code points to come

pub advanced_start : {line_height : ℕ} (cs : List ℕ) → length cs ≤ 4096 → line_height ≤ 65535 → Advanced line_height 0 cs (pos 0) (pos 0)
advanced_start {line_height} cs p q =
    let m = newlines_most {n = newlines cs} {h = line_height} (omega (arith, newlines_length cs)) q in
    record {
      left = omega zarith;
      right = omega zarith;
      top = omega zarith;
      bottom = omega (zarith, plus (pos 0) (pos (newlines cs * line_height)));
    }

-- it lies near 0, and so does the place that it is counted from
module _ {line_height at : ℕ} {rest : List ℕ} {x y : ℤ} (h : at ≤ 4096) (a : Advanced line_height at rest x y) where
  pub advanced_x : Near x
  advanced_x = let l = a.left in let r = a.right in record { low = omega zarith; high = omega zarith }

  pub advanced_y : (pos 0 ≤ℤ y) × (y ≤ℤ pos 268431360)
  advanced_y = let b = a.bottom in (a.top, omega (zarith, plus y (pos (newlines rest * line_height))))

  module _ {text : List ℕ} {origin : Point} (k : CheckedLine text origin line_height) where
    pub near_column : Near (origin.x +ℤ x)
    near_column =
        let n = advanced_x in
        record { low = omega (zarith, plus origin.x x); high = omega (zarith, plus origin.x x) }

    pub near_row : Near (origin.y +ℤ y)
    near_row =
        let n = advanced_y in
        record { low = omega (zarith, plus origin.y y); high = omega (zarith, plus origin.y y) }

-- A character of n bytes: a newline, a glyph of that advance, or nothing.
module _ {line_height at c : ℕ} {cs : List ℕ} {x y : ℤ} {n : ℕ} (some : 1 ≤ n) where
  pub advanced_newline : Advanced line_height at (c ∷ cs) x y → eqb c 10 ≡ true → Advanced line_height (at + n) cs (pos 0) (y +ℤ pos line_height)
  unfolding newlines
  advanced_newline a e =
      let b = rw e at a.bottom in
      record {
        left = omega zarith;
        right = omega zarith;
        top = omega (zarith, plus y (pos line_height));
        bottom = omega (zarith, plus y (pos line_height), plus (y +ℤ pos line_height) (pos (newlines cs * line_height)), plus y (pos ((1 + newlines cs) * line_height)));
      }

  pub advanced_answer : Advanced line_height at (c ∷ cs) x y → eqb c 10 ≡ false → {d : ℤ} → SignedByte d → Advanced line_height (at + n) cs (x +ℤ d) y
  unfolding newlines
  advanced_answer a e {d} s =
      let b = rw (e, zero-add) at a.bottom in
      record { left = omega (zarith, plus x d); right = omega (zarith, plus x d); top = a.top; bottom = b }

  pub advanced_nothing : Advanced line_height at (c ∷ cs) x y → eqb c 10 ≡ false → Advanced line_height (at + n) cs x y
  unfolding newlines
  advanced_nothing a e =
      let b = rw (e, zero-add) at a.bottom in
      record { left = omega zarith; right = omega zarith; top = a.top; bottom = b }

-- ---- the dimensions so far

pub has_room : {line_height at : ℕ} {rest text : List ℕ} {d : RenderedDimensions} {origin : Point} → CheckedLine text origin line_height → at ≤ 4096 → Within line_height at rest d → HasRoom origin d
has_room k h w =
    let y = advanced_y h w.advance in
    record {
      x = advanced_x h w.advance;
      y = record { low = omega zarith; high = omega zarith };
      column = near_column h w.advance k;
      row = near_row h w.advance k;
      box = w.box;
    }

module _ {answers : ℕ → Answer} (small : (c : ℕ) (g : GlyphReader) → answers c ≡ shows g → Small g) where
  module _ {line_height at c : ℕ} {cs : List ℕ} {d next : RenderedDimensions} {origin : Point} {n : ℕ} (room : HasRoom origin d) (w : Within line_height at (c ∷ cs) d) (some : 1 ≤ n) where
    pub within_next : step answers line_height origin d c ≡ success next → Within line_height (at + n) cs next
    within_next e = by (eqb c 10) refl (answers c) refl e
      where
        by : (t : Bool) → eqb c 10 ≡ t → (l : Answer) → answers c ≡ l
            → pick t (success (newline_step line_height d)) (answer_step origin d l) ≡ success next
            → Within line_height (at + n) cs next
        by true p l f e =
            let same : newline_step line_height d ≡ next = cc in
            subst (Within line_height (at + n) cs) same record { advance = advanced_newline some w.advance p; box = w.box }
        by false p (shows g) f e =
            let s = small c g f in
            let same : glyph_step origin d g ≡ next = cc in
            subst (Within line_height (at + n) cs) same
            record {
              advance = advanced_answer some w.advance p s.advance;
              box = reach_join d.bounding_box (next_box origin d g) w.box (box_in_reach g room.column room.row s);
            }
        by false p nothing f e =
            let same : d ≡ next = cc in
            subst (Within line_height (at + n) cs) same record { advance = advanced_nothing some w.advance p; box = w.box }
        by false p (stops m k) f e = impossible cc
