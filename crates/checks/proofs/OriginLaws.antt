-- Causes 4 and 5 and the origin of a text: what a call within these limits may count on. Assumes nothing.
use Rattle.integers.proofs.Prelude.{◌≡◌, sym, ap, ◌∙◌, Bool, true, false, List, [], ◌∷◌, ℕ, ◌+◌, ◌*◌, ◌≤◌, mul-le-mul, arith, eqb, ℤ}
use Rattle.integers.proofs.Prelude.{pos, negsuc, lt_z, ◌≤ℤ◌, length, w8, SFits, ltb-false, not-false}
use Rattle.integers.specs.Integers.{pick}
use Rattle.integers.proofs.Laws.{zarith, plus}
use Rattle.definitions.specs.Vocabulary.{FontReader, Point}
use Rattle.definitions.specs.Refusals.{Outcome, success, any_applies}
use Rattle.definitions.specs.Header.{Opened}
use Rattle.definitions.specs.Utf8.{decode, is_utf8, newlines}
use Rattle.definitions.specs.VerticalOffset.{vertical_offset}
use Rattle.definitions.specs.Limits.{text_cause, coordinate_off, position_cause}
use Rattle.definitions.specs.Font.{u8g2}
use Rattle.definitions.specs.Calls.{open_font, Request, code_points_of, origin}
use Rattle.definitions.proofs.RefusalLaws.{or_false, succeeded, each_off}
use Rattle.definitions.proofs.OpenedLaws.{opened}
use Rattle.definitions.proofs.Utf8Laws.{utf8_characters, character_count}
use Rattle.definitions.proofs.VerticalOffsetLaws.{offset_limits}
use Rattle.checks.specs.Origins.{origin_by, place_causes, checked_origin, Checked, CheckedLine}

-- ---- newlines

pub newlines_length : (cs : List ℕ) → newlines cs ≤ length cs
unfolding newlines
newlines_length [] = omega arith
newlines_length (c ∷ cs) = by (eqb c 10) (newlines_length cs)
  where
    by : (t : Bool) → newlines cs ≤ length cs → pick t 1 0 + newlines cs ≤ length (c ∷ cs)
    by true h = omega arith
    by false h = omega arith

-- t of a checked text
pub newlines_most : {n h : ℕ} → n ≤ 4096 → h ≤ 65535 → n * h ≤ 268431360
newlines_most p q = mul-le-mul p q

-- ---- neither cause applies

pub record TextLimits (text : List ℕ) : Type 0 where
  pub short : length text ≤ 4096
  pub utf8 : is_utf8 (decode text) ≡ true
  pub count : newlines (code_points_of text) ≤ 4096

pub text_limits : (text : List ℕ) → (text_cause text).applies ≡ false → TextLimits text
text_limits text e =
    let l = or_false _ _ e in
    let short = ltb-false 4096 (length text) l.0 in
    let utf8 = not-false _ l.1 in
    record {
      short = short;
      utf8 = utf8;
      count = omega (arith, newlines_length (code_points_of text), character_count text (utf8_characters (decode text) utf8));
    }

pub record PositionLimits (position : Point) (line_height : ℕ) : Type 0 where
  pub left : negsuc 1048575 ≤ℤ position.x
  pub right : position.x ≤ℤ pos 1048576
  pub top : negsuc 1048575 ≤ℤ position.y
  pub bottom : position.y ≤ℤ pos 1048576
  pub line : line_height ≤ 65535

coordinate_limits : (z : ℤ) → coordinate_off z ≡ false → (negsuc 1048575 ≤ℤ z) × (z ≤ℤ pos 1048576)
coordinate_limits z e = let l = or_false (lt_z z (negsuc 1048575)) (lt_z (pos 1048576) z) e in (omega zarith, omega zarith)

pub position_limits : (position : Point) (line_height : ℕ) → (position_cause position line_height).applies ≡ false → PositionLimits position line_height
position_limits position line_height e =
    let l = or_false _ _ e in
    let k = or_false _ _ l.0 in
    let x = coordinate_limits position.x k.0 in
    let y = coordinate_limits position.y k.1 in
    record { left = x.0; right = x.1; top = y.0; bottom = y.1; line = ltb-false 65535 line_height l.1 }

-- ---- the origin

module _ (ascent descent : ℤ) (r : Request) where
  abbrev pub offset : ℤ
  offset = vertical_offset r.anchor (pos (newlines (code_points_of r.text) * r.line_height)) ascent descent

  abbrev begins : Point
  begins = origin_by ascent descent r

  module _ (f : SFits w8 ascent) (g : SFits w8 descent) (a : TextLimits r.text) (b : PositionLimits r.position r.line_height) where
    pub offset_near : (negsuc 268431487 ≤ℤ offset) × (offset ≤ℤ pos 128)
    offset_near = offset_limits (newlines (code_points_of r.text) * r.line_height) f g r.anchor (newlines_most a.count b.line)

    pub origin_checked : Checked r.text begins r.line_height
    origin_checked =
        let o = offset_near in
        record {
          short = a.short;
          utf8 = a.utf8;
          line = b.line;
          left = b.left;
          right = b.right;
          top = omega (zarith, plus r.position.y offset);
          bottom = omega (zarith, plus r.position.y offset);
        }

  -- neither cause applies
  pub placed_checked : SFits w8 ascent → SFits w8 descent → any_applies (place_causes r) ≡ false → Checked r.text begins r.line_height
  placed_checked f g off =
      let q = each_off (place_causes r) off in
      origin_checked f g (text_limits _ q.0) (position_limits _ _ q.1.0)

  pub begun : {o : Point} → checked_origin ascent descent r ≡ success o → (any_applies (place_causes r) ≡ false) × (begins ≡ o)
  begun {o} e =
      let p = succeeded (success begins) o (place_causes r) e in
      let f = p.1 in
      (p.0, cc)

-- what was read of the font says where it begins
pub origin_read : {font : List ℕ} {head : FontReader} → Opened font head → (r : Request) → origin_by head.ascent head.descent r ≡ origin (u8g2 font) r
origin_read o r = ap (λ (h : FontReader). origin_by h.ascent h.descent r) o.read

-- where nothing is moved
pub as_line : {text : List ℕ} {o : Point} {line_height : ℕ} → Checked text o line_height → CheckedLine text o line_height
as_line k = record {
  short = k.short;
  utf8 = k.utf8;
  line = k.line;
  left = omega (zarith, k.left);
  right = omega (zarith, k.right);
  top = k.top;
  bottom = k.bottom;
}

-- ---- the tests, on a font that opens

module _ (font : List ℕ) {head : FontReader} (opens : open_font font ≡ success head) (r : Request) where
  -- the text and its place, tested with the header that was read
  abbrev pub tested : Outcome Point
  tested = checked_origin head.ascent head.descent r

  pub origin_is : {o : Point} → tested ≡ success o → origin (u8g2 font) r ≡ o
  origin_is {o} e = sym (origin_read (opened font head opens) r) ∙ (begun head.ascent head.descent r e).1
