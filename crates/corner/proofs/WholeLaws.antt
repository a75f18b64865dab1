-- A text that is measured at (0, 0) and drawn at the opposite of its box's corner is seen whole (Whole.antt): the box's corner is
-- within the limits for places, the box has a pixel, and drawing comes to what measuring does, moved. Assumes nothing.
use Rattle.integers.proofs.Prelude.{◌≡◌, refl, sym, ap, subst, ◌∙◌, Bool, true, false, ◌||◌, not, inl, inr, List, [], ◌∷◌, ℕ, ◌%◌, ◌≤◌}
use Rattle.integers.proofs.Prelude.{div-add-mod', arith, ltb}
use Rattle.integers.proofs.Prelude.{eqb, ℤ, pos, negsuc, ◌+ℤ◌, ◌-ℤ◌, lt_z, length, ltb-false, le-ltb, ne_eqb, eq-eqb, not-false}
use Rattle.integers.proofs.Choices.{impossible}
use Rattle.integers.specs.Integers.{pick}
use Rattle.integers.proofs.Laws.{zarith, plus, minus}
use Rattle.definitions.specs.Vocabulary.{Framebuffer, Point, Rectangle, RenderedDimensions, GlyphReader, FontColor}
use Rattle.definitions.specs.Refusals.{Outcome, success, refused, any_applies}
use Rattle.definitions.specs.Header.{header}
use Rattle.definitions.specs.Geometry.{left, top}
use Rattle.definitions.specs.Glyph.{glyph}
use Rattle.definitions.specs.Utf8.{decode, is_utf8}
use Rattle.definitions.specs.Text.{shows, answer, join_all, Layout, dimensions}
use Rattle.definitions.specs.TextSteps.{moved_rectangle}
use Rattle.definitions.specs.Font.{u8g2, measured_answer, drawn_answer}
use Rattle.definitions.specs.Framebuffer.{per_byte, size_in_bytes, side_off, framebuffer_cause, BufferFits}
use Rattle.definitions.specs.Limits.{coordinate_off, position_cause, color_off, color_cause, background_cause}
use Rattle.definitions.specs.Calls.{Request, code_points_of, origin, measure_causes, measured_text, measure, drawn_text, draw}
use Rattle.definitions.specs.Agreement.{limits, on}
use Rattle.corner.specs.declared.Setting.{Setting}
use Rattle.corner.specs.Whole.{at_zero, whole, measured_at_zero, opposite, in_corner, boxed, SeenWhole}
use Rattle.definitions.proofs.OpenedLaws.{opened_limits}
use Rattle.definitions.proofs.RefusalLaws.{or_false, succeeded, passed}
use Rattle.definitions.proofs.CausesLaws.{MeasurePasses, measure_passes, LimitsPass, limits_off}
use Rattle.definitions.proofs.GlyphLaws.{InRange, glyph_range}
use Rattle.definitions.proofs.Utf8Laws.{utf8_characters, character_count}
use Rattle.definitions.proofs.Agreement.{dimensions_success}
use Rattle.definitions.proofs.MovedLaws.{moved_point, moved_dimensions, dimensions_moved, text_moved}
use Rattle.corner.proofs.AlikeLaws.{AlikeOrCut, alike_or_cut}
use Rattle.corner.proofs.NearLaws.{Between, Near}
use Rattle.corner.proofs.NearTexts.{NearPlace, near_left, near_text}

few_characters : (text : List ℕ) → (ltb 4096 (length text) || not (is_utf8 (decode text))) ≡ false → length (code_points_of text) ≤ 4096
few_characters text e =
    let l = or_false (ltb 4096 (length text)) (not (is_utf8 (decode text))) e in
    omega (arith, ltb-false 4096 (length text) l.0, character_count text (utf8_characters (decode text) (not-false (is_utf8 (decode text)) l.1)))

coordinate_in : (z : ℤ) → Between 1048576 1048576 z → coordinate_off (pos 0 -ℤ z) ≡ false
coordinate_in z h =
    let a : lt_z (pos 0 -ℤ z) (negsuc 1048575) ≡ false = omega (zarith, minus (pos 0) z) in
    let b : lt_z (pos 1048576) (pos 0 -ℤ z) ≡ false = omega (zarith, minus (pos 0) z) in
    rw (a, b)

side_in : (n : ℕ) → 1 ≤ n → n ≤ 256 → side_off n ≡ false
side_in n l h =
    let a : eqb n 0 ≡ false = ne_eqb n 0 (λ e. omega arith) in
    let b : ltb 256 n ≡ false = le-ltb 256 n h in
    rw (a, b)

module _ (font text : List ℕ) (s : Setting) (advance : Point) (r : Rectangle) (low : s.line_height ≤ 128)
    (measured : measured_at_zero font text s ≡ success (boxed advance r)) where
  -- what is asked at (0, 0), and the layouts of what is asked
  abbrev asked : Request
  asked = whole text s at_zero

  abbrev drawn_at : Point → Layout
  drawn_at position = drawn_text (u8g2 font) (whole text s position)

  at_zero_lem : (any_applies (measure_causes (u8g2 font) asked) ≡ false) × (dimensions (measured_text (u8g2 font) asked) ≡ success (boxed advance r))
  unfolding measure
  at_zero_lem = succeeded (dimensions (measured_text (u8g2 font) asked)) (boxed advance r) (measure_causes (u8g2 font) asked) measured

  passes : MeasurePasses font asked
  passes = measure_passes font asked at_zero_lem.0

  ranges : (c : ℕ) (g : GlyphReader) → measured_answer (u8g2 font) false c ≡ shows g → InRange font g
  ranges c g e = by (glyph font c) refl e
    where
      by : (o : Outcome GlyphReader) → glyph font c ≡ o → answer false o ≡ shows g → InRange font g
      by (success h) k e = let same : h ≡ g = cc in glyph_range font (header font) c g (opened_limits font passes.length_in passes.header_in) (k ∙ ap success same)
      by (refused n d) k e = impossible cc

  -- so its opposite is within the limits for places
  pub near : Near 1048576 1048576 r
  near =
      let l = measured_text (u8g2 font) asked in
      subst NearPlace (dimensions_success (join_all l.glyphs) l.advance (boxed advance r) at_zero_lem.1).1
      (near_text font (measured_answer (u8g2 font) false) ranges s.align s.line_height low (code_points_of text) (few_characters text passes.text_in))

  stands : (position_cause (opposite r) s.line_height).applies ≡ false
  stands = rw (coordinate_in (left r) (near_left near), coordinate_in (top r) near.from_top, le-ltb 65535 s.line_height (omega arith))

  -- what the letters come to, once they are drawn there
  abbrev answers : Outcome RenderedDimensions
  answers = dimensions (drawn_at (opposite r))

  moved_there : answers ≡ moved_dimensions (pos 0 -ℤ left r) (pos 0 -ℤ top r) (dimensions (drawn_at at_zero))
  moved_there =
      let x : pos 0 -ℤ left r ≡ (pos 0 -ℤ left r) +ℤ pos 0 = omega (zarith, plus (pos 0 -ℤ left r) (pos 0)) in
      let y : pos 0 -ℤ top r ≡ (pos 0 -ℤ top r) +ℤ pos 0 = omega (zarith, plus (pos 0 -ℤ top r) (pos 0)) in
      let p : opposite r ≡ moved_point (pos 0 -ℤ left r) (pos 0 -ℤ top r) at_zero = cc (x, y) in
      ap (λ (q : Point). dimensions (drawn_at q)) p
      ∙ ap dimensions (text_moved (pos 0 -ℤ left r) (pos 0 -ℤ top r) (u8g2 font) asked (measured_answer (u8g2 font) false) (drawn_answer (u8g2 font) false))
      ∙ dimensions_moved (pos 0 -ℤ left r) (pos 0 -ℤ top r) (drawn_at at_zero)

  to_corner : moved_rectangle (pos 0 -ℤ left r) (pos 0 -ℤ top r) r ≡ in_corner r
  to_corner =
      let x : (pos 0 -ℤ left r) +ℤ left r ≡ pos 0 = omega (zarith, minus (pos 0) (left r), plus (pos 0 -ℤ left r) (left r)) in
      let y : (pos 0 -ℤ top r) +ℤ top r ≡ pos 0 = omega (zarith, minus (pos 0) (top r), plus (pos 0 -ℤ top r) (top r)) in
      cc (x, y)

  seen_answer : SeenWhole advance r answers
  seen_answer = subst (SeenWhole advance r) (sym moved_there) (by (alike_or_cut (u8g2 font) s.line_height s.align (origin (u8g2 font) asked) (code_points_of text)))
    where
      by : AlikeOrCut (drawn_at at_zero) (measured_text (u8g2 font) asked)
          → SeenWhole advance r (moved_dimensions (pos 0 -ℤ left r) (pos 0 -ℤ top r) (dimensions (drawn_at at_zero)))
      by (inl e) = rw (e, at_zero_lem.1) (ap (boxed advance) to_corner)
      by (inr e) = rw e.1 (inr refl)

  -- on a framebuffer that is as high as the box, in colours for it
  module _ (color : FontColor) (p : Framebuffer) (buffer : List ℕ) (f : BufferFits (length buffer) p) (high : r.size.height ≤ p.height)
      (bits : color_off p.format color ≡ false) where
    fits : (framebuffer_cause p buffer).applies ≡ false
    fits =
        let whole : p.height % per_byte p.format ≡ 0 = omega (arith, f.whole, div-add-mod' p.height (per_byte p.format)) in
        rw (side_in p.width f.some f.wide, side_in p.height (omega (arith, near.some.high, high)) f.high, whole, eq-eqb (length buffer) (size_in_bytes p) f.area)

    by_background : (t : Bool) → SeenWhole advance r (pick t (refused 6 0) answers)
    by_background true = inl refl
    by_background false = seen_answer

    -- All of the text is seen.
    pub seen_whole : SeenWhole advance r (draw (u8g2 font) (whole text s (opposite r)) color p buffer)
    unfolding draw
    seen_whole =
        let asked-there = limits (u8g2 font) (whole text s (opposite r)) (on p buffer) in
        let background = background_cause color (header font).supports_background_color in
        let there : LimitsPass font (whole text s (opposite r)) (on p buffer) =
        record { length_in = passes.length_in; header_in = passes.header_in; size_in = fits; text_in = passes.text_in; place_in = stands } in
        subst (SeenWhole advance r) (sym (passed answers asked-there (color_cause p.format color ∷ background ∷ []) (limits_off font _ _ there)))
        (rw bits (by_background background.applies))
