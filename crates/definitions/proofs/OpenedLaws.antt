-- A font that opens: neither cause applies, so every limit holds. Assumes nothing.
use Rattle.integers.proofs.Prelude.{◌≡◌, refl, sym, subst, false, ◌||◌, List, [], ℕ, ◌≤◌, ◌<◌, arith, ltb, eqb, length, get_or, w8, SFits, ltb-false, eqb-false}
use Rattle.definitions.specs.Vocabulary.{FontReader}
use Rattle.integers.proofs.Laws.{zarith, signed8_fits}
use Rattle.definitions.specs.Refusals.{Outcome, success, refused, unless_refused, any_applies}
use Rattle.definitions.specs.Header.{byte, header, length_off, header_off, width_off, signed_width_off, font_causes, Opened}
use Rattle.definitions.specs.Calls.{open_font}
use Rattle.definitions.proofs.RefusalLaws.{or_false, none_applies, succeeded}
use Rattle.definitions.proofs.ComesLaws.{comes_stopped}

width_in : (b : ℕ) → width_off b ≡ false → b ≤ 8
width_in b e = ltb-false 8 b e

signed_width_in : (b : ℕ) → signed_width_off b ≡ false → (1 ≤ b) × (b ≤ 8)
signed_width_in b e =
    let z = eqb-false b 0 (or_false (eqb b 0) (ltb 8 b) e).0 in
    (omega arith, ltb-false 8 b (or_false (eqb b 0) (ltb 8 b) e).1)

module _ (font : List ℕ) where
  pub opened_limits : length_off font ≡ false → header_off font ≡ false → Opened font (header font)
  unfolding header header_off
  opened_limits p q =
      let l = or_false _ _ p in
      let h1 = or_false _ _ q in
      let h2 = or_false _ _ h1.0 in
      let h3 = or_false _ _ h2.0 in
      let h4 = or_false _ _ h3.0 in
      let h5 = or_false _ _ h4.0 in
      let h6 = or_false _ _ h5.0 in
      let h7 = or_false _ _ h6.0 in
      let h8 = or_false _ _ h7.0 in
      record {
        least = ltb-false (length font) 23 l.0;
        most = ltb-false 1048576 (length font) l.1;
        read = refl;
        m0 = width_in (byte font 2) h8.0;
        m1 = width_in (byte font 3) h8.1;
        w = width_in (byte font 4) h7.1;
        h = width_in (byte font 5) h6.1;
        x = signed_width_in (byte font 6) h5.1;
        y = signed_width_in (byte font 7) h4.1;
        d = signed_width_in (byte font 8) h3.1;
        width = omega zarith;
        height = omega zarith;
      }

  pub opened_by_causes : any_applies (font_causes font) ≡ false → Opened font (header font)
  opened_by_causes e =
      let l = or_false (length_off font) (header_off font || false) e in
      opened_limits l.0 (or_false (header_off font) false l.1).0

  pub passes_font : {head : FontReader} → open_font font ≡ success head → any_applies (font_causes font) ≡ false
  unfolding open_font
  passes_font {head} e = (succeeded (success (header font)) head (font_causes font) e).0

  pub opened : (head : FontReader) → open_font font ≡ success head → Opened font head
  unfolding open_font
  opened head e =
      let f = (succeeded (success (header font)) head (font_causes font) e).1 in
      let same : header font ≡ head = cc in
      subst (λ (x : FontReader). Opened font x) same (opened_by_causes (passes_font e))

  -- the heights of a font of bytes are bytes
  pub heights_fit : ((i : ℕ) → get_or font i 0 < 256) → {head : FontReader} → Opened font head → SFits w8 head.ascent × SFits w8 head.descent
  unfolding header
  heights_fit small o =
      subst (λ (h : FontReader). SFits w8 h.ascent × SFits w8 h.descent) (sym o.read)
      (signed8_fits (get_or font 13 0) (small 13), signed8_fits (get_or font 14 0) (small 14))

  -- A call on a font that does not open is refused as opening is; on one that opens it goes on.
  module _ {A : Type 0} (rest : Outcome A) where
    pub open_refused : (n c : ℕ) → open_font font ≡ refused n c → unless_refused (font_causes font) rest ≡ refused n c
    unfolding open_font
    open_refused n c e = sym (comes_stopped {rest = rest} {before = []} {after = []} (header font) (font_causes font) [] e).answered

    pub open_goes_on : (head : FontReader) → open_font font ≡ success head → unless_refused (font_causes font) rest ≡ rest
    open_goes_on head e = none_applies rest (font_causes font) (passes_font e)
