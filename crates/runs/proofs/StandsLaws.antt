-- A reader of runs that stands at a pixel of a glyph whose runs the font has: which pixel that is, and that the reader goes
-- on to the next pixel and to the next pair. Assumes nothing.
use Rattle.integers.proofs.Prelude.{◌≡◌, refl, sym, ap, ◌∙◌, Bool, true, false, List, ℕ, ◌+◌, ◌-◌, ◌*◌, ◌≤◌, ◌<◌, sub-zero, arith, ltb, length, get_or}
use Rattle.integers.proofs.Prelude.{drop, get_or-drop, drop-drop, ltb-true}
use Rattle.integers.proofs.Choices.{impossible}
use Rattle.integers.specs.Integers.{pick}
use Rattle.definitions.specs.Vocabulary.{FontReader, GlyphReader}
use Rattle.definitions.specs.Font.{u8g2, pixel_list, pixels_of}
use Rattle.definitions.specs.Runs.{Pixels, pixels, cut, glyph_pixels}
use Rattle.definitions.proofs.RunsLaws.{pixel_in_pair, pixels_after_pair}
use Rattle.runs.specs.declared.Runs.{Runs}
use Rattle.runs.specs.RunReads.{Pair, Ends, Short, is_whole, on_pair, in_font, pair_at, next_pair}
use Rattle.runs.specs.Stands.{Stands, StandsAt, CheckedPixel}
use Rattle.runs.proofs.RunReadsLaws.{given, first_gives, next_gives, some_pixels}

-- a pair that leads to pixels is one that the font has
had : (font : List ℕ) (q : Runs) (rest : Runs → Pixels) (ps : List ℕ) → on_pair rest (in_font font q) ≡ pixels ps → (q.bit_pos < 8 * length font) × (rest q ≡ pixels ps)
had font q rest ps = split (ltb q.bit_pos (8 * length font)) refl
  where
    split : (t : Bool) → ltb q.bit_pos (8 * length font) ≡ t → on_pair rest (pick t (Pair q) Ends) ≡ pixels ps → (q.bit_pos < 8 * length font) × (rest q ≡ pixels ps)
    split true h e = (ltb-true q.bit_pos (8 * length font) h, e)
    split false h e = impossible cc

module _ {font : List ℕ} {m0 m1 n : ℕ} {ps : List ℕ} {runs : Runs} {offset i : ℕ} (s : Stands font m0 m1 n ps runs offset i) where
  -- The pixel at which it stands.
  pub stands_pixel : offset < runs.zeros + runs.ones → i < n → get_or ps i 0 ≡ pick (ltb offset runs.zeros) 0 1
  stands_pixel h k =
      ap (λ (j : ℕ). get_or ps j 0) (sym s.index)
      ∙ sym (get_or-drop s.before ps offset 0)
      ∙ pixel_in_pair font m0 m1 (n - s.before) runs.zeros runs.ones runs.bit_pos (drop s.before ps) offset h (omega (arith, s.index)) s.rest

  -- Some pixels on.
  pub stands_on : (k : ℕ) → Stands font m0 m1 n ps runs (offset + k) (i + k)
  stands_on k = record { before = s.before; index = omega (arith, s.index); rest = s.rest; place = s.place }

  -- The pair is passed: the font has a next one, and it stands in that.
  pub stands_next : {q : Runs} → runs.zeros + runs.ones ≤ offset → i < n → in_font font q ≡ next_pair font m0 m1 runs
      → Stands font m0 m1 n ps q (offset - (runs.zeros + runs.ones)) i
  stands_next {q} h k e =
      let c = runs.zeros + runs.ones in
      let after = pixels_after_pair font m0 m1 (n - s.before) runs.zeros runs.ones runs.bit_pos (drop s.before ps) (omega (arith, s.index)) s.rest in
      let fewer : n - s.before - c ≡ n - (s.before + c) = omega arith in
      let p = had font q (given font m0 m1 (n - s.before - c)) (drop c (drop s.before ps)) (rw e (sym (next_gives font m0 m1 (n - s.before - c) runs) ∙ after)) in
      record {
        before = s.before + c;
        index = omega (arith, s.index);
        rest = rw (← fewer) (p.1 ∙ ap pixels (drop-drop c s.before ps));
        place = p.0;
      }

-- Where the first pair leads to a pixel, the pair and the offset do.
pub record Leads (font : List ℕ) (m0 m1 pixel : ℕ) (first : Runs) (offset₀ : ℕ) (runs : Runs) (offset : ℕ) : Type 0 where
  pub short : Short runs
  pub leads : (n : ℕ) (ps : List ℕ) → pixel < n → Stands font m0 m1 n ps first offset₀ pixel → Stands font m0 m1 n ps runs offset pixel

-- ---- a glyph whose runs the font has

whole : (r : Pixels) → is_whole r ≡ true → r ≡ pixels (pixel_list r)
whole (pixels ps) e = refl
whole cut e = impossible cc

-- Counted from the first pair a pixel is where it is among all.
pub stands_first : {font : List ℕ} {head : FontReader} {g : GlyphReader} {i : ℕ} {q : Runs} → CheckedPixel font head g i
    → in_font font q ≡ pair_at font head.m0 head.m1 g.bit_pos → StandsAt font head g q i i
stands_first {font} {head} {g} {i} {q} p e =
    let n = g.glyph_width * g.glyph_height in
    let all : glyph_pixels font head g ≡ pixels (pixels_of (u8g2 font) g) = rw (← p.checked.opened.read) (whole (glyph_pixels font head g) p.checked.whole) in
    let h = had font q (given font head.m0 head.m1 n) (pixels_of (u8g2 font) g)
    (rw e (sym (some_pixels font head g (λ z. omega (arith, p.within)) ∙ first_gives font head.m0 head.m1 n g.bit_pos) ∙ all)) in
    record { before = 0; index = omega arith; rest = rw sub-zero h.1; place = h.0 }

-- So the pair and the offset that the first pair leads to are at the pixel.
pub leads_there : {font : List ℕ} {head : FontReader} {g : GlyphReader} {i offset : ℕ} {q r : Runs} → CheckedPixel font head g i
    → in_font font q ≡ pair_at font head.m0 head.m1 g.bit_pos → Leads font head.m0 head.m1 i q i r offset → StandsAt font head g r offset i
leads_there p e l = l.leads _ _ p.within (stands_first p e)
