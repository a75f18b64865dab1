-- What request A3 changed, and nothing more. Assumes nothing.
use Rattle.integers.proofs.Prelude.{◌≡◌, refl, sym, ap, ◌∙◌, Bool, true, false, ◌&&◌, not, List, [], ◌∷◌, ◌++◌, map, ℕ, zero, suc, ◌+◌, ◌-◌, ◌≤◌, ◌<◌}
use Rattle.integers.proofs.Prelude.{dec_lt, zero-add, arith, pos, neg_ℤ, take, replicate, eqb, le-leb, lt-leb}
use Rattle.integers.proofs.Choices.{impossible}
use Rattle.integers.specs.Integers.{pick, signed8}
use Rattle.definitions.specs.Vocabulary.{LookupSteps, GlyphReader, Framebuffer, FontColor}
use Rattle.definitions.specs.Refusals.{Outcome, success, refused}
use Rattle.definitions.specs.Header.{byte, header, header_off}
use Rattle.definitions.specs.Bits.{low_bits, bits, number, read_at}
use Rattle.definitions.specs.Lookup.{Search, found, missing, short, Record, here, next, last, end, record8, record16, looked, follow, chain, jump_table, no_steps, search}
use Rattle.definitions.specs.Glyph.{fields, from_search, glyph}
use Rattle.definitions.specs.Text.{Answer, answer}
use Rattle.definitions.specs.Font.{u8g2, drawable}
use Rattle.definitions.specs.FirstRule.{code_first, first_search, first_u8g2, jump0, on_jump0, matches_jump0, without_steps, one_less, amended, none_matches_jump0}
use Rattle.definitions.specs.Calls.{Request, code_points_of, origin, laid, measured_text, drawn_text, measure, measure_aligned, draw, draw_buffer, draw_aligned}
use Rattle.definitions.specs.FontT.{T}
use Rattle.definitions.proofs.TextLaws.{Each, each_map}
use Rattle.definitions.proofs.AlikeLaws.{aligned_alike}

-- ---- closed inputs

-- T's header with offsets of 0, and a record with jump 0: of the newline, and of U+0100 behind an entry of the jump table
abbrev newline_on_jump0 : List ℕ
newline_on_jump0 = take 17 T ++ replicate 6 0 ++ 10 ∷ 0 ∷ 138 ∷ 62 ∷ 2 ∷ []

abbrev wide_on_jump0 : List ℕ
wide_on_jump0 = take 17 T ++ replicate 6 0 ++ 0 ∷ 4 ∷ 255 ∷ 255 ∷ 1 ∷ 0 ∷ 0 ∷ 138 ∷ 62 ∷ 2 ∷ []

-- By the first rule U+0000 finds the record 0 0 that ends T, and T ends there: 8. With nine zeros behind it, it moves back by 4.
pub nul_in_t : (first_search T 0 ≡ found 35 record { records = 3; entries = 0 }) × ((first_u8g2 T).glyph 0 ≡ refused 8 0)
unfolding T first_search code_first chain header header_off signed8 fields read_at bits low_bits number
nul_in_t = (refl, refl)

pub nul_and_nine_zeros : (first_u8g2 (T ++ replicate 9 0)).glyph 0
    ≡ success record { glyph_width = 0; glyph_height = 0; offset_x = neg_ℤ (pos 2); offset_y = neg_ℤ (pos 4); advance = neg_ℤ (pos 4); bit_pos = 294 }
unfolding T first_search code_first chain header header_off signed8 fields read_at bits low_bits number
nul_and_nine_zeros = refl

-- "-4A" is left to the Rust's judgement, "-" and U+0000 is not. Code points are judged, and not fonts; a newline and U+0100 are not
-- looked up by the rule that changed, whatever records the font has of them.
pub judged : map (λ (k : List ℕ × List ℕ). none_matches_jump0 k.0 k.1)
    ((T, 45 ∷ 52 ∷ 65 ∷ []) ∷ (T, 45 ∷ 0 ∷ []) ∷ (newline_on_jump0, 10 ∷ []) ∷ (newline_on_jump0, 9 ∷ []) ∷ (wide_on_jump0, 256 ∷ []) ∷ [])
    ≡ true ∷ false ∷ true ∷ true ∷ true ∷ []
unfolding T none_matches_jump0 first_search code_first search record16 jump_table chain header header_off signed8
judged = refl

-- ---- one code point

-- the record that ended the chain taken back
one_less_lem : (steps : LookupSteps) → one_less (looked steps) ≡ steps
one_less_lem steps = let e : steps.records + 1 - 1 ≡ steps.records = omega arith in rw e

-- what is left of a font from `at` on
abbrev Rest : List ℕ → ℕ → List ℕ → Type 0
Rest font at s = (i : ℕ) → byte font (at + i) ≡ byte s i

one_on : (font : List ℕ) (at b : ℕ) (s : List ℕ) → Rest font at (b ∷ s) → Rest font (suc at) s
one_on font at b s rest i = let e : suc at + i ≡ at + suc i = omega arith in rw e (rest (suc i))

chain_amended : (c : ℕ) (font : List ℕ) (steps : LookupSteps) (at n : ℕ) (s : List ℕ) → Rest font at s
    → chain (record8 c) steps at n s ≡ amended font (chain (code_first c) steps at n s)
unfolding chain record8 code_first
chain_amended c font steps at n [] rest = refl
chain_amended c font steps at (suc n) (b ∷ s) rest = chain_amended c font steps (suc at) n s (one_on font at b s rest)
chain_amended c font steps at zero (b ∷ []) rest = refl
chain_amended c font steps at zero (b ∷ j ∷ s) rest =
    by (λ n. chain_amended c font (looked steps) (suc at) n (j ∷ s) (one_on font at b (j ∷ s) rest)) (eqb j 0) refl (eqb b c)
  where
    after : (List ℕ → Record) → ℕ → Search
    after look jump = chain look (looked steps) (suc at) (jump - 1) (j ∷ s)

    before_glyph : byte font (at + 2 - 1) ≡ j
    before_glyph = let e : at + 2 - 1 ≡ at + 1 = omega arith in rw e (rest 1)

    by : ((n : ℕ) → chain (record8 c) (looked steps) (suc at) n (j ∷ s) ≡ amended font (chain (code_first c) (looked steps) (suc at) n (j ∷ s)))
        → (t : Bool) → eqb j 0 ≡ t → (u : Bool)
        → follow (pick t end (pick u (here 2) (next j))) steps at (after (record8 c))
        ≡ amended font (follow (pick u (here 2) (pick t last (next j))) steps at (after (code_first c)))
    by later true e true = rw (before_glyph, e, one_less_lem steps)
    by later true e false = rw (one_less_lem steps)
    by later false e true = rw (before_glyph, e)
    by later false e false = later (j - 1)

module _ (font : List ℕ) (c : ℕ) where
  -- "a record with jump 0 ends the chain before its code is compared", and the "record count leaves out a record with jump 0": up to
  -- 255 it is neither found nor counted, and all else is as it was.
  pub up_to_255 : c ≤ 255 → search font c ≡ amended font (first_search font c)
  unfolding search first_search
  up_to_255 h = rw (le-leb c 255 h) (chain_amended c font no_steps 0 _ font (λ i. rw zero-add))

  -- From 256 on nothing is changed.
  pub from_256_on : 255 < c → search font c ≡ first_search font c
  unfolding first_search
  from_256_on h = rw (lt-leb c 255 h)

  -- So a code point that matches a record with jump 0 is unknown, and every other one has the answer that it had.
  answers : without_steps (search font c) ≡ pick (matches_jump0 font c) (missing no_steps) (without_steps (first_search font c))
  answers = by (dec_lt 255 c)
    where
      if_jump0 : (start : ℕ) (steps : LookupSteps) (t : Bool)
          → without_steps (pick t (missing (one_less steps)) (found start steps)) ≡ pick t (missing no_steps) (found start no_steps)
      if_jump0 start steps true = refl
      if_jump0 start steps false = refl

      at : (s : Search) → without_steps (amended font s) ≡ pick (on_jump0 font s) (missing no_steps) (without_steps s)
      at (found start steps) = if_jump0 start steps (jump0 font start)
      at (missing steps) = refl
      at short = refl

      by : Dec (255 < c) → without_steps (search font c) ≡ pick (matches_jump0 font c) (missing no_steps) (without_steps (first_search font c))
      by (yes h) = rw (lt-leb c 255 h) (ap without_steps (from_256_on h))
      by (no h) = let low : c ≤ 255 = omega arith in rw (le-leb c 255 low) (ap without_steps (up_to_255 low) ∙ at (first_search font c))

  pub lookup_alike : matches_jump0 font c ≡ false → without_steps (search font c) ≡ without_steps (first_search font c)
  lookup_alike e = answers ∙ rw e

  pub lookup_unknown : matches_jump0 font c ≡ true → without_steps (search font c) ≡ missing no_steps
  lookup_unknown e = answers ∙ rw e

  -- A glyph does not hang on the steps.
  by_answer : (s : Search) → from_search font c s ≡ from_search font c (without_steps s)
  by_answer (found start steps) = refl
  by_answer (missing steps) = refl
  by_answer short = refl

  glyph_alike : matches_jump0 font c ≡ false → (u8g2 font).glyph c ≡ (first_u8g2 font).glyph c
  unfolding glyph
  glyph_alike e = by_answer (search font c) ∙ ap (from_search font c) (lookup_alike e) ∙ sym (by_answer (first_search font c))

-- ---- texts

each_other : (font cs : List ℕ) → none_matches_jump0 font cs ≡ true → Each (λ c. eqb c 10 ≡ false → matches_jump0 font c ≡ false) cs
unfolding none_matches_jump0
each_other font [] e = tt
each_other font (c ∷ cs) e = by (each_other font cs) (eqb c 10) refl (matches_jump0 font c) refl e
  where
    by : (none_matches_jump0 font cs ≡ true → Each (λ c. eqb c 10 ≡ false → matches_jump0 font c ≡ false) cs)
        → (t : Bool) → eqb c 10 ≡ t → (u : Bool) → matches_jump0 font c ≡ u → (pick t true (not u) && none_matches_jump0 font cs) ≡ true
        → (eqb c 10 ≡ false → matches_jump0 font c ≡ false) × Each (λ c. eqb c 10 ≡ false → matches_jump0 font c ≡ false) cs
    by rest true n u m k = (λ o. impossible cc, rest k)
    by rest false n true m k = impossible cc
    by rest false n false m k = (λ o. m, rest k)

-- "only on texts whose letters up to 255 don't match a record with jump 0": there every call comes to what it came to by the first
-- rule, and leaves the same framebuffer. So equality with the Rust is claimed there, as it was.
module _ (font : List ℕ) (r : Request) (other : none_matches_jump0 font (code_points_of r.text) ≡ true) where
  -- by what letters answer to their glyphs, in measuring and in the call
  laid_alike : (a b : ℕ → Outcome GlyphReader → Answer)
      → laid (u8g2 font) r (λ c. a c ((u8g2 font).glyph c)) (λ c. b c ((u8g2 font).glyph c))
      ≡ laid (first_u8g2 font) r (λ c. a c ((first_u8g2 font).glyph c)) (λ c. b c ((first_u8g2 font).glyph c))
  laid_alike a b =
      let cs = code_points_of r.text in
      aligned_alike _ _ _ _ (origin (u8g2 font) r) r.line_height r.align cs
      (each_map _ _ (λ c h n. let e = glyph_alike font c (h n) in (ap (a c) e, ap (b c) e)) cs (each_other font cs other))

  measured_alike : measured_text (u8g2 font) r ≡ measured_text (first_u8g2 font) r
  measured_alike = laid_alike (λ c. answer r.skip) (λ c. answer r.skip)

  drawn_alike : drawn_text (u8g2 font) r ≡ drawn_text (first_u8g2 font) r
  drawn_alike = laid_alike (λ c. answer r.skip) (λ c o. answer r.skip (drawable (u8g2 font) c o))

  pub measure_alike : measure (u8g2 font) r ≡ measure (first_u8g2 font) r
  unfolding measure
  measure_alike = rw measured_alike

  pub measure_aligned_alike : measure_aligned (u8g2 font) r ≡ measure_aligned (first_u8g2 font) r
  unfolding measure_aligned
  measure_aligned_alike = rw measured_alike

  module _ (color : FontColor) (p : Framebuffer) (buffer : List ℕ) where
    pub draw_alike : draw (u8g2 font) r color p buffer ≡ draw (first_u8g2 font) r color p buffer
    unfolding draw
    draw_alike = rw drawn_alike

    pub draw_aligned_alike : draw_aligned (u8g2 font) r color p buffer ≡ draw_aligned (first_u8g2 font) r color p buffer
    unfolding draw_aligned
    draw_aligned_alike = rw drawn_alike

    pub buffer_alike : draw_buffer (u8g2 font) r color p buffer ≡ draw_buffer (first_u8g2 font) r color p buffer
    unfolding draw_buffer
    buffer_alike = rw drawn_alike
