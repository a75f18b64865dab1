-- Drawing letters: each of them, the loop over them, and their sums. Assumes nothing.
use Rattle.integers.proofs.Prelude.{◌≡◌, refl, sym, ap, ◌∙◌, Bool, List, ◌∷◌, ℕ, eqb, length}
use Rattle.integers.specs.Integers.{pick}
use Rattle.definitions.specs.Vocabulary.{FontReader, Point, RenderedDimensions, GlyphReader, LookupSteps, FontColor, Framebuffer}
use Rattle.definitions.specs.Refusals.{Outcome, success, refused}
use Rattle.definitions.specs.Lookup.{no_steps}
use Rattle.definitions.specs.Header.{Opened}
use Rattle.definitions.specs.Utf8.{malformed, first_character, decode, code_points}
use Rattle.definitions.specs.Text.{Answer, shows}
use Rattle.definitions.specs.TextSteps.{step, step_shown, draw_from}
use Rattle.definitions.specs.Font.{u8g2, drawn_answer}
use Rattle.definitions.specs.Sums.{plus_steps, brings, sums}
use Rattle.definitions.proofs.LetterRefusals.{drawn_blames}
use Rattle.definitions.proofs.GlyphLaws.{glyph_range}
use Rattle.definitions.proofs.TextLaws.{draw_next}
use Rattle.utf8.specs.Splits.{FirstAndRest}
use Rattle.utf8.proofs.SplitLaws.{split_next}
use Rattle.answers.proofs.AnswersLaws.{drawn_glyph}
use Rattle.checks.specs.Origins.{CheckedLine}
use Rattle.layout.specs.Ranges.{Within}
use Rattle.layout.proofs.RangeLaws.{Small, in_range_small}
use Rattle.layout.proofs.LoopLaws.{reached_start, reached_last, reached_next}
use Rattle.layout.proofs.MeasureLaws.{Measured, measured_start, measured_next}
use Rattle.layout.proofs.SumLoopLaws.{Summed, summed_next, summed_stops, step_goes_on, step_stops}

-- ---- a letter

pub drawn_small : {font : List ℕ} {head : FontReader} → Opened font head → (skip : Bool) (c : ℕ) (g : GlyphReader)
    → drawn_answer (u8g2 font) skip c ≡ shows g → Small g
drawn_small {font} {head} o skip c g e = in_range_small (glyph_range font head c g o (drawn_glyph font skip c g e).0)

-- ---- the loop: what holds where `left` is left of the text

module _ (p : Framebuffer) (color : FontColor) (pixels_of : GlyphReader → List ℕ) (answers : ℕ → Answer) (line_height : ℕ) (origin : Point) (text before : List ℕ) (d₀ : RenderedDimensions) where
  -- what the whole text draws
  abbrev whole : List ℕ
  whole = draw_from p color pixels_of answers line_height origin d₀ before (code_points (decode text))

  -- The rest of the text draws from here on what the whole text draws from its start.
  pub record DrawnTo (buffer : List ℕ) (d : RenderedDimensions) (left : List ℕ) : Type 0 where
    pub reached : Measured answers line_height origin text d₀ d left
    pub kept : length buffer ≡ length before
    pub drawn : whole ≡ draw_from p color pixels_of answers line_height origin d buffer reached.reached.rest

  module _ (k : CheckedLine text origin line_height) where
    pub drawn_start : Within line_height 0 (code_points (decode text)) d₀ → DrawnTo before d₀ text
    unfolding measured_start reached_start
    drawn_start w = record { reached = measured_start k w; kept = refl; drawn = refl }

    module _ {buffer : List ℕ} {d : RenderedDimensions} {left : List ℕ} (t : DrawnTo buffer d left) where
      pub drawn_end : first_character left ≡ malformed → buffer ≡ whole
      unfolding draw_from
      drawn_end h = sym (t.drawn ∙ rw (reached_last t.reached.reached h))

      module _ {c : ℕ} {tail : List ℕ} (first : FirstAndRest left c tail) where
        here : whole ≡ draw_from p color pixels_of answers line_height origin d buffer (c ∷ (split_next first t.reached.reached.decoded).rest)
        here = t.drawn ∙ ap (draw_from p color pixels_of answers line_height origin d buffer) (split_next first t.reached.reached.decoded).is

        pub drawn_next : (small : (c : ℕ) (g : GlyphReader) → answers c ≡ shows g → Small g) {d' : RenderedDimensions} {buffer' : List ℕ}
            → step answers line_height origin d c ≡ success d' → buffer' ≡ step_shown p color pixels_of answers origin d c buffer → length buffer' ≡ length buffer
            → DrawnTo buffer' d' tail
        unfolding measured_next reached_next
        drawn_next small {d'} {buffer'} e s l =
            let cs = (split_next first t.reached.reached.decoded).rest in
            record {
              reached = measured_next k t.reached first small e;
              kept = l ∙ t.kept;
              drawn = here
                  ∙ draw_next answers line_height origin d c cs p color pixels_of buffer e
                  ∙ ap (λ (b : List ℕ). draw_from p color pixels_of answers line_height origin d' b cs) (sym s);
            }

        pub drawn_stops : {m k : ℕ} {buffer' : List ℕ}
            → step answers line_height origin d c ≡ refused m k → buffer' ≡ step_shown p color pixels_of answers origin d c buffer
            → buffer' ≡ whole
        unfolding draw_from
        drawn_stops e s = s ∙ sym (here ∙ rw e)

-- ---- .. with the sums

module _ {font : List ℕ} (skip : Bool) {text : List ℕ} {sum : LookupSteps} {left : List ℕ} (s : Summed font (drawn_answer (u8g2 font) skip) text sum left)
    {c : ℕ} {tail : List ℕ} (first : FirstAndRest left c tail) {q : LookupSteps} (brought : q ≡ brings (u8g2 font).steps c)
    {sum' : LookupSteps} (sums_up : sum' ≡ plus_steps sum q) (line_height : ℕ) (origin : Point) (d : RenderedDimensions) where
  pub sum_next : {d' : RenderedDimensions} → step (drawn_answer (u8g2 font) skip) line_height origin d c ≡ success d' → Summed font (drawn_answer (u8g2 font) skip) text sum' tail
  sum_next e = summed_next s first brought sums_up (step_goes_on (drawn_answer (u8g2 font) skip) line_height origin d c e)

  pub sum_stops : {m k : ℕ} → step (drawn_answer (u8g2 font) skip) line_height origin d c ≡ refused m k
      → {o : Outcome RenderedDimensions} → o ≡ refused m k → pick (eqb m 7) sum' no_steps ≡ sums (u8g2 font) text o
  sum_stops e f =
      let stop = step_stops (drawn_answer (u8g2 font) skip) line_height origin d c e in
      summed_stops s first brought sums_up f stop (drawn_blames font skip c stop.1)
