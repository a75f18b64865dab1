-- The loop that measures a text line by line, and adds up the steps of its lookups. Assumes nothing.
use Rattle.integers.proofs.Prelude.{◌≡◌, refl, Bool, List, ℕ, ◌≤◌, arith, eqb}
use Rattle.integers.specs.Integers.{pick}
use Rattle.definitions.specs.Vocabulary.{FontReader, Point, RenderedDimensions, GlyphReader, LookupSteps, HorizontalAlignment}
use Rattle.definitions.specs.Refusals.{Outcome, success, refused}
use Rattle.definitions.specs.Header.{Opened}
use Rattle.definitions.specs.Lookup.{no_steps}
use Rattle.definitions.specs.Utf8.{malformed, first_character, decode, code_points}
use Rattle.definitions.specs.Text.{Answer, shows}
use Rattle.definitions.specs.TextSteps.{LineState, line_step, measure_lines_from, start_lines, lines_dimensions, measure_lines}
use Rattle.definitions.specs.Font.{u8g2, measured_answer}
use Rattle.definitions.specs.Sums.{plus_steps, brings, sums}
use Rattle.definitions.proofs.LetterRefusals.{measured_blames}
use Rattle.definitions.proofs.TextLaws.{lines_next, lines_stop}
use Rattle.definitions.proofs.Utf8Laws.{character_count}
use Rattle.utf8.specs.Splits.{FirstAndRest}
use Rattle.utf8.proofs.SplitLaws.{split_length}
use Rattle.checks.specs.Origins.{Checked}
use Rattle.checks.proofs.OriginLaws.{as_line}
use Rattle.layout.specs.Ranges.{LineHasRoom}
use Rattle.layout.proofs.RangeLaws.{Small, advanced_start}
use Rattle.text_lines.proofs.LinesLaws.{InLines, line_has_room, in_lines_next}
use Rattle.layout.proofs.LoopLaws.{Reached, reached_start, reached_end, reached_next, reached_stops}
use Rattle.layout.proofs.MeasureLaws.{checked_characters, measured_small}
use Rattle.layout.proofs.SumLoopLaws.{Summed, summed_next, summed_stops, line_goes_on, line_stops}

-- ---- the loop

pub record Aligned (answers : ℕ → Answer) (a : HorizontalAlignment) (line_height : ℕ) (origin : Point) (text : List ℕ) (s : LineState) (left : List ℕ) : Type 0 where
  pub reached : Reached (measure_lines_from answers a line_height origin) (InLines line_height) start_lines text s left

module _ {answers : ℕ → Answer} {a : HorizontalAlignment} {line_height : ℕ} {origin : Point} {text : List ℕ} (k : Checked text origin line_height) where
  pub aligned_start : Aligned answers a line_height origin text start_lines text
  aligned_start =
      let e = checked_characters (as_line k) in
      record {
        reached = reached_start e
            record { advance = advanced_start _ (omega (arith, character_count text e, k.short)) k.line; level = refl; line = tt; box = tt };
      }

  module _ {s : LineState} {left : List ℕ} (r : Aligned answers a line_height origin text s left) where
    short : r.reached.read ≤ 4096
    short = omega (arith, r.reached.inside, k.short)

    pub aligned_room : LineHasRoom origin s
    aligned_room = line_has_room short r.reached.within k

    pub aligned_end : first_character left ≡ malformed → success (lines_dimensions a origin s) ≡ measure_lines answers a line_height origin (code_points (decode text))
    unfolding measure_lines_from
    aligned_end h = rw (reached_end r.reached h)

    module _ {c : ℕ} {tail : List ℕ} (first : FirstAndRest left c tail) where
      pub aligned_next : (small : (c : ℕ) (g : GlyphReader) → answers c ≡ shows g → Small g) {s' : LineState}
          → line_step answers a line_height origin s c ≡ success s' → Aligned answers a line_height origin text s' tail
      aligned_next small e =
          record {
            reached = reached_next r.reached first (λ cs. lines_next answers a line_height origin s c cs e) (λ cs w.
                in_lines_next small a short aligned_room w (split_length first).0 e);
          }

      pub aligned_stops : {m e : ℕ} → line_step answers a line_height origin s c ≡ refused m e
          → refused m e ≡ measure_lines answers a line_height origin (code_points (decode text))
      aligned_stops e = rw (reached_stops r.reached first (λ cs. lines_stop answers a line_height origin s c cs e))

-- ---- .. with the sums

pub record MeasuredTo (font : List ℕ) (skip : Bool) (a : HorizontalAlignment) (line_height : ℕ) (origin : Point) (text : List ℕ) (s : LineState) (sum : LookupSteps) (left : List ℕ) : Type 0 where
  pub aligned : Aligned (measured_answer (u8g2 font) skip) a line_height origin text s left
  pub summed : Summed font (measured_answer (u8g2 font) skip) text sum left

module _ {font : List ℕ} {skip : Bool} {a : HorizontalAlignment} {line_height : ℕ} {origin : Point} {text : List ℕ} (k : Checked text origin line_height)
    {s : LineState} {sum : LookupSteps} {left : List ℕ} (r : MeasuredTo font skip a line_height origin text s sum left)
    {c : ℕ} {tail : List ℕ} (first : FirstAndRest left c tail) {q : LookupSteps} (brought : q ≡ brings (u8g2 font).steps c)
    {sum' : LookupSteps} (sums_up : sum' ≡ plus_steps sum q) where
  pub measured_next : {head : FontReader} → Opened font head → {s' : LineState} → line_step (measured_answer (u8g2 font) skip) a line_height origin s c ≡ success s'
      → MeasuredTo font skip a line_height origin text s' sum' tail
  measured_next o e = record {
    aligned = aligned_next k r.aligned first (measured_small o skip) e;
    summed = summed_next r.summed first brought sums_up (line_goes_on (measured_answer (u8g2 font) skip) a line_height origin s c e);
  }

  pub sum_stops : {m e : ℕ} → line_step (measured_answer (u8g2 font) skip) a line_height origin s c ≡ refused m e
      → {o : Outcome RenderedDimensions} → o ≡ refused m e → pick (eqb m 7) sum' no_steps ≡ sums (u8g2 font) text o
  sum_stops e f =
      let stop = line_stops (measured_answer (u8g2 font) skip) a line_height origin s c e in
      summed_stops r.summed first brought sums_up f stop (measured_blames font skip c stop.1)
