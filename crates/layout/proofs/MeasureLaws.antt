-- The letters of a text, and a loop that counts them as plain measuring does (drawing's): what holds where `left` is
-- left of the text, and one turn of it. Assumes nothing.
use Rattle.integers.proofs.Prelude.{◌≡◌, Bool, List, ℕ, arith}
use Rattle.definitions.specs.Vocabulary.{FontReader, Point, RenderedDimensions, GlyphReader}
use Rattle.definitions.specs.Refusals.{success, refused}
use Rattle.definitions.specs.Header.{Opened}
use Rattle.definitions.specs.Glyph.{glyph}
use Rattle.definitions.specs.Utf8.{malformed, first_character, characters, decode, code_points}
use Rattle.definitions.specs.Text.{Answer, shows}
use Rattle.definitions.specs.TextSteps.{step, measure_from, start}
use Rattle.definitions.specs.Font.{u8g2, measured_answer}
use Rattle.definitions.proofs.GlyphLaws.{glyph_range}
use Rattle.definitions.proofs.TextLaws.{measure_next, measure_stops}
use Rattle.definitions.proofs.Utf8Laws.{utf8_characters, character_count}
use Rattle.utf8.specs.Splits.{FirstAndRest}
use Rattle.utf8.proofs.SplitLaws.{split_length}
use Rattle.checks.specs.Origins.{CheckedLine}
use Rattle.answers.proofs.AnswersLaws.{shown_glyph}
use Rattle.layout.specs.Ranges.{Within, HasRoom}
use Rattle.layout.proofs.LoopLaws.{Reached, reached_start, reached_end, reached_next, reached_stops}
use Rattle.layout.proofs.RangeLaws.{Small, in_range_small, advanced_start, has_room, within_next}

-- the glyphs that the letters of an opened font show are small
pub measured_small : {font : List ℕ} {head : FontReader} → Opened font head → (skip : Bool) (c : ℕ) (g : GlyphReader) → measured_answer (u8g2 font) skip c ≡ shows g → Small g
measured_small {font} {head} o skip c g e = in_range_small (glyph_range font head c g o (shown_glyph skip (glyph font c) g e))

-- the code points of a checked text
pub checked_characters : {text : List ℕ} {origin : Point} {line_height : ℕ} → CheckedLine text origin line_height → decode text ≡ characters (code_points (decode text))
checked_characters {text} k = utf8_characters (decode text) k.utf8

-- ---- the loop, from the dimensions `before` on

pub record Measured (answers : ℕ → Answer) (line_height : ℕ) (origin : Point) (text : List ℕ) (before d : RenderedDimensions) (left : List ℕ) : Type 0 where
  pub reached : Reached (measure_from answers line_height origin) (Within line_height) before text d left

-- a text begins with nothing before it
pub within_start : {text : List ℕ} {origin : Point} {line_height : ℕ} → CheckedLine text origin line_height → Within line_height 0 (code_points (decode text)) start
within_start {text} k =
    record { advance = advanced_start _ (omega (arith, character_count text (checked_characters k), k.short)) k.line; box = tt }

module _ {answers : ℕ → Answer} {line_height : ℕ} {origin : Point} {text : List ℕ} {before : RenderedDimensions} (k : CheckedLine text origin line_height) where
  unfoldable pub measured_start : Within line_height 0 (code_points (decode text)) before → Measured answers line_height origin text before before text
  measured_start w = record { reached = reached_start (checked_characters k) w }

  module _ {d : RenderedDimensions} {left : List ℕ} (r : Measured answers line_height origin text before d left) where
    pub measured_room : HasRoom origin d
    measured_room = has_room k (omega (arith, r.reached.inside, k.short)) r.reached.within

    pub measured_end : first_character left ≡ malformed → measure_from answers line_height origin before (code_points (decode text)) ≡ success d
    unfolding measure_from
    measured_end h = reached_end r.reached h

    module _ {c : ℕ} {tail : List ℕ} (first : FirstAndRest left c tail) where
      unfoldable pub measured_next : (small : (c : ℕ) (g : GlyphReader) → answers c ≡ shows g → Small g) {d' : RenderedDimensions}
          → step answers line_height origin d c ≡ success d' → Measured answers line_height origin text before d' tail
      measured_next small e =
          record {
            reached = reached_next r.reached first (λ cs. measure_next answers line_height origin d c cs e) (λ cs w.
                within_next small measured_room w (split_length first).0 e);
          }

      pub measured_stops : {m e : ℕ} → step answers line_height origin d c ≡ refused m e → measure_from answers line_height origin before (code_points (decode text)) ≡ refused m e
      measured_stops e = reached_stops r.reached first (λ cs. measure_stops answers line_height origin d c cs e)
