-- What one call answered and left on a framebuffer of any format and on one of as many pixels in bytes (request A4).
use Rattle.std.specs.Prelude.{◌≡◌, List, ℕ}
use Rattle.definitions.specs.Vocabulary.{FontColor}
use Rattle.definitions.specs.Refusals.{Outcome, outcome}
use Rattle.definitions.specs.Framebuffer.{in_bytes, unpacked}
use Rattle.definitions.specs.Font.{Font}
use Rattle.definitions.specs.Calls.{Request}
use Rattle.definitions.specs.Agreement.{Ground, on, after}
use Rattle.definitions.specs.Unpacking.{Unpackable}
use Rattle.agreement.specs.declared.formats.InBoth.{InBoth}

pub record Both (A : Type 0) : Type 0 where
  pub answer : Outcome A
  pub after : List ℕ
  pub answer_in_bytes : Outcome A
  pub after_in_bytes : List ℕ

abbrev pub as_both : {A : Type 0} → InBoth A → List ℕ → List ℕ → Both A
as_both answers bytes pixels = record {
  answer = outcome answers.drawn.result;
  after = bytes;
  answer_in_bytes = outcome answers.drawn_in_bytes.result;
  after_in_bytes = pixels;
}

-- by a call that draws so; `pixels` is what the framebuffer in bytes held before
abbrev pub both_by : {A : Type 0} → (Font → Request → FontColor → Ground → Outcome A) → Font → Request → FontColor → Ground → List ℕ
    → Both A
both_by draws font r color p pixels =
    let q = on (in_bytes p.framebuffer) pixels in
    record {
      answer = draws font r color p;
      after = after font r color p;
      answer_in_bytes = draws font r color q;
      after_in_bytes = after font r color q;
    }

-- Both calls answered the same, with the same sums, and left the same pixels.
pub record Alike {A : Type 0} (p : Ground) (answers : InBoth A) (after after_in_bytes : List ℕ) : Type 0 where
  pub same_answer : outcome answers.drawn_in_bytes.result ≡ outcome answers.drawn.result
  pub same_steps : answers.drawn_in_bytes.steps ≡ answers.drawn.steps
  pub same_pixels : after_in_bytes ≡ unpacked p.framebuffer after

-- So it is where the size is within limits, each pixel can take the colours, and both held the same pixels.
abbrev pub BothAlike : {A : Type 0} → FontColor → Ground → List ℕ → InBoth A → List ℕ → List ℕ → Type 0
BothAlike color p pixels answers after after_in_bytes =
    Unpackable color p → pixels ≡ unpacked p.framebuffer p.before → Alike p answers after after_in_bytes
