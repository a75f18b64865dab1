-- What four calls answered and left, as Agreement.antt speaks of it, and what they come to by the definitions.
use Rattle.std.specs.Prelude.{List, ℕ}
use Rattle.definitions.specs.Vocabulary.{FontColor}
use Rattle.definitions.specs.Refusals.{Outcome, outcome}
use Rattle.definitions.specs.Font.{Font}
use Rattle.definitions.specs.Calls.{Request}
use Rattle.definitions.specs.Agreement.{Ground, Results, after}
use Rattle.agreement.specs.declared.twice.Answers.{Answers}

abbrev pub as_results : {A : Type 0} → Answers A → List ℕ → List ℕ → Results A
as_results answers first second = record {
  first = outcome answers.first.result;
  second = outcome answers.second.result;
  first_measured = outcome answers.first_measured.result;
  second_measured = outcome answers.second_measured.result;
  first_after = first;
  second_after = second;
}

-- by calls that draw and measure so: `results` of plain ones, `aligned_results` of aligned ones
abbrev pub results_of : {A : Type 0} → (Font → Request → FontColor → Ground → Outcome A) → (Font → Request → Outcome A)
    → Font → Font → Request → FontColor → Ground → Ground → Results A
results_of draws measures f g r color p q = record {
  first = draws f r color p;
  second = draws g r color q;
  first_measured = measures f r;
  second_measured = measures g r;
  first_after = after f r color p;
  second_after = after g r color q;
}
