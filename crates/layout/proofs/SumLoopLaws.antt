-- A loop over the characters of a text that adds up the steps of their lookups: what holds where `left` is left of the
-- text, and one turn of it. Assumes nothing.
use Rattle.integers.proofs.Prelude.{◌≡◌, refl, sym, ap, subst, ◌∙◌, Bool, true, false, List, [], ◌∷◌, ◌++◌, append_assoc, append-nil, ℕ, ◌≤◌, arith, eqb}
use Rattle.integers.proofs.Prelude.{length, length-append}
use Rattle.integers.proofs.Choices.{impossible}
use Rattle.integers.specs.Integers.{pick}
use Rattle.definitions.specs.Vocabulary.{Point, RenderedDimensions, GlyphReader, LookupSteps, HorizontalAlignment}
use Rattle.definitions.specs.Refusals.{Outcome, success, refused}
use Rattle.definitions.specs.Lookup.{no_steps}
use Rattle.definitions.specs.Utf8.{malformed, first_character, characters, decode, code_points}
use Rattle.definitions.specs.Text.{Answer, shows, nothing, stops}
use Rattle.definitions.specs.TextSteps.{newline_step, answer_step, step, LineState, next_line, answer_of_line, line_step}
use Rattle.definitions.specs.Font.{u8g2}
use Rattle.definitions.specs.Sums.{plus_steps, brings, total, up_to, sums, Fits32}
use Rattle.definitions.proofs.SumsLaws.{total_next, up_to_first, total_fits}
use Rattle.definitions.proofs.TextLaws.{Each, each_append}
use Rattle.utf8.specs.Splits.{FirstAndRest}
use Rattle.utf8.proofs.SplitLaws.{split_length, split_next}
use Rattle.layout.proofs.LoopLaws.{Reached, reached_start, reached_end, reached_next}

-- ---- a letter that stops a text, and one that does not

abbrev pub Stops : (ℕ → Answer) → ℕ → ℕ → ℕ → Type 0
Stops answers c n k = (eqb c 10 ≡ false) × (answers c ≡ stops n k)

-- The text goes on after it.
abbrev pub GoesOn : (ℕ → Answer) → ℕ → Type 0
GoesOn answers c = (n k : ℕ) → Stops answers c n k → ⊥

-- What a loop makes of an answer: it goes on after a glyph and after nothing, and stops where the answer does.
record Heeds {A : Type 0} (on : Answer → Outcome A) : Type 0 where
  shown : (g : GlyphReader) {n k : ℕ} → on (shows g) ≡ refused n k → ⊥
  skipped : {n k : ℕ} → on nothing ≡ refused n k → ⊥
  stopped : (n k : ℕ) → on (stops n k) ≡ refused n k

module _ {A : Type 0} {on : Answer → Outcome A} (f : Heeds on) (answers : ℕ → Answer) (c : ℕ) (newline : A) where
  goes_on : {next : A} → pick (eqb c 10) (success newline) (on (answers c)) ≡ success next → GoesOn answers c
  goes_on e n k s =
      let one : pick (eqb c 10) (success newline) (on (answers c)) ≡ refused n k = rw (s.0, s.1) (f.stopped n k) in
      impossible cc

  stopped_there : {n k : ℕ} → pick (eqb c 10) (success newline) (on (answers c)) ≡ refused n k → Stops answers c n k
  stopped_there {n} {k} e = by (eqb c 10) refl (answers c) refl e
    where
      by : (t : Bool) → eqb c 10 ≡ t → (a : Answer) → answers c ≡ a → pick t (success newline) (on a) ≡ refused n k → Stops answers c n k
      by true p a q e = impossible cc
      by false p (shows g) q e = absurd (f.shown g e)
      by false p nothing q e = absurd (f.skipped e)
      by false p (stops m j) q e =
          let same : refused m j ≡ refused n k = sym (f.stopped m j) ∙ e in
          let h : m ≡ n = cc in
          let i : j ≡ k = cc in
          (p, rw (sym h, sym i) q)

-- in drawing
module _ (answers : ℕ → Answer) (line_height : ℕ) (origin : Point) (d : RenderedDimensions) (c : ℕ) where
  heeds_step : Heeds (answer_step origin d)
  heeds_step = record { shown = λ g e. impossible cc; skipped = λ e. impossible cc; stopped = λ n k. refl }

  pub step_goes_on : {next : RenderedDimensions} → step answers line_height origin d c ≡ success next → GoesOn answers c
  step_goes_on e = goes_on heeds_step answers c (newline_step line_height d) e

  pub step_stops : {n k : ℕ} → step answers line_height origin d c ≡ refused n k → Stops answers c n k
  step_stops e = stopped_there heeds_step answers c (newline_step line_height d) e

-- in measuring
module _ (answers : ℕ → Answer) (a : HorizontalAlignment) (line_height : ℕ) (origin : Point) (s : LineState) (c : ℕ) where
  heeds_line : Heeds (answer_of_line s)
  heeds_line = record { shown = λ g e. impossible cc; skipped = λ e. impossible cc; stopped = λ n k. refl }

  pub line_goes_on : {next : LineState} → line_step answers a line_height origin s c ≡ success next → GoesOn answers c
  line_goes_on e = goes_on heeds_line answers c (next_line a line_height origin s) e

  pub line_stops : {n k : ℕ} → line_step answers a line_height origin s c ≡ refused n k → Stops answers c n k
  line_stops e = stopped_there heeds_line answers c (next_line a line_height origin s) e

-- ---- the loop

-- The code points that were read, of which none stopped the text, and their sum.
pub record Summed (font : List ℕ) (answers : ℕ → Answer) (text : List ℕ) (sum : LookupSteps) (left : List ℕ) : Type 0 where
  pub read : List ℕ
  pub reached : Reached ◌++◌ (λ read rest cs. (length cs ≤ read) × Each (GoesOn answers) cs) [] text read left
  pub is : sum ≡ total (u8g2 font).steps read

module _ {font : List ℕ} {answers : ℕ → Answer} {text : List ℕ} where
  unfoldable pub summed_start : decode text ≡ characters (code_points (decode text)) → Summed font answers text no_steps text
  unfolding total
  summed_start e = record { read = []; reached = reached_start e (omega arith, tt); is = refl }

  module _ {sum : LookupSteps} {left : List ℕ} (s : Summed font answers text sum left) where
    -- the sums of a success
    pub summed_end : first_character left ≡ malformed → sum ≡ total (u8g2 font).steps (code_points (decode text))
    summed_end h = s.is ∙ ap (total (u8g2 font).steps) (sym (append-nil s.read) ∙ sym (reached_end s.reached h))

    -- At a character that brings q.
    module _ {c : ℕ} {tail : List ℕ} (first : FirstAndRest left c tail) {q : LookupSteps} (brought : q ≡ brings (u8g2 font).steps c) where
      -- With it the sum is that of the code points and this one.
      with_next : plus_steps sum q ≡ total (u8g2 font).steps (s.read ++ c ∷ [])
      with_next = rw (s.is, brought) (sym (total_next (u8g2 font).steps s.read c))

      pub summed_fits : 23 ≤ length font → length font ≤ 1048576 → length text ≤ 4096 → Fits32 (plus_steps sum q)
      summed_fits least most short =
          let l = split_length first in
          subst Fits32 (sym with_next)
          (total_fits font least most (s.read ++ c ∷ []) (omega (arith, length-append s.read (c ∷ []), s.reached.within.0, s.reached.inside, l.0, l.1)))

      module _ {sum' : LookupSteps} (sums_up : sum' ≡ plus_steps sum q) where
        pub summed_next : GoesOn answers c → Summed font answers text sum' tail
        summed_next on =
            let l = split_length first in
            record {
              read = s.read ++ c ∷ [];
              reached = reached_next s.reached first (λ cs. sym (append_assoc s.read (c ∷ []) cs)) (λ cs w.
                  (omega (arith, length-append s.read (c ∷ []), w.0, l.0), each_append (GoesOn answers) s.read (c ∷ []) w.1 (on, tt)));
              is = sums_up ∙ with_next;
            }

        -- A letter that stops the text was not met before.
        pub summed_stops : {A : Type 0} {o : Outcome A} {m k : ℕ} → o ≡ refused m k → Stops answers c m k → k ≡ c
            → pick (eqb m 7) sum' no_steps ≡ sums (u8g2 font) text o
        unfolding total
        summed_stops {A} {o} {m} {k} e stop blamed = rw e (by (eqb m 7))
          where
            new : (cs : List ℕ) → Each (GoesOn answers) cs → Each (λ d. d ≡ c → ⊥) cs
            new [] h = tt
            new (d ∷ cs) h = ((λ e. h.0 m k (rw e stop)), new cs h.1)

            by : (t : Bool) → pick t sum' no_steps ≡ total (u8g2 font).steps (pick t (up_to k (code_points (decode text))) [])
            by true =
                let q = split_next first s.reached.decoded in
                let whole : code_points (decode text) ≡ s.read ++ c ∷ q.rest = s.reached.same ∙ ap (λ (cs : List ℕ). s.read ++ cs) q.is in
                let same : up_to k (code_points (decode text)) ≡ s.read ++ c ∷ [] = rw (whole, blamed)
                (up_to_first s.read c q.rest (new s.read s.reached.within.1)) in
                sums_up ∙ with_next ∙ sym (ap (total (u8g2 font).steps) same)
            by false = refl
