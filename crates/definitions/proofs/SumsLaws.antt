-- The sums over a text (request A1): how a loop adds them up letter by letter, and that they fit 32 bits. Assumes nothing.
use Rattle.integers.proofs.Prelude.{◌≡◌, refl, sym, ap, subst, ◌∙◌, Bool, true, false, List, [], ◌∷◌, ◌++◌, ℕ, ◌*◌, ◌≤◌, arith, eqb, length}
use Rattle.integers.proofs.Prelude.{eq-eqb, ne_eqb}
use Rattle.integers.specs.Integers.{pick}
use Rattle.integers.proofs.Choices.{impossible, of_pick}
use Rattle.definitions.specs.Vocabulary.{LookupSteps}
use Rattle.definitions.specs.Refusals.{Outcome, success, refused, and_then, Cause, unless_refused}
use Rattle.definitions.specs.Header.{header, font_causes}
use Rattle.definitions.specs.Lookup.{no_steps}
use Rattle.definitions.specs.Font.{Font, u8g2}
use Rattle.definitions.specs.Calls.{open_font, code_points_of}
use Rattle.definitions.specs.Sums.{plus_steps, brings, total, up_to, counted, sums, Fits32}
use Rattle.definitions.proofs.StepsLaws.{steps_bounded}
use Rattle.definitions.proofs.TextLaws.{Each}

same_steps : {a b : LookupSteps} → a.records ≡ b.records → a.entries ≡ b.entries → a ≡ b
same_steps e f = rw (e, f) refl

-- ---- letters more

module _ (steps : ℕ → LookupSteps) where
  pub total_append : (cs ds : List ℕ) → total steps (cs ++ ds) ≡ plus_steps (total steps cs) (total steps ds)
  unfolding total
  total_append [] ds = same_steps (omega arith) (omega arith)
  total_append (c ∷ cs) ds =
      let e = total_append cs ds in
      same_steps
      (omega (arith, ap (λ (q : LookupSteps). q.records) e))
      (omega (arith, ap (λ (q : LookupSteps). q.entries) e))

  pub total_next : (cs : List ℕ) (c : ℕ) → total steps (cs ++ c ∷ []) ≡ plus_steps (total steps cs) (brings steps c)
  unfolding total
  total_next cs c = total_append cs (c ∷ []) ∙ same_steps (omega arith) (omega arith)

  -- a newline brings nothing
  pub total_newline : (cs ds : List ℕ) → total steps (cs ++ (ds ++ 10 ∷ [])) ≡ plus_steps (total steps cs) (total steps ds)
  unfolding total
  total_newline cs ds =
      let a = total_append cs (ds ++ 10 ∷ []) in
      let b = total_append ds (10 ∷ []) in
      same_steps
      (omega (arith, ap (λ (q : LookupSteps). q.records) a, ap (λ (q : LookupSteps). q.records) b))
      (omega (arith, ap (λ (q : LookupSteps). q.entries) a, ap (λ (q : LookupSteps). q.entries) b))

-- The letters before the first c, and that one: "with number 7 the sums include the missing letter".
pub up_to_first : (cs : List ℕ) (c : ℕ) (ds : List ℕ) → Each (λ d. d ≡ c → ⊥) cs → up_to c (cs ++ c ∷ ds) ≡ cs ++ c ∷ []
unfolding up_to
up_to_first [] c ds h = rw (eq-eqb c c refl) refl
up_to_first (d ∷ cs) c ds h = rw (ne_eqb d c h.0) (ap (λ (l : List ℕ). d ∷ l) (up_to_first cs c ds h.1))

-- ---- the sums fit the type that carries them

record FewEach (n : ℕ) (q : LookupSteps) : Type 0 where
  records : q.records ≤ n * 1048553
  entries : q.entries ≤ n * 1048553

module _ (font : List ℕ) (least : 23 ≤ length font) (most : length font ≤ 1048576) where
  brings_few : (c : ℕ) → FewEach 1 (brings (u8g2 font).steps c)
  brings_few c = by (eqb c 10)
    where
      by : (t : Bool) → FewEach 1 (pick t no_steps ((u8g2 font).steps c))
      by true = record { records = omega arith; entries = omega arith }
      by false = let b = steps_bounded font c least in record { records = omega arith; entries = omega arith }

  total_few : (cs : List ℕ) → FewEach (length cs) (total (u8g2 font).steps cs)
  unfolding total
  total_few [] = record { records = omega arith; entries = omega arith }
  total_few (c ∷ cs) =
      let b = brings_few c in
      let t = total_few cs in
      record { records = omega arith; entries = omega arith }

  pub total_fits : (cs : List ℕ) → length cs ≤ 4096 → Fits32 (total (u8g2 font).steps cs)
  total_fits cs h = let t = total_few cs in record { records = omega arith; entries = omega arith }

up_to_shorter : (c : ℕ) (cs : List ℕ) → length (up_to c cs) ≤ length cs
unfolding up_to
up_to_shorter c [] = omega arith
up_to_shorter c (d ∷ cs) = by (up_to_shorter c cs) (eqb d c)
  where
    by : length (up_to c cs) ≤ length cs → (t : Bool) → length (d ∷ pick t [] (up_to c cs)) ≤ length (d ∷ cs)
    by h true = omega arith
    by h false = omega arith

pub counted_shorter : {A : Type 0} (o : Outcome A) (cs : List ℕ) → length (counted o cs) ≤ length cs
counted_shorter (success a) cs = omega arith
counted_shorter (refused n c) cs = by (eqb n 7)
  where
    by : (t : Bool) → length (pick t (up_to c cs) []) ≤ length cs
    by true = up_to_shorter c cs
    by false = omega arith

-- So do the sums of every call within the limits, whatever it comes to.
pub sums_fit : {A : Type 0} (font text : List ℕ) (o : Outcome A) → 23 ≤ length font → length font ≤ 1048576
    → length (code_points_of text) ≤ 4096 → Fits32 (sums (u8g2 font) text o)
sums_fit font text o least most short =
    total_fits font least most (counted o (code_points_of text)) (omega (arith, counted_shorter o (code_points_of text)))

-- ---- "every other refusal reports zero for both"

pub no_sums : {A : Type 0} (font : Font) (text : List ℕ) {n c : ℕ} {o : Outcome A} → refused n c ≡ o → eqb n 7 ≡ false → no_steps ≡ sums font text o
unfolding total
no_sums font text {n} {c} e h = rw (sym e, h) refl

-- the number of a cause
pub refused_early : {A : Type 0} (a : A) (cs : List Cause) → Each (λ d. eqb d.number 7 ≡ false) cs → {n c : ℕ}
    → unless_refused cs (success a) ≡ refused n c → eqb n 7 ≡ false
refused_early a [] h e = impossible cc
refused_early a (d ∷ cs) h {n} {c} e =
    of_pick d.applies
    (λ t k. let same : d.number ≡ n = cc in subst (λ (m : ℕ). eqb m 7 ≡ false) same h.0)
    (λ t k. refused_early a cs h.1 k) e

pub open_early : (font : List ℕ) {n c : ℕ} → open_font font ≡ refused n c → eqb n 7 ≡ false
unfolding open_font
open_early font e = refused_early (header font) (font_causes font) (refl, (refl, tt)) e

-- what the default steps are
pub default_steps : {q : LookupSteps} → (q.records ≡ 0) × (q.entries ≡ 0) → q ≡ no_steps
default_steps e = rw (e.0, e.1) refl

-- What a success is made into makes no difference.
pub sums_then : {A B : Type 0} (font : Font) (text : List ℕ) (o : Outcome A) (f : A → B) → sums font text (and_then o (λ a. success (f a))) ≡ sums font text o
sums_then font text (success a) f = refl
sums_then font text (refused n c) f = refl
