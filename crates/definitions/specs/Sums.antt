-- SPECIFICATION, Lookup: the steps of a text's lookups, added up (request A1). They are a function of the text's letters and of
-- what the call came to, and not of how it went through the letters; so an alignment makes no difference.
use Rattle.std.specs.Prelude.{List, [], ◌∷◌, ℕ, ◌+◌, ◌≤◌, eqb}
use Rattle.integers.specs.Integers.{pick}
use Rattle.definitions.specs.Vocabulary.{LookupSteps}
use Rattle.definitions.specs.Refusals.{Outcome, success, refused}
use Rattle.definitions.specs.Lookup.{no_steps}
use Rattle.definitions.specs.Font.{Font}
use Rattle.definitions.specs.Calls.{code_points_of}

abbrev pub plus_steps : LookupSteps → LookupSteps → LookupSteps
plus_steps a b = record { records = a.records + b.records; entries = a.entries + b.entries }

-- What a code point of a text brings. A newline is not looked up.
abbrev pub brings : (ℕ → LookupSteps) → ℕ → LookupSteps
brings steps c = pick (eqb c 10) no_steps (steps c)

unfoldable pub total : (ℕ → LookupSteps) → List ℕ → LookupSteps
total steps [] = no_steps
total steps (c ∷ cs) = plus_steps (brings steps c) (total steps cs)

-- The code points up to the first c, and that one.
unfoldable pub up_to : ℕ → List ℕ → List ℕ
up_to c [] = []
up_to c (d ∷ cs) = d ∷ pick (eqb d c) [] (up_to c cs)

-- Those that count: all in a success, skipped ones too; with 7 those up to the missing one; with every other refusal none.
abbrev pub counted : {A : Type 0} → Outcome A → List ℕ → List ℕ
counted (success a) cs = cs
counted (refused n c) cs = pick (eqb n 7) (up_to c cs) []

-- The sums that a call on a text hands up with what it came to.
abbrev pub sums : {A : Type 0} → Font → List ℕ → Outcome A → LookupSteps
sums font text o = total font.steps (counted o (code_points_of text))

-- They fit 32 bits: 4,096 lookups in the longest font take at most 4,294,873,088 steps of a kind (`sums_fit`).
pub record Fits32 (q : LookupSteps) : Type 0 where
  pub records : q.records ≤ 4294967295
  pub entries : q.entries ≤ 4294967295
