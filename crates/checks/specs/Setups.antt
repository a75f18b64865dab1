-- What the tests of a call leave of it.
use Rattle.std.specs.Prelude.{◌≡◌, false, List, ℕ, Result, Ok, Err}
use Rattle.definitions.specs.Vocabulary.{Error}
use Rattle.definitions.specs.Refusals.{success, refused, error_number, code_point, Cause, unless_refused, any_applies}
use Rattle.definitions.specs.Calls.{Request}
use Rattle.checks.specs.declared.origin.Setup.{Setup}
use Rattle.checks.specs.Origins.{Checked, pen_of}

-- A text is set as it is asked: the font's bytes are those that were opened, the pen is the request's, and the text is checked.
pub record SetFor (font : List ℕ) (r : Request) (s : Setup) : Type 0 where
  pub bytes : s.font.bytes.now ≡ font
  pub pen : s.pen ≡ pen_of font r
  pub checked : Checked r.text s.pen.origin s.pen.line_height

-- The causes refuse a call with that number and code point, whatever it would come to.
abbrev pub Refuse : List Cause → ℕ → ℕ → Type 0
Refuse causes n c = unless_refused causes (success (tt {0})) ≡ refused n c

-- Where none of the causes applies, the tests leave what the call needs; else they refuse it as its causes do.
abbrev pub Tests : {A : Type 0} → List Cause → (A → Type 0) → Result A Error → Type 0
Tests causes Needed (Ok left) = (any_applies causes ≡ false) × Needed left
Tests causes Needed (Err e) = Refuse causes (error_number e) (code_point e)
