-- The line follows from as much of the files as the program reads: a font of more than 65,536 bytes is number 1 and a text of more
-- than 4,096 bytes number 4, whatever else they hold.
use Rattle.integers.proofs.Prelude.{◌≡◌, refl, sym, ap, ◌∙◌, List, ℕ, ◌<◌, ◌≤◌, dec_lt, arith, length, take, length-take, take_all, lt-ltb}
use Rattle.definitions.specs.Vocabulary.{FontReader}
use Rattle.definitions.specs.Refusals.{Outcome, success, refused, unless_refused}
use Rattle.definitions.specs.Header.{font_causes}
use Rattle.definitions.specs.Font.{u8g2}
use Rattle.definitions.specs.Calls.{open_font, Request, measure}
use Rattle.answer_line.specs.Line.{outcome_line}
use Rattle.measure_line.specs.Measured.{by_program, measure_opened, measured_by_program, measuring_line}
use Rattle.measure_line.proofs.MeasuredLaws.{font_too_long}
use Rattle.measure_program.specs.Filled.{Filled}

-- Whatever there was room for, some file fills it.
pub some_file : (room : ℕ) (bytes : List ℕ) → length bytes ≤ room → Filled room bytes bytes
some_file room bytes h = sym (take_all room bytes h)

-- So it is of a buffer, whatever it holds: the contract of `measure_buffers` is never empty.
pub some_file_read : (buffer : List ℕ) (n : ℕ) → Filled (length buffer) (take n buffer) (take n buffer)
some_file_read buffer n = some_file (length buffer) (take n buffer) (omega (arith, length-take n buffer))

text_too_long : (font : List ℕ) (r : Request) → 4096 < length r.text → measure (u8g2 font) r ≡ unless_refused (font_causes font) (refused 4 0)
unfolding measure
text_too_long font r h = simp (lt-ltb 4096 (length r.text) h)

-- what is longer than a limit is longer when it is cut behind the limit
cut_long : (limit n : ℕ) (l : List ℕ) → limit < n → limit < length l → limit < length (take n l)
cut_long limit n l h k = omega (arith, length-take n l)

module _ (font text : List ℕ) (k : ℕ) (room : 4096 < k) where
  long : 4096 < length text → (o : Outcome FontReader) → measure_opened font (take k text) o ≡ measure_opened font text o
  long h (success head) =
      text_too_long font (by_program (take k text) head) (cut_long 4096 k text room h) ∙ sym (text_too_long font (by_program text head) h)
  long h (refused n c) = refl

  cut_text : (o : Outcome FontReader) → measure_opened font (take k text) o ≡ measure_opened font text o
  cut_text o = split (dec_lt 4096 (length text))
    where
      split : Dec (4096 < length text) → measure_opened font (take k text) o ≡ measure_opened font text o
      split (yes h) = long h o
      split (no h) = ap (λ (t : List ℕ). measure_opened font t o) (take_all k text (omega arith))

  cut_files : (n : ℕ) → 65536 < n → measured_by_program (take n font) (take k text) ≡ measured_by_program font text
  unfolding measured_by_program
  cut_files n h = split (dec_lt 65536 (length font))
    where
      split : Dec (65536 < length font) → measured_by_program (take n font) (take k text) ≡ measured_by_program font text
      split (yes p) = font_too_long (take n font) (take k text) (cut_long 65536 n font h p) ∙ sym (font_too_long font text p)
      split (no p) = rw (take_all n font (omega arith), cut_text (open_font font))

pub files_line : (n k : ℕ) (file input : List ℕ) {font text : List ℕ} → Filled n file font → Filled k input text → 65536 < n → 4096 < k
    → measuring_line font text ≡ measuring_line file input
unfolding measuring_line
files_line n k file input f g p q = rw (f, g) (ap outcome_line (cut_files file input k q n p))
