-- What is read of a file of cases, which may end anywhere.
use Rattle.std.specs.Prelude.{◌≡◌, ℕ, ◌+◌, ◌-◌, ◌^◌, ◌%◌, ◌<◌, ◌≤◌, min, List, length, take, drop, ℤ, Bool, nat_le, nat_lt}
use Rattle.std.specs.Prelude.{if◌then◌else◌, Result, Ok, Err}
use Rattle.std.specs.Int.{w32, from_le_bytes, cast_signed}
use Rattle.cases.specs.declared.reader.CaseError.{CaseError}
use Rattle.cases.specs.declared.reader.CaseError.TheVariants.{EndsTooEarly}

-- A file, and the place where what is read next begins; it may lie behind the file's end.
pub record Position : Type 0 where
  pub file : List ℕ
  pub next : ℕ

abbrev pub begin_of : List ℕ → Position
begin_of bytes = record { file = bytes; next = 0 }

-- what the file has from the place on
abbrev pub rest : Position → List ℕ
rest p = drop p.next p.file

-- n bytes on, there or not; a place is a `usize`
abbrev pub passed : ℕ → Position → Position
passed n p = record { file = p.file; next = min (p.next + n) (2 ^ 64 - 1) }

-- ---- what is not there is 0: nothing is refused

-- four bytes, the low one first; 0 where the file does not have them all
abbrev pub number_or_zero : Position → ℕ
number_or_zero p = (if nat_le 4 (length (rest p)) then from_le_bytes w32 (take 4 (rest p)) else 0)

abbrev pub signed_number : Position → ℤ
signed_number p = cast_signed w32 (number_or_zero p)

abbrev pub byte : Position → ℕ
byte p = number_or_zero p % 256

-- The last place from which a file of cases is read, where nothing is refused.
abbrev pub last_place : ℕ
last_place = 1048576

abbrev pub is_beyond : Position → Bool
is_beyond p = nat_lt last_place p.next

-- ---- what is not there is refused; these go by the bytes that are left

-- The next `len` bytes are read as a value and passed, or there are fewer, which is refused and passes none.
abbrev pub Read : {A : Type 0} → ℕ → List ℕ → List ℕ → (A → List ℕ → Type 0) → Result A CaseError → Type 0
Read len before after Is (Ok value) = (len ≤ length before) × Is value (take len before) × (after ≡ drop len before)
Read len before after Is (Err error) = (error ≡ EndsTooEarly) × (length before < len) × (after ≡ before)

-- The next number is read as a byte and passed, or it is too large for one, or there is none.
abbrev pub ReadByte : List ℕ → List ℕ → Result ℕ CaseError → Type 0
ReadByte before after (Ok n) = (4 ≤ length before) × (n ≡ from_le_bytes w32 (take 4 before)) × (after ≡ drop 4 before)
ReadByte before after (Err error) = (4 ≤ length before) → 256 ≤ from_le_bytes w32 (take 4 before)
