-- A byte string in the file: a count of parts, each a repeat count, a length and the bytes.
use Rattle.std.specs.Prelude.{◌≡◌, ⊤, ℕ, zero, suc, Bool, false, ◌||◌, if◌then◌else◌, List, [], ◌++◌, ◌≤◌, length, take, drop}
use Rattle.std.specs.Int.{w32, from_le_bytes}
use Rattle.std.specs.List.{repeat}
use Rattle.cases.specs.Reading.{Position, begin_of, rest, passed, number_or_zero, is_beyond}

-- ---- of the bytes that are left, where all of it is there

abbrev pub number : List ℕ → ℕ
number file = from_le_bytes w32 (take 4 file)

-- the length of a part's bytes, and the bytes and what follows them
abbrev pub size : List ℕ → ℕ
size file = number (drop 4 file)

abbrev pub content : List ℕ → List ℕ
content file = drop 4 (drop 4 file)

abbrev pub part : List ℕ → List ℕ
part file = repeat (number file) (take (size file) (content file))

abbrev pub next_part : List ℕ → List ℕ
next_part file = drop (size file) (content file)

pub record HasPart (file : List ℕ) : Type 0 where
  pub times : 4 ≤ length file
  pub sized : 4 ≤ length (drop 4 file)
  pub whole : size file ≤ length (content file)

-- n parts, what follows them, and whether they are there
abbrev pub parts : ℕ → List ℕ → List ℕ
parts zero file = []
parts (suc n) file = part file ++ parts n (next_part file)

abbrev pub behind_parts : ℕ → List ℕ → List ℕ
behind_parts zero file = file
behind_parts (suc n) file = behind_parts n (next_part file)

abbrev pub HasParts : ℕ → List ℕ → Type 0
HasParts zero file = ⊤
HasParts (suc n) file = HasPart file × HasParts n (next_part file)

pub record HasString (file : List ℕ) : Type 0 where
  pub count : 4 ≤ length file
  pub all : HasParts (number file) (drop 4 file)

-- A part or a string is there, was read and passed.
pub record IsPart (before bytes after : List ℕ) : Type 0 where
  pub there : HasPart before
  pub is : bytes ≡ part before
  pub rest : after ≡ next_part before

pub record IsString (before bytes after : List ℕ) : Type 0 where
  pub there : HasString before
  pub is : bytes ≡ parts (number before) (drop 4 before)
  pub rest : after ≡ behind_parts (number before) (drop 4 before)

-- ---- from a place on, as far as the file has it

-- the length of a part's bytes, and where they and what follows them begin
abbrev pub size_at : Position → ℕ
size_at p = number_or_zero (passed 4 p)

abbrev pub content_at : Position → Position
content_at p = passed 4 (passed 4 p)

-- the bytes, as far as the file has them, as often as the part says
abbrev pub part_at : Position → List ℕ
part_at p = repeat (number_or_zero p) (take (size_at p) (rest (content_at p)))

abbrev pub next_part_at : Position → Position
next_part_at p = passed (size_at p) (content_at p)

-- n parts, what follows them, and whether one of them begins beyond the last place
abbrev pub parts_at : ℕ → Position → List ℕ
parts_at zero p = []
parts_at (suc n) p = part_at p ++ parts_at n (next_part_at p)

abbrev pub behind_parts_at : ℕ → Position → Position
behind_parts_at zero p = p
behind_parts_at (suc n) p = behind_parts_at n (next_part_at p)

abbrev pub one_is_beyond : ℕ → Position → Bool
one_is_beyond zero p = false
one_is_beyond (suc n) p = is_beyond p || one_is_beyond n (next_part_at p)

-- A string, cut at its room, and what follows it; where a part begins beyond the last place it is empty, and the file begins anew.
abbrev pub string : ℕ → Position → List ℕ
string room p =
    (if one_is_beyond (number_or_zero p) (passed 4 p) then [] else take room (parts_at (number_or_zero p) (passed 4 p)))

abbrev pub behind_string : Position → Position
behind_string p =
    (if one_is_beyond (number_or_zero p) (passed 4 p) then begin_of p.file
    else behind_parts_at (number_or_zero p) (passed 4 p))
