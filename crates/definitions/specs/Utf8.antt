-- SPECIFICATION, Limits: a text is well-formed UTF-8. From the Unicode Standard, section 3.9: table 3-7, the
-- well-formed sequences of bytes, and table 3-6, how a sequence's bits make the code point.
use Rattle.std.specs.Prelude.{Bool, true, false, ◌&&◌, List, [], ◌∷◌, ◌++◌, ◌⊎◌, ℕ, zero, suc, ◌+◌, ◌-◌, ◌*◌, ◌/◌, ◌%◌, ◌≤◌, leb, eqb, get_or}
use Rattle.integers.specs.Integers.{pick}

abbrev pub is_in : ℕ → ℕ → ℕ → Bool
is_in from to b = leb from b && leb b to

-- How many bytes a sequence has, and the range of the second one. `none`: no sequence begins so.
pub data Row : Type 0 where
  one : Row
  two : ℕ → ℕ → Row
  three : ℕ → ℕ → Row
  four : ℕ → ℕ → Row
  none : Row

-- A row of table 3-7, for the first bytes of a range.
pub record TableRow : Type 0 where
  pub from : ℕ
  pub to : ℕ
  pub row : Row

unfoldable pub table : List TableRow
table =
    record { from = 0x00; to = 0x7F; row = one }
    ∷ record { from = 0xC2; to = 0xDF; row = two 0x80 0xBF }
    ∷ record { from = 0xE0; to = 0xE0; row = three 0xA0 0xBF }
    ∷ record { from = 0xE1; to = 0xEC; row = three 0x80 0xBF }
    ∷ record { from = 0xED; to = 0xED; row = three 0x80 0x9F }
    ∷ record { from = 0xEE; to = 0xEF; row = three 0x80 0xBF }
    ∷ record { from = 0xF0; to = 0xF0; row = four 0x90 0xBF }
    ∷ record { from = 0xF1; to = 0xF3; row = four 0x80 0xBF }
    ∷ record { from = 0xF4; to = 0xF4; row = four 0x80 0x8F }
    ∷ []

abbrev pub find_row : ℕ → List TableRow → Row
find_row a [] = none
find_row a (r ∷ rs) = pick (is_in r.from r.to a) r.row (find_row a rs)

-- The row of a first byte.
unfoldable pub row_of : ℕ → Row
row_of a = find_row a table

-- The range of the third and the fourth byte is the same in each row.
abbrev pub continues : ℕ → Bool
continues b = is_in 0x80 0xBF b

-- A character: its code point and how many bytes it has.
pub data Character : Type 0 where
  character : ℕ → ℕ → Character
  malformed : Character

-- The character that the bytes a, b, c, d begin with, a's row being given. Table 3-6: the first byte has the highest bits,
-- in its lowest five, four or three, and each byte after it has the next six.
abbrev pub sequence : Row → ℕ → ℕ → ℕ → ℕ → Character
sequence one a b c d = character a 1
sequence (two from to) a b c d = pick (is_in from to b) (character (a % 32 * 64 + b % 64) 2) malformed
sequence (three from to) a b c d =
    pick (is_in from to b && continues c) (character (a % 16 * 4096 + b % 64 * 64 + c % 64) 3) malformed
sequence (four from to) a b c d =
    pick (is_in from to b && continues c && continues d)
    (character (a % 8 * 262144 + b % 64 * 4096 + c % 64 * 64 + d % 64) 4)
    malformed
sequence none a b c d = malformed

-- The character at the head of bytes. Past their end stands 0, which no row has after its first byte.
unfoldable pub first_character : List ℕ → Character
first_character [] = malformed
first_character (a ∷ s) = sequence (row_of a) a (get_or s 0 0) (get_or s 1 0) (get_or s 2 0)

-- A text's code points, in order.
pub data Decoded : Type 0 where
  characters : List ℕ → Decoded
  not_utf8 : Decoded

-- a code point before those of the rest
abbrev pub prepend : ℕ → Decoded → Decoded
prepend c (characters cs) = characters (c ∷ cs)
prepend c not_utf8 = not_utf8

abbrev pub after : Character → Decoded → Decoded
after (character c k) rest = prepend c rest
after malformed rest = not_utf8

abbrev pub byte_count : Character → ℕ
byte_count (character c k) = k
byte_count malformed = 0

-- The code points of bytes, `skip` bytes of which are still to be passed over: those of a character after its first. A
-- character is whole, so none is left to be passed over at the end.
unfoldable pub decode_from : ℕ → List ℕ → Decoded
decode_from skip [] = characters []
decode_from (suc skip) (b ∷ s) = decode_from skip s
decode_from zero (b ∷ s) = after (first_character (b ∷ s)) (decode_from (byte_count (first_character (b ∷ s)) - 1) s)

abbrev pub decode : List ℕ → Decoded
decode text = decode_from 0 text

-- whether a text decodes
abbrev pub is_utf8 : Decoded → Bool
is_utf8 (characters cs) = true
is_utf8 not_utf8 = false

-- The code points of a text that is UTF-8.
abbrev pub code_points : Decoded → List ℕ
code_points (characters cs) = cs
code_points not_utf8 = []

-- How many newlines there are among code points.
unfoldable pub newlines : List ℕ → ℕ
newlines [] = 0
newlines (c ∷ cs) = pick (eqb c 10) 1 0 + newlines cs

-- The code points that have an encoding: all but the surrogates.
abbrev pub Scalar : ℕ → Type 0
Scalar c = (c ≤ 0xD7FF) ⊎ ((0xE000 ≤ c) × (c ≤ 0x10FFFF))

-- Table 3-6 the other way: the bytes of one code point.
unfoldable pub encode : ℕ → List ℕ
encode c =
    pick (leb c 0x7F) (c ∷ [])
    (pick (leb c 0x7FF) ((0xC0 + c / 64) ∷ (0x80 + c % 64) ∷ [])
    (pick (leb c 0xFFFF) ((0xE0 + c / 4096) ∷ (0x80 + c / 64 % 64) ∷ (0x80 + c % 64) ∷ [])
    ((0xF0 + c / 262144) ∷ (0x80 + c / 4096 % 64) ∷ (0x80 + c / 64 % 64) ∷ (0x80 + c % 64) ∷ [])))

-- .. and of code points in order, each of which has an encoding
unfoldable pub encode_all : List ℕ → List ℕ
encode_all [] = []
encode_all (c ∷ cs) = encode c ++ encode_all cs

pub data Scalars : List ℕ → Type 0 where
  nil : Scalars []
  cons : {c : ℕ} {cs : List ℕ} → Scalar c → Scalars cs → Scalars (c ∷ cs)
