-- SPECIFICATION, Lookup: where a code point's glyph begins, or why there is none, and by how many steps that was found out.
--
-- The chain walks the font's bytes. `skip` bytes are still to be passed over before a record is looked at, and `at` is the
-- index of the list's first byte. So the walk ends with the bytes, and no other bound decides an answer. The steps are carried
-- along and decide nothing (request A1).
use Rattle.std.specs.Prelude.{List, [], ◌∷◌, ℕ, zero, suc, ◌+◌, ◌-◌, ◌*◌, ltb, leb, eqb, length, drop}
use Rattle.integers.specs.Integers.{pick}
use Rattle.definitions.specs.Vocabulary.{FontReader, LookupSteps}
use Rattle.definitions.specs.Header.{header}

pub data Search : Type 0 where
  found : ℕ → LookupSteps → Search  -- the glyph begins at this byte
  missing : LookupSteps → Search  -- the font has no such glyph: number 7
  short : Search  -- a byte is missing, or a move goes past the end: number 8

-- ---- a record, which is code, jump, glyph

-- What the record at the head of the bytes says of a code point.
pub data Record : Type 0 where
  here : ℕ → Record  -- its glyph begins so many bytes on
  next : ℕ → Record  -- the next record begins so many bytes on
  last : Record  -- the chain ends with it
  end : Record  -- the chain ends before it: its code is not looked at
  cut : Record  -- a byte is missing

-- Up to 255. Jump 0 ends the chain before the code is compared (amended by A3; the rule before it is in FirstRule.antt). The glyph
-- is here if the code matches; if not, the jump leads on.
unfoldable pub record8 : ℕ → List ℕ → Record
record8 c [] = cut
record8 c (code ∷ []) = cut
record8 c (code ∷ jump ∷ s) = pick (eqb jump 0) end (pick (eqb code c) (here 2) (next jump))

-- From 256 on a code has two bytes, and code 0 ends the chain before the jump is needed.
unfoldable pub record16 : ℕ → List ℕ → Record
record16 c [] = cut
record16 c (high ∷ []) = cut
record16 c (high ∷ low ∷ []) = pick (eqb (high * 256 + low) 0) last cut
record16 c (high ∷ low ∷ jump ∷ s) =
    pick (eqb (high * 256 + low) 0) last
    (pick (eqb (high * 256 + low) c) (here 3)
    (pick (eqb jump 0) last (next jump)))

-- ---- the chain

-- A record whose code was looked at is a step, whichever its code. So up to 255 one with jump 0 is none (amended by A3).
abbrev pub looked : LookupSteps → LookupSteps
looked steps = record { records = steps.records + 1; entries = steps.entries }

-- what a record at `at` comes to, after the steps before it; `rest` is the chain after a jump
abbrev pub follow : Record → LookupSteps → ℕ → (ℕ → Search) → Search
follow (here n) steps at rest = found (at + n) (looked steps)
follow (next jump) steps at rest = rest jump
follow last steps at rest = missing (looked steps)
follow end steps at rest = missing steps
follow cut steps at rest = short

-- Record after record, each looked at as `look` does.
unfoldable pub chain : (List ℕ → Record) → LookupSteps → ℕ → ℕ → List ℕ → Search
chain look steps at skip [] = short
chain look steps at (suc skip) (b ∷ s) = chain look steps (suc at) skip s
chain look steps at zero (b ∷ s) =
    follow (look (b ∷ s)) steps at (λ jump. chain look (looked steps) (suc at) (jump - 1) s)

-- ---- the jump table

-- The jump table: the sum of the distances, up to the first entry whose upper limit is the code point or above; none if
-- the whole entries end before that. Either comes with the number of entries that were read whole.
pub data Distance : Type 0 where
  sum : ℕ → ℕ → Distance
  none : ℕ → Distance

unfoldable pub jump_table : ℕ → ℕ → ℕ → List ℕ → Distance
jump_table c total n [] = none n
jump_table c total n (a ∷ []) = none n
jump_table c total n (a ∷ b ∷ []) = none n
jump_table c total n (a ∷ b ∷ d ∷ []) = none n
jump_table c total n (a ∷ b ∷ d ∷ e ∷ s) =
    pick (ltb (d * 256 + e) c) (jump_table c (total + (a * 256 + b)) (n + 1) s) (sum (total + (a * 256 + b)) (n + 1))

-- ---- the lookup

-- The first byte after the header.
abbrev pub first_record : ℕ
first_record = 23

-- The chain of a code point up to 255 begins there, moved by the offset of 'a' for 97 and above, by that of 'A' for 65 to 96.
abbrev pub chain_start : FontReader → ℕ → ℕ
chain_start head c =
    pick (leb 97 c) (first_record + head.array_offset_lower_a)
    (pick (leb 65 c) (first_record + head.array_offset_upper_a) first_record)

abbrev pub table_start : FontReader → ℕ
table_start head = first_record + head.array_offset_0x0100

-- before the chain: so many entries read
abbrev pub after_entries : ℕ → LookupSteps
after_entries n = record { records = 0; entries = n }

abbrev pub no_steps : LookupSteps
no_steps = after_entries 0

-- the jump table at `table`, and the chain that it leads to
abbrev pub from_table : List ℕ → ℕ → ℕ → Distance → Search
from_table font table c (none n) = missing (after_entries n)
from_table font table c (sum d n) = chain (record16 c) (after_entries n) 0 (table + d) font

abbrev pub search_table : List ℕ → ℕ → ℕ → Search
search_table font table c =
    pick (leb table (length font)) (from_table font table c (jump_table c 0 0 (drop table font))) short

-- From 256 to 65535: the table and its chain. Above: missing.
unfoldable pub search : List ℕ → ℕ → Search
search font c =
    pick (leb c 255) (chain (record8 c) no_steps 0 (chain_start (header font) c) font)
    (pick (leb c 65535) (search_table font (table_start (header font)) c) (missing no_steps))

-- The steps that a code point brings: a found and a missing one, and none where the font ends.
abbrev pub steps_of : Search → LookupSteps
steps_of (found at steps) = steps
steps_of (missing steps) = steps
steps_of short = no_steps
