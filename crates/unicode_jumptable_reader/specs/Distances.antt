-- How the code's answer is read as that of the definitions.
use Rattle.std.specs.Prelude.{Option, Some, None, ℕ}
use Rattle.definitions.specs.Lookup.{Distance, sum, none}
use Rattle.unicode_jumptable_reader.specs.declared.JumpOffset.{JumpOffset}

-- so many entries were read
abbrev pub after : ℕ → Option ℕ → Distance
after entries (Some d) = sum d entries
after entries None = none entries

abbrev pub distance : JumpOffset → Distance
distance answer = after answer.entries answer.jump_offset
