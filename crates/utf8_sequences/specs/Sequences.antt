-- How the code's character, its code point and how many bytes it has, is read as that of the definitions.
use Rattle.std.specs.Prelude.{ℕ, Option, Some, None}
use Rattle.definitions.specs.Utf8.{Character, character, malformed}

abbrev pub as_character : Option (ℕ × ℕ) → Character
as_character (Some p) = character p.0 p.1
as_character None = malformed
