-- The first character of a text, and what is left of the text after it.
use Rattle.std.specs.Prelude.{◌≡◌, List, ℕ, drop}
use Rattle.definitions.specs.Utf8.{character, first_character}

-- `text` is the character of code point `ch`, and then `rest`
pub record FirstAndRest (text : List ℕ) (ch : ℕ) (rest : List ℕ) : Type 0 where
  pub len : ℕ
  pub first : first_character text ≡ character ch len
  pub after : rest ≡ drop len text
