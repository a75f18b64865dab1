-- What opening a font comes to.
use Rattle.std.specs.Prelude.{◌≡◌, List, ℕ, Result, Ok, Err}
use Rattle.definitions.specs.Vocabulary.{Error}
use Rattle.definitions.specs.Refusals.{success, refusal}
use Rattle.definitions.specs.Calls.{open_font}
use Rattle.font_reader.specs.declared.opened.OpenedFont.{OpenedFont}

-- An open font has the bytes that it was opened with.
abbrev pub Opens : List ℕ → Result OpenedFont Error → Type 0
Opens font (Ok f) = (f.bytes.now ≡ font) × (open_font font ≡ success f.head)
Opens font (Err e) = open_font font ≡ refusal e
