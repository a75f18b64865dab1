-- What the words of the command line ask for.
use Rattle.std.specs.Prelude.{true, false, List, ℕ, Option, None, Some, Result, Ok, Err, bytes_eq, codes, fold, if◌then◌else◌}
use Rattle.types.specs.declared.framebuffer.PixelFormat.TheVariants.{Bytes, Packed}
use Rattle.types.specs.declared.style.HorizontalAlignment.{HorizontalAlignment}
use Rattle.types.specs.declared.style.HorizontalAlignment.TheVariants.{Left, Center, Right}
use Rattle.draw_options.specs.declared.Options.{Options}
use Rattle.draw_options.specs.declared.UnknownWord.{UnknownWord}

-- a plain text, a pixel a byte: its lines stand left, and its answer has an advance
abbrev pub no_words : Options
no_words = record { pgm = false; background = false; format = Bytes; align = None }

-- Each of three words is an alignment.
abbrev pub named_alignment : List ℕ → Option HorizontalAlignment
named_alignment word =
    if bytes_eq word (codes "left") then Some Left
    else if bytes_eq word (codes "center") then Some Center
    else if bytes_eq word (codes "right") then Some Right
    else None

-- It sets the alignment, and the last one counts; any other word is wrong.
abbrev pub with_alignment : Options → Option HorizontalAlignment → Result Options UnknownWord
with_alignment o None = Err record {}
with_alignment o (Some align) = Ok record o { align = Some align }

-- Two of the others set a flag, and the third the format.
abbrev pub with_word : Options → List ℕ → Result Options UnknownWord
with_word o word =
    if bytes_eq word (codes "pgm") then Ok record o { pgm = true }
    else if bytes_eq word (codes "background") then Ok record o { background = true }
    else if bytes_eq word (codes "packed") then Ok record o { format = Packed }
    else with_alignment o (named_alignment word)

-- After a wrong word nothing is right again.
abbrev pub with_next : Result Options UnknownWord → List ℕ → Result Options UnknownWord
with_next (Ok o) word = with_word o word
with_next (Err e) word = Err e

abbrev pub with_words : Options → List (List ℕ) → Result Options UnknownWord
with_words o words = fold with_next (Ok o) words
