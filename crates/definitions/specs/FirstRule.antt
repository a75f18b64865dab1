-- The lookup up to 255 as it was before request A3, and as it is in the Rust: the code counts before the jump. No call goes by it.
-- It says what A3 changed, and on which texts results and framebuffers are still claimed to be those of the Rust.
use Rattle.std.specs.Prelude.{Bool, true, false, ◌&&◌, not, List, [], ◌∷◌, ℕ, ◌-◌, leb, eqb}
use Rattle.integers.specs.Integers.{pick}
use Rattle.definitions.specs.Vocabulary.{LookupSteps}
use Rattle.definitions.specs.Header.{byte, header}
use Rattle.definitions.specs.Lookup.{Search, found, missing, short, Record, here, next, last, cut, chain, chain_start, no_steps, search, steps_of}
use Rattle.definitions.specs.Glyph.{from_search}
use Rattle.definitions.specs.Font.{Font, u8g2}

-- ---- the first rule

-- The glyph is here if the code matches; if not, jump 0 ends the chain, and any other jump leads on.
unfoldable pub code_first : ℕ → List ℕ → Record
code_first c [] = cut
code_first c (code ∷ []) = cut
code_first c (code ∷ jump ∷ s) = pick (eqb code c) (here 2) (pick (eqb jump 0) last (next jump))

-- From 256 on there is one rule.
unfoldable pub first_search : List ℕ → ℕ → Search
first_search font c = pick (leb c 255) (chain (code_first c) no_steps 0 (chain_start (header font) c) font) (search font c)

-- a font that is looked up by it
abbrev pub first_u8g2 : List ℕ → Font
first_u8g2 font = record {
  causes = (u8g2 font).causes;
  ascent = (u8g2 font).ascent;
  descent = (u8g2 font).descent;
  background = (u8g2 font).background;
  glyph = λ c. from_search font c (first_search font c);
  pixels = (u8g2 font).pixels;
  steps = λ c. steps_of (first_search font c);
}

-- ---- what A3 makes of its answers

-- A record's jump is the byte before its glyph.
abbrev pub jump0 : List ℕ → ℕ → Bool
jump0 font start = eqb (byte font (start - 1)) 0

abbrev pub on_jump0 : List ℕ → Search → Bool
on_jump0 font (found start steps) = jump0 font start
on_jump0 font (missing steps) = false
on_jump0 font short = false

-- Whether a code point up to 255 ends on a record with jump 0 whose code is equal.
abbrev pub matches_jump0 : List ℕ → ℕ → Bool
matches_jump0 font c = leb c 255 && on_jump0 font (first_search font c)

-- an answer alone: where the glyph begins, 7 or 8
abbrev pub without_steps : Search → Search
without_steps (found start steps) = found start no_steps
without_steps (missing steps) = missing no_steps
without_steps short = short

-- without the record that ended the chain
abbrev pub one_less : LookupSteps → LookupSteps
one_less steps = record { records = steps.records - 1; entries = steps.entries }

-- Up to 255 every chain that is not cut off ends on a found record or on one with jump 0.
abbrev pub amended : List ℕ → Search → Search
amended font (found start steps) = pick (jump0 font start) (missing (one_less steps)) (found start steps)
amended font (missing steps) = missing (one_less steps)
amended font short = short

-- ---- the texts on which the Rust's results are claimed

-- None of these code points matches a record with jump 0. A newline is not looked up.
unfoldable pub none_matches_jump0 : List ℕ → List ℕ → Bool
none_matches_jump0 font [] = true
none_matches_jump0 font (c ∷ cs) = pick (eqb c 10) true (not (matches_jump0 font c)) && none_matches_jump0 font cs
