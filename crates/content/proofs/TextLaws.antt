-- Whether a text decodes, by its first character and the rest; and its newlines, counted among its bytes. Assumes nothing.
use Rattle.integers.proofs.Prelude.{◌≡◌, refl, ap, sym, ◌∙◌, true, false, List, [], ◌∷◌, ℕ, ◌+◌, ◌<◌, arith, eqb, length}
use Rattle.std.specs.List.{count_by}
use Rattle.std.proofs.lemmas.List.Recursion.{is_count_by}
use mathlib.Core.Bool.{Bool, cond}
use Rattle.integers.specs.Integers.{pick}
use Rattle.definitions.specs.Utf8.{malformed, first_character, Decoded, characters, not_utf8, prepend, decode_from, decode, is_utf8, code_points, newlines}
use Rattle.definitions.proofs.Utf8Laws.{not_utf8_lem, newlines_decoded, utf8_characters}
use Rattle.utf8.specs.Splits.{FirstAndRest}
use Rattle.utf8.proofs.SplitLaws.{split_decoded, split_shorter}

prepended : (c : ℕ) (d : Decoded) → is_utf8 (prepend c d) ≡ is_utf8 d
prepended c (characters cs) = refl
prepended c not_utf8 = refl

pub utf8_end : (s : List ℕ) → length s ≡ 0 → is_utf8 (decode s) ≡ true
unfolding decode_from
utf8_end [] h = refl
utf8_end (b ∷ s) h = absurd (omega arith)

pub utf8_stops : (s : List ℕ) → (length s ≡ 0 → ⊥) → first_character s ≡ malformed → is_utf8 (decode s) ≡ false
utf8_stops s h e = ap is_utf8 (not_utf8_lem s 0 (omega arith) e)

pub utf8_next : (s : List ℕ) {c : ℕ} {rest : List ℕ} → FirstAndRest s c rest → is_utf8 (decode s) ≡ is_utf8 (decode rest)
utf8_next s {c} {rest} p = ap is_utf8 (split_decoded p) ∙ prepended c (decode rest)

pub rest_shorter : (s : List ℕ) {c : ℕ} {rest : List ℕ} → FirstAndRest s c rest → length rest < length s
rest_shorter s p = split_shorter p

newlines_next : (b : ℕ) (s : List ℕ) → newlines (b ∷ s) ≡ cond (eqb b 10) (1 + newlines s) (newlines s)
unfolding newlines
newlines_next b s = by (eqb b 10)
  where
    by : (t : Bool) → pick t 1 0 + newlines s ≡ cond t (1 + newlines s) (newlines s)
    by true = refl
    by false = omega arith

nothing : newlines [] ≡ 0
unfolding newlines
nothing = refl

pub newlines_of : (s : List ℕ) → is_utf8 (decode s) ≡ true → count_by (λ b. eqb b 10) s ≡ newlines (code_points (decode s))
newlines_of s e = sym (is_count_by newlines (λ b. eqb b 10) nothing newlines_next s) ∙ newlines_decoded s (utf8_characters (decode s) e)

pub ruleset texts = (utf8_end, utf8_stops, utf8_next, rest_shorter, newlines_of)
