-- The first character of a text, from its first four bytes. Assumes nothing.
use Rattle.integers.proofs.Prelude.{◌≡◌, refl, sym, ◌∙◌, List, [], ◌∷◌, ℕ, suc, ◌+◌, ◌<◌, ◌≤◌, arith, length, get_or, drop, drop-cons, get_or-drop}
use Rattle.definitions.specs.Utf8.{Row, row_of, Character, malformed, character, sequence, first_character}
use Rattle.definitions.proofs.Utf8Encoding.{head}

pub none_at_end : (s : List ℕ) → length s < 1 → first_character s ≡ malformed
unfolding first_character
none_at_end [] h = refl
none_at_end (a ∷ s) h = absurd (omega arith)

pub first_four : (s : List ℕ) → 1 ≤ length s
    → first_character s ≡ sequence (row_of (get_or s 0 0)) (get_or s 0 0) (get_or s 1 0) (get_or s 2 0) (get_or s 3 0)
unfolding first_character
first_four [] h = absurd (omega arith)
first_four (a ∷ s) h = refl

-- a character has no more bytes than its text
pub first_within : (s : List ℕ) {c k : ℕ} → first_character s ≡ character c k → k ≤ length s
first_within s e = (head s e).within

pub ruleset firsts = (none_at_end, first_four, first_within)

-- .. at a position, which a loop that counts its bytes stands at
module _ (text : List ℕ) (at : ℕ) (h : at < length text) where
  pub first_at : first_character (drop at text) ≡ sequence (row_of (get_or text at 0)) (get_or text at 0) (get_or text (at + 1) 0)
      (get_or text (at + 2) 0) (get_or text (at + 3) 0)
  unfolding first_character
  first_at =
      let second : suc at + 0 ≡ at + 1 = omega arith in
      let third : suc at + 1 ≡ at + 2 = omega arith in
      let fourth : suc at + 2 ≡ at + 3 = omega arith in
      rw (drop-cons text at 0) (simp (get_or-drop, second, third, fourth))

  -- from the row of its first byte, and the three bytes after it
  pub first_by : {r : Row} {b c d : ℕ} {x : Character}
      → row_of (get_or text at 0) ≡ r → b ≡ get_or text (at + 1) 0 → c ≡ get_or text (at + 2) 0 → d ≡ get_or text (at + 3) 0
      → x ≡ sequence r (get_or text at 0) b c d
      → x ≡ first_character (drop at text)
  first_by {r} {b} {c} {d} {x} row second third fourth e =
      let whole : sequence r (get_or text at 0) b c d ≡ sequence (row_of (get_or text at 0)) (get_or text at 0) (get_or text (at + 1) 0)
      (get_or text (at + 2) 0) (get_or text (at + 3) 0) = cc in
      e ∙ whole ∙ sym first_at
