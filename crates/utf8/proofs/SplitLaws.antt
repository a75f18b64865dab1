-- A text by its first character and the rest: what a loop over its characters needs of each. Assumes nothing.
use Rattle.integers.proofs.Prelude.{◌≡◌, sym, ap, ◌∙◌, List, [], ◌∷◌, ℕ, ◌+◌, ◌≤◌, ◌<◌, arith, zero-add, length, drop, length-drop}
use Rattle.definitions.specs.Utf8.{malformed, first_character, characters, prepend, decode}
use Rattle.definitions.proofs.Utf8Laws.{After, decode_first, next, at_end, none_malformed, position}
use Rattle.utf8.specs.Splits.{FirstAndRest}

module _ {text : List ℕ} {ch : ℕ} {rest : List ℕ} (p : FirstAndRest text ch rest) where
  pub split_decoded : decode text ≡ prepend ch (decode rest)
  split_decoded = decode_first text p.first ∙ ap (λ (l : List ℕ). prepend ch (decode l)) (sym p.after)

  pub split_length : (1 ≤ p.len) × (p.len + length rest ≡ length text)
  split_length =
      let at = position text 0 p.first in
      let after = ap length p.after in
      (at.some, omega (arith, at.within, after, length-drop p.len text))

  pub split_shorter : length rest < length text
  split_shorter = let l = split_length in omega arith

  -- the code points after the first are those of the rest
  pub split_next : {cs : List ℕ} → decode text ≡ characters cs → After ch (decode rest) cs
  split_next {cs} e =
      let after = next text 0 p.first e in
      let same : drop (0 + p.len) text ≡ rest = ap (λ (n : ℕ). drop n text) (zero-add p.len) ∙ sym p.after in
      record { rest = after.rest; is = after.is; decoded = ap decode (sym same) ∙ after.decoded }

-- a text that decodes and has no first character is at its end
pub split_none : (text : List ℕ) {cs : List ℕ} → decode text ≡ characters cs → first_character text ≡ malformed → cs ≡ []
split_none [] {cs} e stops = ends (sym e ∙ at_end [] 0 (omega arith))
  where
    ends : {cs : List ℕ} → characters cs ≡ characters [] → cs ≡ []
    ends e = cc
split_none (b ∷ text) e stops = absurd (none_malformed (b ∷ text) 0 (omega arith) e stops)
