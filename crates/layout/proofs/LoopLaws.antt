-- A loop over the characters of a text, whatever it carries along: what holds where `left` is left of the text, and one turn of it.
-- `from s cs` is what the code points cs come to from the state s on, and `fits read rest s` what the loop knows of the numbers
-- in s after so many bytes. Assumes nothing.
use Rattle.integers.proofs.Prelude.{◌≡◌, refl, ap, subst, ◌∙◌, List, [], ◌∷◌, ℕ, ◌+◌, arith, length}
use Rattle.definitions.specs.Utf8.{malformed, first_character, characters, decode, code_points}
use Rattle.utf8.specs.Splits.{FirstAndRest}
use Rattle.utf8.proofs.SplitLaws.{split_length, split_next, split_none}

-- What is left of the text leads from here to where the whole text leads from its start.
pub record Reached {S R : Type 0} (from : S → List ℕ → R) (fits : ℕ → List ℕ → S → Type 0) (start : S) (text : List ℕ) (s : S) (left : List ℕ) : Type 0 where
  pub read : ℕ
  pub rest : List ℕ
  pub inside : read + length left ≡ length text
  pub decoded : decode left ≡ characters rest
  pub within : fits read rest s
  pub same : from start (code_points (decode text)) ≡ from s rest

module _ {S R : Type 0} {from : S → List ℕ → R} {fits : ℕ → List ℕ → S → Type 0} {start : S} {text : List ℕ} where
  unfoldable pub reached_start : decode text ≡ characters (code_points (decode text)) → fits 0 (code_points (decode text)) start → Reached from fits start text start text
  reached_start e f = record { read = 0; rest = code_points (decode text); inside = omega arith; decoded = e; within = f; same = refl }

  module _ {s : S} {left : List ℕ} (r : Reached from fits start text s left) where
    -- where no character follows, nothing is left
    pub reached_last : first_character left ≡ malformed → r.rest ≡ []
    reached_last e = split_none left r.decoded e

    pub reached_end : first_character left ≡ malformed → from start (code_points (decode text)) ≡ from s []
    reached_end e = r.same ∙ ap (from s) (reached_last e)

    module _ {c : ℕ} {tail : List ℕ} (p : FirstAndRest left c tail) where
      unfoldable pub reached_next : {s' : S} → ((cs : List ℕ) → from s (c ∷ cs) ≡ from s' cs) → ((cs : List ℕ) → fits r.read (c ∷ cs) s → fits (r.read + p.len) cs s')
          → Reached from fits start text s' tail
      reached_next {s'} turn keeps =
          let q = split_next p r.decoded in
          let l = split_length p in
          record {
            read = r.read + p.len;
            rest = q.rest;
            inside = omega (arith, r.inside, l.1);
            decoded = q.decoded;
            within = keeps q.rest (subst (λ (cs : List ℕ). fits r.read cs s) q.is r.within);
            same = r.same ∙ ap (from s) q.is ∙ turn q.rest;
          }

      pub reached_stops : {o : R} → ((cs : List ℕ) → from s (c ∷ cs) ≡ o) → from start (code_points (decode text)) ≡ o
      reached_stops turn = let q = split_next p r.decoded in r.same ∙ ap (from s) q.is ∙ turn q.rest
