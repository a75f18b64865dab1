-- What a reader passes is gone from what is left. Assumes nothing.
use Rattle.std.proofs.Common.{◌≡◌, sym, ap, ◌∙◌, ℕ, ◌+◌, ◌-◌, ◌^◌, ◌<◌, min, length, drop, arith}
use native.Mathlib.Decide.{dec_lt}
use Rattle.std.proofs.lemmas.List.{drop-drop, drop_all}
use Rattle.cases.specs.Reading.{Position, rest, passed}

-- No file is longer than places go: beyond the last of them there is nothing left.
pub rest_passed : (n : ℕ) (p : Position) → length p.file < 2 ^ 64 → rest (passed n p) ≡ drop n (rest p)
rest_passed n p l = by (dec_lt (p.next + n) (2 ^ 64)) ∙ sym (drop-drop n p.next p.file)
  where
    by : Dec (p.next + n < 2 ^ 64) → rest (passed n p) ≡ drop (p.next + n) p.file
    by (yes h) =
        let here : min (p.next + n) (2 ^ 64 - 1) ≡ p.next + n = omega arith in
        ap (λ (i : ℕ). drop i p.file) here
    by (no h) = drop_all (min (p.next + n) (2 ^ 64 - 1)) p.file (omega arith) ∙ sym (drop_all (p.next + n) p.file (omega arith))
