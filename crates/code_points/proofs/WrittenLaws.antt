-- Hexadecimal digits written from the last to the first: what is left to write, then what stands at the buffer's end. Assumes nothing.
use Rattle.integers.proofs.Prelude.{◌≡◌, sym, List, ◌++◌, append-nil, ℕ, ◌≤◌, arith, length, drop, drop_of_length-le}
use Rattle.code_points.specs.CodePoints.{hex_digits}

-- `whole` is what is left to write, and then what stands from `start` on
pub record Written (whole : List ℕ) (out : List ℕ) (rest left start : ℕ) : Type 0 where
  pub room : left ≤ start
  pub within : start ≤ 8
  pub size : length out ≡ 8
  pub is : whole ≡ hex_digits left rest ++ drop start out

pub written_none : (out : List ℕ) (n c : ℕ) → length out ≡ 8 → n ≤ 8 → Written (hex_digits n c) out c n 8
written_none out n c l h = record {
  room = h;
  within = omega arith;
  size = l;
  is = let k : length out ≤ 8 = omega arith in rw (drop_of_length-le out k) (sym (append-nil (hex_digits n c)));
}
