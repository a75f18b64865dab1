-- A buffer copied whole onto another of its length. Assumes nothing.
use Rattle.integers.proofs.Prelude.{◌≡◌, List, ◌++◌, append-nil, ℕ, ◌≤◌, arith, length, take, drop, drop_of_length-le, take-length}

pub whole : (from to : List ℕ) → length from ≡ length to → take (length from) from ++ drop (length from) to ≡ from
whole from to same =
    let all : length to ≤ length from = omega arith in
    rw (take-length from, drop_of_length-le to {i = length from} all) (append-nil from)
