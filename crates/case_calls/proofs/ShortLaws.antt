-- Where a file ends before a number, it ends before those behind it.
use Rattle.std.proofs.Common.{ℕ, ◌<◌, List, length, drop, length-drop, arith}

pub short_behind : (l : List ℕ) → length l < 4 → length (drop 4 l) < 4
short_behind l h = omega (arith, length-drop 4 l)
