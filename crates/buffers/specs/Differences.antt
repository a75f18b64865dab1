-- How many pixels of two framebuffers differ.
use Rattle.std.specs.Prelude.{List, ℕ, eqb, not, count_by}
use Rattle.std.specs.List.{zip}

abbrev pub differences : List ℕ → List ℕ → ℕ
differences xs ys = count_by (λ p. not (eqb p.0 p.1)) (zip xs ys)
