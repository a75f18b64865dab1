-- The smaller and the greater of two numbers as std has them, and as the definitions do. Assumes nothing.
use Rattle.integers.proofs.Prelude.{◌≡◌, ℤ}
use Rattle.std.specs.Int.{int_min, int_max}
use Rattle.std.proofs.lemmas.Int.{int_min_is, int_max_is}
use Rattle.integers.specs.Integers.{min_z, max_z}
use Rattle.integers.proofs.Laws.{zarith, min_is, max_is}

pub smaller : (a b : ℤ) → int_min a b ≡ min_z a b
smaller a b = omega (zarith, min_is a b, int_min_is a b)

pub greater : (a b : ℤ) → int_max a b ≡ max_z a b
greater a b = omega (zarith, max_is a b, int_max_is a b)
