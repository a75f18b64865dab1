-- What one reading adds to the totals. Assumes nothing.
use Rattle.integers.proofs.Prelude.{◌≡◌, refl, Bool, true, false, ℕ, ◌+◌, ◌≤◌, arith, eqb}
use Rattle.integers.specs.Integers.{pick}
use Rattle.std.specs.Prelude.{Option, Some, None}
use Rattle.sight.specs.declared.Sight.{Sight}
use Rattle.sight.specs.declared.Sight.TheVariants.{Whole, Part, Unseen}
use Rattle.sheet_totals.specs.Totals.{whole_one, part_one, unseen_one, refused_one}

pub at_most : (n : ℕ) → pick (eqb n 0) 0 1 ≤ 1
at_most n = by (eqb n 0)
  where
    by : (b : Bool) → pick b 0 1 ≤ 1
    by true = omega arith
    by false = omega arith

-- Each reading is counted once.
pub one : (s : Option Sight) → whole_one s + part_one s + unseen_one s + refused_one s ≡ 1
one (Some Whole) = refl
one (Some Part) = refl
one (Some Unseen) = refl
one None = refl
