-- The readings of a sheet counted, by what is seen of them and by whether the screen differs.
use Rattle.std.specs.Prelude.{ℕ, ◌+◌, ◌<◌, eqb, Option, Some, None}
use Rattle.integers.specs.Integers.{pick}
use Rattle.sight.specs.declared.Sight.{Sight}
use Rattle.sight.specs.declared.Sight.TheVariants.{Whole, Part, Unseen}
use Rattle.sheet_totals.specs.declared.Totals.{Totals}

abbrev pub no_totals : Totals
no_totals = record { whole = 0; part = 0; unseen = 0; refused = 0; differing = 0 }

-- how many of one reading are seen whole, and so on
abbrev pub whole_one : Option Sight → ℕ
whole_one (Some Whole) = 1
whole_one _ = 0

abbrev pub part_one : Option Sight → ℕ
part_one (Some Part) = 1
part_one _ = 0

abbrev pub unseen_one : Option Sight → ℕ
unseen_one (Some Unseen) = 1
unseen_one _ = 0

abbrev pub refused_one : Option Sight → ℕ
refused_one (Some sight) = 0
refused_one None = 1

-- one reading more, by what is seen of it and by how many pixels differ
abbrev pub tallied : Totals → Option Sight → ℕ → Totals
tallied t s n = record {
  whole = t.whole + whole_one s;
  part = t.part + part_one s;
  unseen = t.unseen + unseen_one s;
  refused = t.refused + refused_one s;
  differing = t.differing + pick (eqb n 0) 0 1;
}

-- Room for one more.
pub record Few (t : Totals) : Type 0 where
  pub whole : t.whole < 901
  pub part : t.part < 901
  pub unseen : t.unseen < 901
  pub refused : t.refused < 901
  pub differing : t.differing < 901
