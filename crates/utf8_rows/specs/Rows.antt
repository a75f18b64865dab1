-- How the code's row of Unicode's table 3-7 is read as that of the definitions.
use Rattle.std.specs.Prelude.{Option, Some, None}
use Rattle.utf8_rows.specs.declared.Row.{Row}
use Rattle.utf8_rows.specs.declared.Row.TheVariants.{One, Two, Three, Four}
use Rattle.definitions.specs.Utf8.{one, two, three, four, none}
use Rattle.definitions.specs.Utf8 as utf8

abbrev pub as_row : Option Row → utf8.Row
as_row (Some One) = one
as_row (Some (Two from to)) = two from to
as_row (Some (Three from to)) = three from to
as_row (Some (Four from to)) = four from to
as_row None = none
