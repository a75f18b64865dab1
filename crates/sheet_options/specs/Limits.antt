-- The calls take a place whose coordinates are at most 1,048,576 from 0.
use Rattle.std.specs.Prelude.{ℤ, nat_abs, ◌≤◌, IfSome}
use Rattle.sheet_extent.specs.declared.values.Options.{Options}

abbrev pub Limited : ℤ → Type 0
Limited z = nat_abs z ≤ 1048576

abbrev pub WithinLimits : Options → Type 0
WithinLimits o = IfSome o.at (λ p. Limited p.x × Limited p.y)
