-- One example of each kind of fact that `omega` proves with the laws of Laws.antt: what to list, and how.
-- `◌≤ℤ◌` and `◌<ℤ◌` bind tighter than `◌+ℤ◌`, so a sum beside them stands in parentheses. Assumes nothing.
use mathlib.Core.Path.{◌≡◌}
use mathlib.Core.Bool.{true, false}
use Prim.Native.Nat.{ℕ, ◌≤◌}
use lib.IntN.{ℤ, pos, nat_abs, neg_ℤ, ◌+ℤ◌, ◌-ℤ◌}
use lib.Signed.{lt_z, ◌≤ℤ◌, ◌<ℤ◌}
use mir.Syntax.{w8, w32}
use mir.Val.{SFits}
use Rattle.integers.specs.Integers.{min_z, max_z, half}
use Rattle.integers.proofs.Laws.{zarith, plus, minus, neg, half_is, min_is, max_is, size, range}

-- an order
between : (a b c : ℤ) → a ≤ℤ b → b <ℤ c → a <ℤ c
between a b c h k = omega zarith

-- two orders make an equation
squeezed : (a b : ℤ) → a ≤ℤ b → b ≤ℤ a → a ≡ b
squeezed a b h k = omega zarith

-- sums and differences: the law of each one that occurs
regrouped : (a b c : ℤ) → (a +ℤ b) -ℤ c ≡ a +ℤ (b -ℤ c)
regrouped a b c = omega (zarith, plus a b, minus (a +ℤ b) c, minus b c, plus a (b -ℤ c))

turned : (a b : ℤ) → neg_ℤ (a -ℤ b) ≡ b -ℤ a
turned a b = omega (zarith, minus a b, neg (a -ℤ b), minus b a)

-- a test that failed, and one that holds
tested : (a b : ℤ) → lt_z a b ≡ false → lt_z b (a +ℤ pos 1) ≡ true
tested a b h = omega (zarith, plus a (pos 1))

-- a range: bounds give a fit, and a fit gives bounds by `range`
sum_fits : (a b : ℤ) → SFits w8 a → SFits w8 b → SFits w32 (a +ℤ b)
sum_fits a b f g = omega (zarith, plus a b, range f, range g)

-- the lesser and the greater
ordered : (a b : ℤ) → min_z a b ≤ℤ max_z a b
ordered a b = omega (zarith, min_is a b, max_is a b)

-- half towards zero: between the number and 0, from either side
halved : (a : ℤ) → a <ℤ pos 0 → (a <ℤ half a) × (half a ≤ℤ pos 0)
halved a h = omega (zarith, half_is a)

-- a difference as a natural number
distance : (a b : ℤ) (n : ℕ) → a ≤ℤ b → b ≤ℤ (a +ℤ pos n) → nat_abs (b -ℤ a) ≤ n
distance a b n h k = omega (zarith, minus b a, plus a (pos n), size (b -ℤ a))
