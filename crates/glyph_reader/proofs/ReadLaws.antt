-- A number less half of its range. Assumes nothing.
use Rattle.integers.proofs.Prelude.{◌≡◌, ◌∙◌, ℕ, ◌-◌, ◌*◌, ◌%◌, ◌^◌, ◌≤◌, ◌<◌, one-mul, arith, ℤ, pos, ◌-ℤ◌, w8, w32, SFits, to_z, of_z, to_z-of_z}
use lib.Pow.{shl_exact}
use Rattle.integers.proofs.Laws.{zarith, minus, widens}
use Rattle.definitions.specs.Bits.{biased}
use Rattle.definitions.proofs.BitsLaws.{biased_range}

-- 1 shifted left in a byte
power : (e : ℕ) → e ≤ 7 → (1 * 2 ^ e) % 2 ^ 8 ≡ 2 ^ e
power e h = shl_exact 1 e 8 (omega arith) (omega arith) ∙ one-mul (2 ^ e)

narrowed : {z : ℤ} → SFits w8 z → to_z w8 (of_z w8 (to_z w32 (of_z w32 z))) ≡ z
narrowed f = let g = widens f in simp to_z-of_z

-- A number of b bits less 2 to the power b − 1 fits a signed byte.
module _ (b n : ℕ) (h : (1 ≤ b) × (b ≤ 8)) (k : n < 2 ^ b) where
  fits : SFits w8 (biased b n)
  fits = let r = biased_range b n h k in omega (zarith, minus (pos n) (pos (2 ^ (b - 1))))

  pub biased_is : to_z w8 (of_z w8 (to_z w32 (of_z w32 (pos n -ℤ pos ((1 * 2 ^ (b - 1)) % 2 ^ 8))))) ≡ biased b n
  biased_is = rw (power (b - 1) (omega arith)) (narrowed fits)
