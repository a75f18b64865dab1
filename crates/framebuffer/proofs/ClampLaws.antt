-- The nearest number from 0 to a limit, as a minimum that `omega` reads. Assumes nothing.
use Rattle.std.specs.Int.{int_max}
use Rattle.integers.proofs.Prelude.{◌≡◌, refl, ◌∙◌, Bool, true, false, ℕ, zero, suc, ◌-◌, min, arith, ltb, ℤ, pos, negsuc, nat_abs, ltb-true, ltb-false, lt-ltb, le-ltb}
use Rattle.integers.specs.Integers.{pick}
use Rattle.integers.proofs.Laws.{up, down}
use Rattle.framebuffer.specs.Areas.{clamped}

lesser : (limit n : ℕ) (t : Bool) → ltb limit n ≡ t → pick t limit n ≡ min n limit
lesser limit n true e = omega (arith, ltb-true limit n e)
lesser limit n false e = omega (arith, ltb-false limit n e)

pub clamped_is : (x : ℤ) (limit : ℕ) → clamped x limit ≡ min (up x - down x) limit
unfolding clamped
clamped_is (pos n) limit =
    let e : min n limit ≡ min (n - 0) limit = omega arith in
    simp (le-ltb n 0 (omega arith)) (lesser limit n (ltb limit n) refl ∙ e)
clamped_is (negsuc n) limit = omega arith

-- as it is computed
max_is : (x : ℤ) → nat_abs (int_max x (pos 0)) ≡ up x - down x
max_is (pos zero) = omega arith
max_is (pos (suc n)) = simp (lt-ltb 0 (suc n) (omega arith)) (omega arith)
max_is (negsuc n) = omega arith

pub clamped_max : (x : ℤ) (limit : ℕ) {m : ℤ} {n : ℕ} → m ≡ int_max x (pos 0) → n ≡ min (nat_abs m) limit → n ≡ clamped x limit
clamped_max x limit {m} {n} e h = h ∙ rw (e, max_is x, clamped_is x limit)
