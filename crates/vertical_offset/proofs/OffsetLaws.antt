-- Every value that `compute_vertical_offset` computes fits an i32, so that it is read back as it was stored. Assumes nothing.
use Rattle.integers.proofs.Prelude.{◌≡◌, ℕ, ◌≤◌, T, leb, leb→le, ℤ, pos, negsuc, ◌+ℤ◌, ◌-ℤ◌, ◌≤ℤ◌, w8, w32, SFits, to_z, of_z, to_z-of_z}
use Rattle.integers.specs.Integers.{half}
use Rattle.integers.proofs.Laws.{zarith, plus, minus, half_is, half_fits, range}

-- a value as it is stored and read back
abbrev stored : ℤ → ℤ
stored z = to_z w32 (of_z w32 z)

-- a value from which another can be subtracted
pub record Subtractable (z : ℤ) : Type 0 where
  pub low : negsuc 268431359 ≤ℤ z
  pub high : z ≤ℤ pos 268431360

pub near_byte : {z : ℤ} → SFits w8 z → Subtractable z
near_byte f = record { low = omega (zarith, range f); high = omega (zarith, range f) }

pub near_total : {t : ℕ} → t ≤ 268431360 → Subtractable (pos t)
near_total h = record { low = omega zarith; high = omega zarith }

pub difference_fits : {y z : ℤ} → Subtractable y → Subtractable z → SFits w32 (y -ℤ z)
difference_fits {y} {z} h k = omega (zarith, minus y z)

-- That sums fit does not hang on the 1 that is added: whether it is 1 is for the result to show.
pub next_fits : {a : ℤ} {k : ℕ} → SFits w8 a → k ≤ 1 → SFits w32 (a +ℤ pos k)
next_fits {a} {k} f h = omega (zarith, range f, plus a (pos k))

-- Center: what is halved, each value on the way being stored, and what follows. k is the 1.
abbrev halvable : (t a d : ℤ) (k : ℕ) → ℤ
halvable t a d k = stored (stored (stored (t +ℤ a) -ℤ d) +ℤ pos k)

pub record CenterFits (t a d : ℤ) (k : ℕ) : Type 0 where
  pub sum : SFits w32 (t +ℤ a)
  pub difference : SFits w32 (stored (t +ℤ a) -ℤ d)
  pub next : SFits w32 (stored (stored (t +ℤ a) -ℤ d) +ℤ pos k)
  pub halved : SFits w32 (half (halvable t a d k))
  pub lowered : SFits w32 (stored (half (halvable t a d k)) +ℤ d)
  pub offset : SFits w32 (stored (stored (half (halvable t a d k)) +ℤ d) -ℤ t)
  pub result : stored (stored (stored (half (halvable t a d k)) +ℤ d) -ℤ t) ≡ half (t +ℤ a -ℤ d +ℤ pos k) +ℤ d -ℤ t

-- k ≤ 1 is given as a test, so that at a number `tt` shows it
pub center_fits : {t : ℕ} {a d : ℤ} {k : ℕ} → t ≤ 268431360 → SFits w8 a → SFits w8 d → T (leb k 1) → CenterFits (pos t) a d k
center_fits {t} {a} {d} {k} h f g b =
    let l = leb→le k 1 b in
    let m = pos t +ℤ a -ℤ d in
    let n = m +ℤ pos k in
    let p1 : SFits w32 (pos t +ℤ a) = omega (zarith, range f, plus (pos t) a) in
    let p2 : SFits w32 m = omega (zarith, range f, range g, plus (pos t) a, minus (pos t +ℤ a) d) in
    let p3 : SFits w32 n = omega (zarith, range f, range g, plus (pos t) a, minus (pos t +ℤ a) d, plus m (pos k)) in
    let p4 : SFits w32 (half n) = half_fits w32 n p3 in
    let p5 : SFits w32 (half n +ℤ d) = omega (zarith, range p3, range g, half_is n, plus (half n) d) in
    let p6 : SFits w32 (half n +ℤ d -ℤ pos t) = omega (zarith, range p3, range g, half_is n, plus (half n) d, minus (half n +ℤ d) (pos t)) in
    record {
      sum = p1;
      difference = simp to_z-of_z p2;
      next = simp to_z-of_z p3;
      halved = simp to_z-of_z p4;
      lowered = simp to_z-of_z p5;
      offset = simp to_z-of_z p6;
      result = simp to_z-of_z;
    }
