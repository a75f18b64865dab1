-- The digits that `io::decimal` writes, the fewest that hold the number, are the definition's.
use Rattle.integers.proofs.Prelude.{◌≡◌, ℕ, zero, suc, ◌+◌, ◌-◌, ◌/◌, ◌%◌, ◌^◌, ◌≤◌, ◌<◌, mod-eq_of_lt, pow-suc, pow-le-pow_right, dec_lt, arith}
use Rattle.integers.proofs.Prelude.{lt-ltb, length, length-append}
use Rattle.io.specs.Digits.{hex_digit_ascii, last_digits, IsDigitCount}
use Rattle.numbers.specs.Decimal.{decimal}
use Rattle.numbers.proofs.DecimalLaws.{decimal_small, decimal_more}

-- a digit's code
code : (d : ℕ) → d < 10 → hex_digit_ascii d ≡ 48 + d
code d h = simp (lt-ltb d 10 h)

pub spelled : (k n : ℕ) → IsDigitCount 10 1 n k → last_digits 10 k n ≡ decimal n
spelled zero n f = absurd (omega arith)
spelled (suc zero) n f =
    let h : n < 10 = omega arith in
    rw (decimal_small n h, mod-eq_of_lt h, code n h)
spelled (suc (suc k)) n f =
    let p = pow-suc 10 k in
    let q = pow-suc 10 (suc k) in
    let i : suc (suc k) - 1 ≡ suc k = omega arith in
    let j : suc k - 1 ≡ k = omega arith in
    let least : 10 ^ suc k ≤ n = rw i at (f.2 (omega arith)) in
    let ten : 10 ≤ n = omega (arith, pow-le-pow_right {n = 10} (omega arith) {i = 1} {j = suc k} (omega arith)) in
    let e : last_digits 10 (suc k) (n / 10) ≡ decimal (n / 10) = spelled (suc k) (n / 10) (omega arith, omega arith, λ h. rw j (omega arith)) in
    rw (decimal_more n ten, e, code (n % 10) (omega arith))

-- As many digits as it takes, ..
pub few_digits : (k n : ℕ) → n < 10 ^ suc k → length (decimal n) ≤ suc k
few_digits zero n h = rw (decimal_small n (omega arith)) (omega arith)
few_digits (suc k) n h = by_size (dec_lt n 10) (few_digits k (n / 10) (omega (arith, pow-suc 10 (suc k))))
  where
    by_size : Dec (n < 10) → length (decimal (n / 10)) ≤ suc k → length (decimal n) ≤ suc (suc k)
    by_size (yes p) fewer = rw (decimal_small n p) (omega arith)
    by_size (no p) fewer = rw (decimal_more n (omega arith), length-append) (omega arith)

-- .. of a u32 at most ten.
pub ten_digits : (n : ℕ) → n < 2 ^ 32 → length (decimal n) ≤ 10
ten_digits n h = few_digits 9 n (omega arith)

-- .. for the length of a text with a number behind it.
pub ruleset number_fits = (ten_digits, length-append)
