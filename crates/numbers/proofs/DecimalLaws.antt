-- A number's decimal digits: the bound on the recursion decides nothing, and the digits are those of the number and no others.
-- Then signs. Assumes nothing.
use Rattle.integers.proofs.Prelude.{◌≡◌, refl, ap, ◌∙◌, Bool, true, false, List, [], ◌∷◌, ◌++◌, ℕ, zero, suc, ◌+◌, ◌-◌, ◌*◌, ◌/◌, ◌%◌, ◌≤◌, ◌<◌}
use Rattle.integers.proofs.Prelude.{dec_lt, arith, ltb, ℤ, pos, negsuc, nat_abs, lt_z, length, get_or, length-append, ltb-true, ltb-false, lt-ltb, le-ltb}
use Rattle.integers.specs.Integers.{pick}
use Rattle.integers.proofs.Laws.{zarith, ltz_false}
use Rattle.numbers.specs.Decimal.{decimal_from, decimal, signed_decimal}

-- `7`, without a zero before it
one_digit : decimal 7 ≡ 55 ∷ []
unfolding decimal decimal_from
one_digit = refl

-- two choices by one test, alike where the test fails
alike : {A : Type 0} (t : Bool) (a : A) {x y : A} → (t ≡ false → x ≡ y) → pick t a x ≡ pick t a y
alike true a h = refl
alike false a h = h refl

-- Any two bounds that are at least the number give the same digits.
pub enough_fuel : (f g n : ℕ) → n ≤ f → n ≤ g → decimal_from f n ≡ decimal_from g n
unfolding decimal_from
enough_fuel zero zero n p q = refl
enough_fuel zero (suc g) n p q = simp (lt-ltb n 10 (omega arith))
enough_fuel (suc f) zero n p q = simp (lt-ltb n 10 (omega arith))
enough_fuel (suc f) (suc g) n p q =
    alike (ltb n 10) _ (λ e.
    ap (λ (ds : List ℕ). ds ++ (48 + n % 10) ∷ [])
    (enough_fuel f g (n / 10) (omega (arith, ltb-false n 10 e)) (omega (arith, ltb-false n 10 e))))

-- So below 10 the only digit is the number, and from 10 on the last digit follows those of the tenth.
pub decimal_small : (n : ℕ) → n < 10 → decimal n ≡ (48 + n) ∷ []
unfolding decimal decimal_from
decimal_small zero h = refl
decimal_small (suc n) h = simp (lt-ltb (suc n) 10 h)

pub decimal_more : (n : ℕ) → 10 ≤ n → decimal n ≡ decimal (n / 10) ++ (48 + n % 10) ∷ []
unfolding decimal decimal_from
decimal_more zero h = absurd (omega arith)
decimal_more (suc n) h =
    simp (le-ltb (suc n) 10 h)
    (ap (λ (ds : List ℕ). ds ++ (48 + suc n % 10) ∷ []) (enough_fuel n (suc n / 10) (suc n / 10) (omega arith) (omega arith)))

-- What holds of one digit, and of a number's digits where it holds of its tenth's, holds of all numbers.
module _ (P : ℕ → List ℕ → Type 0) (one : (n : ℕ) → n < 10 → P n ((48 + n) ∷ []))
    (more : (n : ℕ) (ds : List ℕ) → 10 ≤ n → P (n / 10) ds → P n (ds ++ (48 + n % 10) ∷ [])) where
  upto : (bound n : ℕ) → n ≤ bound → P n (decimal n)
  upto zero n h = rw (decimal_small n (omega arith)) (one n (omega arith))
  upto (suc bound) n h = split (dec_lt n 10) (λ p. upto bound (n / 10) p)
    where
      split : Dec (n < 10) → (n / 10 ≤ bound → P (n / 10) (decimal (n / 10))) → P n (decimal n)
      split (yes p) tenth = rw (decimal_small n p) (one n p)
      split (no p) tenth = rw (decimal_more n (omega arith)) (more n (decimal (n / 10)) (omega arith) (tenth (omega arith)))

  pub by_digits : (n : ℕ) → P n (decimal n)
  by_digits n = upto n n (omega arith)

-- the number that ASCII digits write, after those that wrote `n`
abbrev pub value : ℕ → List ℕ → ℕ
value n [] = n
value n (d ∷ ds) = value (n * 10 + (d - 48)) ds

value_append : (n : ℕ) (ds es : List ℕ) → value n (ds ++ es) ≡ value (value n ds) es
value_append n [] es = refl
value_append n (d ∷ ds) es = value_append (n * 10 + (d - 48)) ds es

-- The digits of a number write it.
pub value_decimal : (n : ℕ) → value 0 (decimal n) ≡ n
value_decimal = by_digits (λ n ds. value 0 ds ≡ n) (λ n h. omega arith) (λ n ds h e. value_append 0 ds ((48 + n % 10) ∷ []) ∙ rw e (omega arith))

-- They are `0` to `9` ..
pub data Digits : List ℕ → Type 0 where
  last : {d : ℕ} → 48 ≤ d → d ≤ 57 → Digits (d ∷ [])
  next : {d : ℕ} {ds : List ℕ} → 48 ≤ d → d ≤ 57 → Digits ds → Digits (d ∷ ds)

digits_append : {ds : List ℕ} {d : ℕ} → 48 ≤ d → d ≤ 57 → Digits ds → Digits (ds ++ d ∷ [])
digits_append p q (last p' q') = next p' q' (last p q)
digits_append p q (next p' q' r) = next p' q' (digits_append p q r)

pub decimal_digits : (n : ℕ) → Digits (decimal n)
decimal_digits = by_digits (λ n ds. Digits ds) (λ n h. last (omega arith) (omega arith)) (λ n ds h r. digits_append (omega arith) (omega arith) r)

-- .. and the first is not `0`, but for the number 0.
first_append : (ds : List ℕ) (d : ℕ) → 0 < length ds → get_or (ds ++ d ∷ []) 0 0 ≡ get_or ds 0 0
first_append [] d h = absurd (omega arith)
first_append (e ∷ ds) d h = refl

pub no_leading_zero : (n : ℕ) → 0 < n → 48 < get_or (decimal n) 0 0
no_leading_zero n =
    (by_digits (λ n ds. (0 < length ds) × (0 < n → 48 < get_or ds 0 0))
    (λ n h. (omega arith, λ p. omega arith))
    (λ n ds h r. (simp length-append (omega arith), λ p. rw (first_append ds (48 + n % 10) r.0) (r.1 (omega arith))))
    n).1

-- A sign stands where the number is negative.
pub minus_sign : (z : ℤ) → lt_z z (pos 0) ≡ true → signed_decimal z ≡ 45 ∷ decimal (nat_abs z)
minus_sign (pos n) h = absurd (omega (arith, ltb-true n 0 h))
minus_sign (negsuc n) h = refl

pub no_sign : (z : ℤ) → lt_z z (pos 0) ≡ false → signed_decimal z ≡ decimal (nat_abs z)
no_sign (pos n) h = refl
no_sign (negsuc n) h = absurd (omega (zarith, ltz_false (negsuc n) (pos 0) h))
