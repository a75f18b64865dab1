-- The text of an angle, piece by piece from its start. Assumes nothing.
use Rattle.integers.proofs.Prelude.{◌≡◌, refl, ◌∙◌, Bool, true, false, List, [], ◌∷◌, ◌++◌, append_assoc, ℕ, zero, suc, ◌/◌, ◌%◌, ◌≤◌, ◌<◌, ◌*◌, ◌+◌, arith, dec_lt, mod-eq_of_lt}
use Rattle.integers.proofs.Prelude.{add-one, drop, set, length, length-append, ltb, lt-ltb, le-ltb, ℤ, pos, lt_z, nat_abs}
use Rattle.integers.specs.Integers.{pick}
use Rattle.numbers.specs.Decimal.{decimal}
use Rattle.numbers.proofs.DecimalLaws.{decimal_small, decimal_more}
use Rattle.numbers.proofs.DigitsLaws.{few_digits}
use Rattle.angles.specs.AngleText.{digit, degrees_then, sign_then, angle_text}

module _ (n : ℕ) (rest : List ℕ) where
  pub one_digit : n < 10 → degrees_then n rest ≡ digit (n % 10) ∷ rest
  unfolding degrees_then
  one_digit h = let e : n % 10 ≡ n = omega arith in rw (lt-ltb n 10 h, e)

  pub two_digits : 10 ≤ n → degrees_then n rest ≡ digit (n / 10) ∷ digit (n % 10) ∷ rest
  unfolding degrees_then
  two_digits h = rw (le-ltb n 10 h)

-- degrees below 100 are a number in decimal
degrees_decimal : (n : ℕ) (rest : List ℕ) → n < 100 → degrees_then n rest ≡ decimal n ++ rest
degrees_decimal n rest h = by_size (dec_lt n 10)
  where
    by_size : Dec (n < 10) → degrees_then n rest ≡ decimal n ++ rest
    by_size (yes p) = let e : n % 10 ≡ n = omega arith in one_digit n rest p ∙ rw (decimal_small n p, e) refl
    by_size (no p) = two_digits n rest (omega arith) ∙ rw (decimal_more n (omega arith), decimal_small (n / 10) (omega arith)) refl

sign_first : (z : ℤ) (rest : List ℕ) → sign_then z [] ++ rest ≡ sign_then z rest
sign_first z rest = by_tests (lt_z z (pos 0)) (lt_z (pos 0) z)
  where
    by_tests : (s t : Bool) → pick s (45 ∷ []) (pick t (43 ∷ []) []) ++ rest ≡ pick s (45 ∷ rest) (pick t (43 ∷ rest) rest)
    by_tests true t = refl
    by_tests false true = refl
    by_tests false false = refl

-- the sign, the degrees, the point and the tenth
pub in_pieces : (z : ℤ) → nat_abs z ≤ 999
    → ((sign_then z [] ++ decimal (nat_abs z / 10)) ++ 46 ∷ []) ++ decimal (nat_abs z % 10) ≡ angle_text z
unfolding angle_text
in_pieces z h =
    let d = nat_abs z / 10 in
    let t = (48 + nat_abs z % 10) ∷ [] in
    rw (decimal_small (nat_abs z % 10) (omega arith), ← sign_first z (degrees_then d (46 ∷ t)), degrees_decimal d (46 ∷ t) (omega arith)) (simp append_assoc)

pub at_most_two : (n : ℕ) → n < 100 → length (decimal n) ≤ 2
at_most_two n h = few_digits 1 n (omega arith)

pub at_most_one : (n : ℕ) → n < 10 → length (decimal n) ≤ 1
at_most_one n h = few_digits 0 n (omega arith)

-- ---- written from its end

front : (l : List ℕ) (i v : ℕ) → i < length l → drop i (set l i v) ≡ v ∷ drop (suc i) l
front [] i v h = absurd (omega arith)
front (x ∷ xs) zero v h = refl
front (x ∷ xs) (suc i) v h = front xs i v (omega arith)

-- a byte written before the text that begins at i + 1
pub written_before : (l : List ℕ) (i v start : ℕ) → i < length l → i + 1 ≡ start → drop i (set l i v) ≡ v ∷ drop start l
written_before l i v start h e = front l i v h ∙ rw (← e, add-one)

pub ruleset angle_pieces = (in_pieces, at_most_two, at_most_one, length-append)
