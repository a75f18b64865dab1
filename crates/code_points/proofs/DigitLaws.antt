-- What `{:04X}` writes of a number of 32 bits: its hexadecimal digits, with zeros before fewer than four. Assumes nothing.
use Rattle.integers.proofs.Prelude.{◌≡◌, refl, sym, ◌∙◌, Bool, true, false, List, [], ◌∷◌, ◌++◌, append-nil, append_assoc, ℕ, zero, suc, ◌+◌, ◌-◌, ◌/◌, ◌%◌, ◌^◌, ◌≤◌, ◌<◌}
use Rattle.integers.proofs.Prelude.{arith, ltb, length, replicate, ne_eqb, lt-ltb, le-ltb, dec_lt}
use Rattle.integers.specs.Integers.{pick}
use Rattle.std.specs.Fmt.{digits, digits_onto, digit_glyph, padded_integral, format_spec, char_count}
use Rattle.std.proofs.Common.{cond}
use Rattle.code_points.specs.CodePoints.{hex_digit, hex_digits, hex_places}

glyph : (d : ℕ) → digit_glyph true d ≡ hex_digit d
glyph d = by (ltb d 10)
  where
    by : (t : Bool) → cond t (48 + d) (55 + d) ≡ pick t (48 + d) (55 + d)
    by true = refl
    by false = refl

-- n has k digits more than one
abbrev More : ℕ → ℕ → Type 0
More zero n = n < 16
More (suc k) n = (16 ≤ n) × More k (n / 16)

onto : (k fuel n : ℕ) (acc : List ℕ) → k < fuel → More k n → digits_onto fuel 16 true n acc ≡ hex_digits (suc k) n ++ acc
unfolding hex_digits
onto k zero n acc h p = absurd (omega arith)
onto zero (suc fuel) n acc h p =
    let none : n / 16 ≡ 0 = omega arith in
    rw (none, glyph (n % 16)) refl
onto (suc k) (suc fuel) n acc h p =
    let some : n / 16 ≡ 0 → ⊥ = λ e. omega (arith, p.0) in
    rw (ne_eqb (n / 16) 0 some, glyph (n % 16), onto k fuel (n / 16) (hex_digit (n % 16) ∷ acc) (omega arith) p.1)
    (sym (append_assoc (hex_digits (suc k) (n / 16)) (hex_digit (n % 16) ∷ []) acc))

digits_are : (k n : ℕ) → k < 64 → More k n → digits 16 true n ≡ hex_digits (suc k) n
unfolding digits
digits_are k n h p = onto k 64 n [] h p ∙ append-nil (hex_digits (suc k) n)

more1 : (n : ℕ) → 0x10 ≤ n → n < 0x100 → More 1 n
more1 n g h = (omega arith, omega arith)

more2 : (n : ℕ) → 0x100 ≤ n → n < 0x1000 → More 2 n
more2 n g h = (omega arith, more1 (n / 16) (omega arith) (omega arith))

more3 : (n : ℕ) → 0x1000 ≤ n → n < 0x10000 → More 3 n
more3 n g h = (omega arith, more2 (n / 16) (omega arith) (omega arith))

more4 : (n : ℕ) → 0x10000 ≤ n → n < 0x100000 → More 4 n
more4 n g h = (omega arith, more3 (n / 16) (omega arith) (omega arith))

more5 : (n : ℕ) → 0x100000 ≤ n → n < 0x1000000 → More 5 n
more5 n g h = (omega arith, more4 (n / 16) (omega arith) (omega arith))

more6 : (n : ℕ) → 0x1000000 ≤ n → n < 0x10000000 → More 6 n
more6 n g h = (omega arith, more5 (n / 16) (omega arith) (omega arith))

more7 : (n : ℕ) → 0x10000000 ≤ n → n < 0x100000000 → More 7 n
more7 n g h = (omega arith, more6 (n / 16) (omega arith) (omega arith))

-- ---- with zeros before them

if_less : {P : Type 0} (m n : ℕ) → (m < n → P) → (n ≤ m → P) → P
if_less {P} m n p q = by (dec_lt m n)
  where
    by : Dec (m < n) → P
    by (yes h) = p h
    by (no h) = q (omega arith)

abbrev pub Padded : ℕ → Type 0
Padded n = replicate (4 - length (digits 16 true n)) 48 ++ digits 16 true n ≡ hex_digits (hex_places n) n

module _ (n : ℕ) where
  one : n < 0x10 → Padded n
  unfolding hex_digits
  one h =
      let none : n / 16 ≡ 0 = omega arith in
      simp (digits_are 0 n (omega arith) h, lt-ltb n 0x10000 (omega arith), none)

  two : 0x10 ≤ n → n < 0x100 → Padded n
  unfolding hex_digits
  two g h =
      let none : n / 16 / 16 ≡ 0 = omega arith in
      simp (digits_are 1 n (omega arith) (more1 n g h), lt-ltb n 0x10000 (omega arith), none)

  three : 0x100 ≤ n → n < 0x1000 → Padded n
  unfolding hex_digits
  three g h =
      let none : n / 16 / 16 / 16 ≡ 0 = omega arith in
      simp (digits_are 2 n (omega arith) (more2 n g h), lt-ltb n 0x10000 (omega arith), none)

  four : 0x1000 ≤ n → n < 0x10000 → Padded n
  unfolding hex_digits
  four g h =
      simp (digits_are 3 n (omega arith) (more3 n g h), lt-ltb n 0x10000 (omega arith))

  five : 0x10000 ≤ n → n < 0x100000 → Padded n
  unfolding hex_digits
  five g h =
      simp (digits_are 4 n (omega arith) (more4 n g h), le-ltb n 0x10000 (omega arith), lt-ltb n 0x100000 (omega arith))

  six : 0x100000 ≤ n → n < 0x1000000 → Padded n
  unfolding hex_digits
  six g h =
      simp (digits_are 5 n (omega arith) (more5 n g h), le-ltb n 0x10000 (omega arith), le-ltb n 0x100000 (omega arith), lt-ltb n 0x1000000 (omega arith))

  seven : 0x1000000 ≤ n → n < 0x10000000 → Padded n
  unfolding hex_digits
  seven g h =
      simp (digits_are 6 n (omega arith) (more6 n g h), le-ltb n 0x10000 (omega arith), le-ltb n 0x100000 (omega arith), le-ltb n 0x1000000 (omega arith), lt-ltb n 0x10000000 (omega arith))

  eight : 0x10000000 ≤ n → n < 0x100000000 → Padded n
  unfolding hex_digits
  eight g h =
      simp (digits_are 7 n (omega arith) (more7 n g h), le-ltb n 0x10000 (omega arith), le-ltb n 0x100000 (omega arith), le-ltb n 0x1000000 (omega arith), le-ltb n 0x10000000 (omega arith))

  pub padded_digits : n < 2 ^ 32 → Padded n
  padded_digits h =
      if_less n 0x10 (λ h. one h) (λ g1.
      if_less n 0x100 (λ h. two g1 h) (λ g2.
      if_less n 0x1000 (λ h. three g2 h) (λ g3.
      if_less n 0x10000 (λ h. four g3 h) (λ g4.
      if_less n 0x100000 (λ h. five g4 h) (λ g5.
      if_less n 0x1000000 (λ h. six g5 h) (λ g6.
      if_less n 0x10000000 (λ h. seven g6 h) (λ g7.
      eight g7 (omega arith))))))))

pub padded : (numeral : List ℕ) → padded_integral (format_spec 32 0 4 4 (2 ^ 64 - 1)) false [] numeral ≡ replicate (4 - length numeral) 48 ++ numeral
unfolding padded_integral char_count
padded numeral = let e : 4 - length numeral - 0 - 0 ≡ 4 - length numeral = omega arith in rw (e, append-nil)

pub ruleset written = (padded, padded_digits)
