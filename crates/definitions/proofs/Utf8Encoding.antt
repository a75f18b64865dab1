-- The sequences that are taken are the encodings of scalar values, no others (`head`) and all of them (`first_encode`).
-- Assumes nothing.
use Rattle.integers.proofs.Prelude.{◌≡◌, refl, sym, ap, subst, ◌∙◌, Bool, true, false, ◌&&◌, inl, inr, List, [], ◌∷◌, ◌++◌, ℕ, zero, suc, ◌+◌, ◌*◌}
use Rattle.integers.proofs.Prelude.{◌/◌, ◌%◌, ◌≤◌, ◌<◌, arith, length, get_or, take, list_get_or_eq_default, le-leb, lt-leb}
use Rattle.integers.specs.Integers.{pick}
use Rattle.integers.proofs.Choices.{impossible}
use Rattle.definitions.specs.Utf8.{is_in, continues, Row, one, two, three, four, none, row_of, character, malformed, sequence, first_character, Scalar, encode}
use Rattle.definitions.proofs.Utf8Rows.{if_less, both, within, bounds, by_rows, row_one, row_two, row_three_e0, row_three_e1, row_three_ed, row_three_ee, row_four_f0, row_four_f1, row_four_f4}

-- ---- encoding

module _ (c : ℕ) where
  pub encode_one : c ≤ 0x7F → encode c ≡ c ∷ []
  unfolding encode
  encode_one h = simp (le-leb c 0x7F h)

  pub encode_two : 0x80 ≤ c → c ≤ 0x7FF → encode c ≡ (0xC0 + c / 64) ∷ (0x80 + c % 64) ∷ []
  unfolding encode
  encode_two h k = simp (lt-leb c 0x7F h, le-leb c 0x7FF k)

  pub encode_three : 0x800 ≤ c → c ≤ 0xFFFF → encode c ≡ (0xE0 + c / 4096) ∷ (0x80 + c / 64 % 64) ∷ (0x80 + c % 64) ∷ []
  unfolding encode
  encode_three h k = simp (lt-leb c 0x7F (omega arith), lt-leb c 0x7FF h, le-leb c 0xFFFF k)

  pub encode_four : 0x10000 ≤ c → encode c ≡ (0xF0 + c / 262144) ∷ (0x80 + c / 4096 % 64) ∷ (0x80 + c / 64 % 64) ∷ (0x80 + c % 64) ∷ []
  unfolding encode
  encode_four h = simp (lt-leb c 0x7F (omega arith), lt-leb c 0x7FF (omega arith), lt-leb c 0xFFFF h)

  pub encode_some : 1 ≤ length (encode c)
  encode_some =
      if_less c 0x80 (λ h. rw (encode_one (omega arith)) (omega arith)) (λ one.
      if_less c 0x800 (λ h. rw (encode_two one (omega arith)) (omega arith)) (λ two.
      if_less c 0x10000 (λ h. rw (encode_three two (omega arith)) (omega arith)) (λ three.
      rw (encode_four three) (omega arith))))

-- ---- nothing malformed is taken: the bytes of a character are the encoding of its code point

-- The bytes a, b, c, d begin with the character of code point p, which takes k of them.
record Begins (a b c d p k : ℕ) : Type 0 where
  scalar : Scalar p
  some : 1 ≤ k
  most : k ≤ 4
  bytes : take k (a ∷ b ∷ c ∷ d ∷ []) ≡ encode p
  second : 2 ≤ k → 0 < b
  third : 3 ≤ k → 0 < c
  fourth : 4 ≤ k → 0 < d

by_test : (P : ℕ → ℕ → Type 0) (t : Bool) {x n p k : ℕ} → (t ≡ true → P x n) → pick t (character x n) malformed ≡ character p k → P p k
by_test P true {x} {n} {p} {k} q e =
    let code : x ≡ p = cc in
    let size : n ≡ k = cc in
    subst (λ (m : ℕ). P m k) code (subst (λ (m : ℕ). P x m) size (q refl))
by_test P false q e = impossible cc

module _ (a b c d : ℕ) where
  -- the code points of two, three and four bytes
  abbrev code2 : ℕ
  code2 = a % 32 * 64 + b % 64

  abbrev code3 : ℕ
  code3 = a % 16 * 4096 + b % 64 * 64 + c % 64

  abbrev code4 : ℕ
  code4 = a % 8 * 262144 + b % 64 * 4096 + c % 64 * 64 + d % 64

  abbrev Right : Row → Type 0
  Right r = (p k : ℕ) → sequence r a b c d ≡ character p k → Begins a b c d p k

  one_right : a ≤ 0x7F → Right one
  one_right h p k e = by_test (Begins a b c d) true (λ t. begins) e
    where
      begins : Begins a b c d a 1
      begins = record {
        scalar = inl (omega arith);
        some = omega arith;
        most = omega arith;
        bytes = sym (encode_one a h);
        second = λ k. omega arith;
        third = λ k. omega arith;
        fourth = λ k. omega arith;
      }

  two_right : 0xC2 ≤ a → a ≤ 0xDF → Right (two 0x80 0xBF)
  two_right least most p k e = by_test (Begins a b c d) _ begins e
    where
      begins : is_in 0x80 0xBF b ≡ true → Begins a b c d code2 2
      begins t =
          let r = bounds 0x80 0xBF b t in
          let first : 0xC0 + code2 / 64 ≡ a = omega arith in
          let second : 0x80 + code2 % 64 ≡ b = omega arith in
          record {
            scalar = inl (omega arith);
            some = omega arith;
            most = omega arith;
            bytes = sym (encode_two code2 (omega arith) (omega arith) ∙ simp (first, second));
            second = λ k. omega arith;
            third = λ k. omega arith;
            fourth = λ k. omega arith;
          }

  three_right : {from to : ℕ} → 0xE0 ≤ a → a ≤ 0xEF → 0x80 ≤ from → to ≤ 0xBF
      → (from ≤ b → b ≤ to → (0x800 ≤ code3) × Scalar code3) → Right (three from to)
  three_right {from} {to} least most low high scalar p k e = by_test (Begins a b c d) _ begins e
    where
      begins : (is_in from to b && continues c) ≡ true → Begins a b c d code3 3
      begins t =
          let q = both (is_in from to b) (continues c) t in
          let r = bounds from to b q.0 in
          let s = bounds 0x80 0xBF c q.1 in
          let first : 0xE0 + code3 / 4096 ≡ a = omega arith in
          let second : 0x80 + code3 / 64 % 64 ≡ b = omega arith in
          let third : 0x80 + code3 % 64 ≡ c = omega arith in
          record {
            scalar = (scalar r.0 r.1).1;
            some = omega arith;
            most = omega arith;
            bytes = sym (encode_three code3 (scalar r.0 r.1).0 (omega arith) ∙ simp (first, second, third));
            second = λ k. omega arith;
            third = λ k. omega arith;
            fourth = λ k. omega arith;
          }

  four_right : {from to : ℕ} → 0xF0 ≤ a → a ≤ 0xF4 → 0x80 ≤ from → to ≤ 0xBF
      → (from ≤ b → b ≤ to → (0x10000 ≤ code4) × (code4 ≤ 0x10FFFF)) → Right (four from to)
  four_right {from} {to} least most low high scalar p k e = by_test (Begins a b c d) _ begins e
    where
      begins : (is_in from to b && continues c && continues d) ≡ true → Begins a b c d code4 4
      begins t =
          let q = both _ (continues d) t in
          let q' = both (is_in from to b) (continues c) q.0 in
          let r = bounds from to b q'.0 in
          let s = bounds 0x80 0xBF c q'.1 in
          let s' = bounds 0x80 0xBF d q.1 in
          let limits = scalar r.0 r.1 in
          let first : 0xF0 + code4 / 262144 ≡ a = omega arith in
          let second : 0x80 + code4 / 4096 % 64 ≡ b = omega arith in
          let third : 0x80 + code4 / 64 % 64 ≡ c = omega arith in
          let fourth : 0x80 + code4 % 64 ≡ d = omega arith in
          record {
            scalar = inr (omega arith, limits.1);
            some = omega arith;
            most = omega arith;
            bytes = sym (encode_four code4 limits.0 ∙ simp (first, second, third, fourth));
            second = λ k. omega arith;
            third = λ k. omega arith;
            fourth = λ k. omega arith;
          }

  right : Right (row_of a)
  right =
      by_rows Right a
      (λ h k. one_right k)
      (λ h k. two_right h k)
      (λ h k. three_right (omega arith) (omega arith) (omega arith) (omega arith) (λ m n. (omega arith, inl (omega arith))))
      (λ h k. three_right (omega arith) (omega arith) (omega arith) (omega arith) (λ m n. (omega arith, inl (omega arith))))
      (λ h k. three_right (omega arith) (omega arith) (omega arith) (omega arith) (λ m n. (omega arith, inl (omega arith))))
      (λ h k. three_right (omega arith) (omega arith) (omega arith) (omega arith) (λ m n. (omega arith, inr (omega arith))))
      (λ h k. four_right (omega arith) (omega arith) (omega arith) (omega arith) (λ m n. omega arith))
      (λ h k. four_right (omega arith) (omega arith) (omega arith) (omega arith) (λ m n. omega arith))
      (λ h k. four_right (omega arith) (omega arith) (omega arith) (omega arith) (λ m n. omega arith))
      nothing
    where
      nothing : Right none
      nothing p k e = impossible cc

-- a byte that is not 0 lies within the bytes
inside : (s : List ℕ) (i : ℕ) → 0 < get_or s i 0 → i < length s
inside s i h = if_less i (length s) (λ p. p) (λ p. let z = list_get_or_eq_default s 0 {n = i} p in absurd (omega arith))

counted : (k : ℕ) (s : List ℕ) → k ≤ 4 → (2 ≤ k → 0 < get_or s 0 0) → (3 ≤ k → 0 < get_or s 1 0) → (4 ≤ k → 0 < get_or s 2 0) → k ≤ suc (length s)
counted zero s m p q r = omega arith
counted (suc zero) s m p q r = omega arith
counted (suc (suc zero)) s m p q r = omega (arith, inside s 0 (p (omega arith)))
counted (suc (suc (suc zero))) s m p q r = omega (arith, inside s 1 (q (omega arith)))
counted (suc (suc (suc (suc zero)))) s m p q r = omega (arith, inside s 2 (r (omega arith)))
counted (suc (suc (suc (suc (suc k))))) s m p q r = absurd (omega arith)

take_four : (a k : ℕ) (s : List ℕ) → k ≤ 4 → k ≤ suc (length s) → take k (a ∷ s) ≡ take k (a ∷ get_or s 0 0 ∷ get_or s 1 0 ∷ get_or s 2 0 ∷ [])
take_four a zero s m l = refl
take_four a (suc zero) s m l = refl
take_four a (suc (suc zero)) [] m l = absurd (omega arith)
take_four a (suc (suc zero)) (b ∷ s) m l = refl
take_four a (suc (suc (suc zero))) [] m l = absurd (omega arith)
take_four a (suc (suc (suc zero))) (b ∷ []) m l = absurd (omega arith)
take_four a (suc (suc (suc zero))) (b ∷ c ∷ s) m l = refl
take_four a (suc (suc (suc (suc zero)))) [] m l = absurd (omega arith)
take_four a (suc (suc (suc (suc zero)))) (b ∷ []) m l = absurd (omega arith)
take_four a (suc (suc (suc (suc zero)))) (b ∷ c ∷ []) m l = absurd (omega arith)
take_four a (suc (suc (suc (suc zero)))) (b ∷ c ∷ d ∷ s) m l = refl
take_four a (suc (suc (suc (suc (suc k))))) s m l = absurd (omega arith)

-- The head of the bytes s is the character of code point c, of k bytes: they are the encoding of c.
pub record Head (s : List ℕ) (c k : ℕ) : Type 0 where
  pub scalar : Scalar c
  pub some : 1 ≤ k
  pub most : k ≤ 4
  pub within : k ≤ length s
  pub bytes : take k s ≡ encode c

pub head : (s : List ℕ) {c k : ℕ} → first_character s ≡ character c k → Head s c k
unfolding first_character
head [] e = impossible cc
head (a ∷ s) {c} {k} e =
    let b = right a (get_or s 0 0) (get_or s 1 0) (get_or s 2 0) c k e in
    let l = counted k s b.most b.second b.third b.fourth in
    record { scalar = b.scalar; some = b.some; most = b.most; within = l; bytes = take_four a k s b.most l ∙ b.bytes }

-- ---- nothing well formed is refused: every scalar value's encoding is its character

-- the six bits of a byte after the first
six : (n : ℕ) → (0x80 + n % 64) % 64 ≡ n % 64
six n = omega arith

code4_whole : (c : ℕ) → c / 262144 * 262144 + c / 4096 % 64 * 4096 + c / 64 % 64 * 64 + c % 64 ≡ c
code4_whole c = omega arith

module _ (c : ℕ) (rest : List ℕ) where
  abbrev Taken : Type 0
  Taken = first_character (encode c ++ rest) ≡ character c (length (encode c))

  taken_one : c ≤ 0x7F → Taken
  unfolding first_character
  taken_one h = rw (encode_one c h) (simp (row_one c (omega arith) h))

  taken_two : 0x80 ≤ c → c ≤ 0x7FF → Taken
  unfolding first_character
  taken_two h k =
      let row = row_two (0xC0 + c / 64) (omega arith) (omega arith) in
      let second = within 0x80 0xBF (0x80 + c % 64) (omega arith) (omega arith) in
      let code : (0xC0 + c / 64) % 32 * 64 + (0x80 + c % 64) % 64 ≡ c = omega arith in
      rw (encode_two c h k) (simp (row, second, code))

  taken_three : {from to : ℕ} → 0x800 ≤ c → c ≤ 0xFFFF → row_of (0xE0 + c / 4096) ≡ three from to
      → from ≤ 0x80 + c / 64 % 64 → 0x80 + c / 64 % 64 ≤ to → Taken
  unfolding first_character
  taken_three {from} {to} h k row low high =
      let second = within from to (0x80 + c / 64 % 64) low high in
      let third = within 0x80 0xBF (0x80 + c % 64) (omega arith) (omega arith) in
      let code : (0xE0 + c / 4096) % 16 * 4096 + (0x80 + c / 64 % 64) % 64 * 64 + (0x80 + c % 64) % 64 ≡ c = omega arith in
      rw (encode_three c h k) (simp (row, second, third, code))

  taken_four : {from to : ℕ} → 0x10000 ≤ c → c ≤ 0x10FFFF → row_of (0xF0 + c / 262144) ≡ four from to
      → from ≤ 0x80 + c / 4096 % 64 → 0x80 + c / 4096 % 64 ≤ to → Taken
  unfolding first_character
  taken_four {from} {to} h k row low high =
      let second = within from to (0x80 + c / 4096 % 64) low high in
      let third = within 0x80 0xBF (0x80 + c / 64 % 64) (omega arith) (omega arith) in
      let fourth = within 0x80 0xBF (0x80 + c % 64) (omega arith) (omega arith) in
      let three_bits : (0xF0 + c / 262144) % 8 ≡ c / 262144 = omega arith in
      rw (encode_four c h) (simp (row, second, third, fourth, three_bits, six) (ap (λ (n : ℕ). character n 4) (code4_whole c)))

  low : c ≤ 0xD7FF → Taken
  low k =
      if_less c 0x80 (λ h. taken_one (omega arith)) (λ one.
      if_less c 0x800 (λ h. taken_two one (omega arith)) (λ two.
      if_less c 0x1000 (λ h. taken_three two (omega arith) (row_three_e0 _ (omega arith) (omega arith)) (omega arith) (omega arith)) (λ e0.
      if_less c 0xD000 (λ h. taken_three two (omega arith) (row_three_e1 _ (omega arith) (omega arith)) (omega arith) (omega arith)) (λ e1.
      taken_three two (omega arith) (row_three_ed _ (omega arith) (omega arith)) (omega arith) (omega arith)))))

  high : 0xE000 ≤ c → c ≤ 0x10FFFF → Taken
  high h k =
      if_less c 0x10000 (λ m. taken_three (omega arith) (omega arith) (row_three_ee _ (omega arith) (omega arith)) (omega arith) (omega arith)) (λ three.
      if_less c 0x40000 (λ m. taken_four three k (row_four_f0 _ (omega arith) (omega arith)) (omega arith) (omega arith)) (λ f0.
      if_less c 0x100000 (λ m. taken_four three k (row_four_f1 _ (omega arith) (omega arith)) (omega arith) (omega arith)) (λ f1.
      taken_four three k (row_four_f4 _ (omega arith) (omega arith)) (omega arith) (omega arith))))

  pub first_encode : Scalar c → Taken
  first_encode (inl h) = low h
  first_encode (inr h) = high h.0 h.1
