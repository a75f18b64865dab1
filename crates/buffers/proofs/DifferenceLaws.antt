-- Pixels that differ, one after the other; no pixel of a framebuffer differs from itself. Assumes nothing.
use Rattle.integers.proofs.Prelude.{◌≡◌, refl, sym, ap, ◌∙◌, Bool, true, false, not, List, [], ◌∷◌, ℕ, suc, ◌+◌, ◌≤◌, ◌<◌, min, add-one, eqb, eq-eqb}
use Rattle.integers.proofs.Prelude.{ne_eqb, dec_lt, arith, length, get_or, drop, drop-cons, drop_of_length-le, eqb-true}
use Rattle.std.specs.Prelude.{cond}
use Rattle.std.specs.List.{zip}
use Rattle.std.proofs.lemmas.List.Sums.{sum_by-cons}
use Rattle.integers.specs.Integers.{pick}
use Rattle.buffers.specs.Differences.{differences}

one : (same : Bool) → ◌≡◌ {A = ℕ} (cond (not same) 1 0) (pick same 0 1)
one true = refl
one false = refl

first : (x y : ℕ) (xs ys : List ℕ) → differences (x ∷ xs) (y ∷ ys) ≡ pick (eqb x y) 0 1 + differences xs ys
first x y xs ys =
    sum_by-cons (λ (p : ℕ × ℕ). cond (not (eqb p.0 p.1)) 1 0) (x, y) (zip xs ys)
    ∙ ap (λ (n : ℕ). n + differences xs ys) (one (eqb x y))

-- the pixel at i, and the rest
module _ (a b : List ℕ) (i : ℕ) where
  module _ (h : i < length a) (k : i < length b) where
    next_of_both : differences (drop i a) (drop i b) ≡ pick (eqb (get_or a i 0) (get_or b i 0)) 0 1 + differences (drop (i + 1) a) (drop (i + 1) b)
    next_of_both = rw (add-one, drop-cons a i 0 h, drop-cons b i 0 k) (first (get_or a i 0) (get_or b i 0) (drop (suc i) a) (drop (suc i) b))

    pub alike : get_or a i 0 ≡ get_or b i 0 → differences (drop i a) (drop i b) ≡ differences (drop (i + 1) a) (drop (i + 1) b)
    alike e = next_of_both ∙ rw (eq-eqb (get_or a i 0) (get_or b i 0) e) (omega arith)

    pub unlike : (get_or a i 0 ≡ get_or b i 0 → ⊥) → differences (drop i a) (drop i b) ≡ 1 + differences (drop (i + 1) a) (drop (i + 1) b)
    unlike e = next_of_both ∙ rw (ne_eqb (get_or a i 0) (get_or b i 0) e)

  none_beside : (xs : List ℕ) → differences xs [] ≡ 0
  none_beside [] = refl
  none_beside (x ∷ xs) = refl

  pub none_left : min (length a) (length b) ≤ i → differences (drop i a) (drop i b) ≡ 0
  none_left h = by (dec_lt i (length a))
    where
      by : Dec (i < length a) → differences (drop i a) (drop i b) ≡ 0
      by (yes k) =
          let short : length b ≤ i = omega arith in
          rw (drop_of_length-le b {i = i} short) (none_beside (drop i a))
      by (no k) =
          let short : length a ≤ i = omega arith in
          rw (drop_of_length-le a {i = i} short)

pub next : (a b : List ℕ) → length a ≡ length b → (i : ℕ) → i < length a
    → differences (drop i a) (drop i b) ≡ pick (eqb (get_or a i 0) (get_or b i 0)) 0 1 + differences (drop (i + 1) a) (drop (i + 1) b)
next a b same i h = next_of_both a b i h (omega arith)

-- Among the first i pixels n differ: with those that differ among the rest they are all.
pub record CountedTo (a b : List ℕ) (n i : ℕ) : Type 0 where
  pub few : n ≤ i
  pub counted : n + differences (drop i a) (drop i b) ≡ differences a b

-- No difference: the framebuffers are the same.
split : (t : Bool) (n : ℕ) → pick t 0 1 + n ≡ 0 → (t ≡ true) × (n ≡ 0)
split true n e = (refl, omega arith)
split false n e = absurd (omega arith)

pub same_if_none : (a b : List ℕ) → length a ≡ length b → differences a b ≡ 0 → a ≡ b
same_if_none [] [] l e = refl
same_if_none [] (y ∷ ys) l e = absurd (omega arith)
same_if_none (x ∷ xs) [] l e = absurd (omega arith)
same_if_none (x ∷ xs) (y ∷ ys) l e =
    let h = split (eqb x y) (differences xs ys) (sym (first x y xs ys) ∙ e) in
    let p = eqb-true x y h.0 in
    let q = same_if_none xs ys (omega arith) h.1 in
    cc

pub none_if_same : (a : List ℕ) → differences a a ≡ 0
none_if_same [] = refl
none_if_same (x ∷ xs) = let h = none_if_same xs in let e = eq-eqb x x refl in grind arith
