-- The law of a window: a shift and a remainder of it are the number of some of its bits. Assumes nothing.
use Rattle.integers.proofs.Prelude.{◌≡◌, refl, sym, ◌∙◌, List, [], ◌∷◌, ℕ, zero, suc, ◌+◌, ◌*◌, ◌/◌, ◌%◌, ◌^◌, ◌≤◌, ◌<◌, add-zero, div-one}
use Rattle.integers.proofs.Prelude.{ap, mul_comm, pow-suc, w8, Fits, one-add, arith, take, drop, get_or, take-nil, drop-nil, get_or-drop, drop-drop}
use Rattle.std.specs.Int.{sum_through, byte_worth}
use lib.Pow.{shr-shr, pow-add}
use Rattle.definitions.specs.Bits.{bits, number}
use Rattle.definitions.proofs.BitsLaws.{Small, double, power_suc, number_low_bits, number_small, drop_bytes}
use Rattle.window.specs.Window.{window}

halves : (r x : ℕ) → x / 2 ^ suc r ≡ x / 2 / 2 ^ r
halves r x = sym (rw one-add at (shr-shr x 1 r))

-- ---- some bits of a number that m bits make

first_bit : (x : ℕ) (s : List ℕ) → Small (x ∷ s) → x < 2
unfolding number
first_bit x s h = omega (arith, h 0 1)

-- w is known in its m lowest bits
number_part : (m : ℕ) (s : List ℕ) → Small s → (w r b : ℕ) → w % 2 ^ m ≡ number (take m s) → r + b ≤ m → w / 2 ^ r % 2 ^ b ≡ number (take b (drop r s))
unfolding number
number_part m s h w zero zero e k = omega arith
number_part zero s h w zero (suc b) e k = absurd (omega arith)
number_part zero s h w (suc r) b e k = absurd (omega arith)
number_part (suc m) [] h w zero (suc b) e k =
    let p = simp (div-one, take-nil {A = ℕ} b) at (number_part m [] h (w / 2) zero b (simp (take-nil {A = ℕ} m) (omega (arith, power_suc m w))) (omega arith)) in
    simp div-one (omega (arith, p, power_suc m w, power_suc b w))
number_part (suc m) [] h w (suc r) b e k =
    let p = simp (drop-nil {A = ℕ} r, take-nil {A = ℕ} b) at (number_part m [] h (w / 2) r b (simp (take-nil {A = ℕ} m) (omega (arith, power_suc m w))) (omega arith)) in
    simp (halves r w, take-nil {A = ℕ} b) p
number_part (suc m) (x ∷ s) h w zero (suc b) e k =
    let p = simp div-one at (number_part m s (λ at. h (suc at)) (w / 2) zero b (omega (arith, power_suc m w, first_bit x s h)) (omega arith)) in
    simp div-one (omega (arith, p, power_suc m w, power_suc b w, first_bit x s h))
number_part (suc m) (x ∷ s) h w (suc r) b e k =
    rw (halves r w) (number_part m s (λ at. h (suc at)) (w / 2) r b (omega (arith, power_suc m w, first_bit x s h)) (omega arith))

-- The n bits from the bit s of a window of m bits on, where w has the window in its m lowest bits.
pub window_part : (m : ℕ) (font : List ℕ) (i w s n : ℕ) → w % 2 ^ m ≡ window m font i → s + n ≤ m → w / 2 ^ s % 2 ^ n ≡ number (take n (drop (8 * i + s) (bits font)))
unfolding window
window_part m font i w s n e h =
    rw (← (drop-drop s (8 * i) (bits font)))
    (number_part m (drop (8 * i) (bits font)) (λ at b. rw (drop-drop at (8 * i) (bits font)) (number_small font (8 * i + at) b)) w s n e h)

pub window_small : (n : ℕ) (font : List ℕ) (i : ℕ) → window n font i < 2 ^ n
unfolding window
window_small n font i = number_small font (8 * i) n

-- ---- a window in terms of bytes

number_add : (n k : ℕ) (s : List ℕ) → number (take (n + k) s) ≡ number (take n s) + 2 ^ n * number (take k (drop n s))
unfolding number
number_add zero k s = let e : 0 + k ≡ k = omega arith in rw e (omega arith)
number_add (suc n) k [] = simp (take-nil {A = ℕ} (suc n + k), take-nil {A = ℕ} k, take-nil {A = ℕ} (suc n)) (omega arith)
number_add (suc n) k (x ∷ s) =
    let z : suc n + k ≡ suc (n + k) = omega arith in
    rw z (omega (arith, number_add n k s, double n (number (take k (drop n s)))))

-- Some bytes and the bits after them.
pub window_add : (n k : ℕ) (font : List ℕ) (i j : ℕ) → i + n ≡ j → window (8 * n + k) font i ≡ window (8 * n) font i + 2 ^ (8 * n) * window k font j
unfolding window
window_add n k font i j p =
    let e : 8 * i + 8 * n ≡ 8 * j = omega arith in
    rw (← e, ← (drop-drop (8 * n) (8 * i) (bits font))) (number_add (8 * n) k (drop (8 * i) (bits font)))

number_byte : (s : List ℕ) → get_or s 0 0 < 256 → number (take 8 (bits s)) ≡ get_or s 0 0
unfolding bits number
number_byte [] h = refl
number_byte (x ∷ s) h = let e = simp div-one at (number_low_bits 8 x (bits s) 0 8 (omega arith)) in omega (arith, e)

pub window_byte : (font : List ℕ) (i : ℕ) → get_or font i 0 < 256 → window 8 font i ≡ get_or font i 0
unfolding window
window_byte font i h =
    let a : get_or (drop i font) 0 0 ≡ get_or font i 0 = simp add-zero at (get_or-drop i font 0 0) in
    rw (drop_bytes i font) (number_byte (drop i font) (omega arith) ∙ a)

power : (k : ℕ) → 2 ^ (8 * k) ≡ 256 ^ k
power zero = refl
power (suc k) =
    let e : 8 * suc k ≡ 8 * k + 8 = omega arith in
    rw e (pow-add 2 (8 * k) 8 ∙ ap (λ (p : ℕ). p * 256) (power k) ∙ sym (pow-suc 256 k))

-- Whole bytes, each by what it is worth, as std reads a number of them.
pub window_bytes : (k : ℕ) (font : List ℕ) (i : ℕ) → ((j : ℕ) → Fits w8 (get_or font j 0))
    → window (8 * suc k) font i ≡ sum_through (λ j. byte_worth j (get_or font (i + j) 0)) k
window_bytes zero font i h = simp add-zero (window_byte font i (h i).fits)
window_bytes (suc k) font i h =
    let e : 8 * suc (suc k) ≡ 8 * suc k + 8 = omega arith in
    rw (
      e,
      window_add (suc k) 8 font i (i + suc k) refl,
      window_bytes k font i h,
      window_byte font (i + suc k) (h _).fits,
      power (suc k),
      mul_comm (256 ^ suc k) (get_or font (i + suc k) 0),
    )
    refl
