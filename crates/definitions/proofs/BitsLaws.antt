-- Bits of a font: how many there are, what the number read from them is in terms of bytes, and how reads of one font, of a
-- longer one and in a row agree. Assumes nothing.
use Rattle.integers.proofs.Prelude.{◌≡◌, refl, sym, ap, ◌∙◌, Bool, true, false, List, [], ◌∷◌, ◌++◌, map, append_assoc, ℕ, zero, suc, ◌+◌, ◌-◌}
use Rattle.integers.proofs.Prelude.{◌*◌, ◌/◌, ◌%◌, ◌^◌, ◌≤◌, ◌<◌, mul_assoc, div-one, add-one, one-add, arith, ltb, ℤ, pos, negsuc, ◌≤ℤ◌}
use Rattle.integers.proofs.Prelude.{length, take, drop, length-append, length-drop, take-append-le, drop-append-le, drop-append-add, take-nil}
use Rattle.integers.proofs.Prelude.{drop-nil, drop-drop, take-add, length-take-le, ltb-true, lt-ltb, le-ltb}
use lib.Pow.{pow_pos, pow_mono, shr-shr, mod-pow-add}
use Rattle.integers.specs.Integers.{pick}
use Rattle.integers.proofs.Laws.{zarith, minus}
use Rattle.integers.proofs.Choices.{impossible}
use Rattle.definitions.specs.Bits.{low_bits, bits, number, got, ends, read_at, biased}

-- ---- how many

pub length_low_bits : (n x : ℕ) → length (low_bits n x) ≡ n
unfolding low_bits
length_low_bits zero x = refl
length_low_bits (suc n) x = ap suc (length_low_bits n (x / 2))

pub length_bits : (font : List ℕ) → length (bits font) ≡ 8 * length font
unfolding bits
length_bits [] = refl
length_bits (b ∷ bs) = omega (arith, length-append (low_bits 8 b) (bits bs), length_low_bits 8 b, length_bits bs)

-- ---- of one font and of a longer one

pub bits_append : (a b : List ℕ) → bits (a ++ b) ≡ bits a ++ bits b
unfolding bits
bits_append [] b = refl
bits_append (x ∷ a) b = rw (bits_append a b) (sym (append_assoc (low_bits 8 x) (bits a) (bits b)))

-- whole bytes are passed as bytes
pub drop_bytes : (i : ℕ) (font : List ℕ) → drop (8 * i) (bits font) ≡ bits (drop i font)
unfolding bits
drop_bytes zero font = refl
drop_bytes (suc i) [] = drop-nil (8 * suc i)
drop_bytes (suc i) (x ∷ font) =
    let e : 8 * suc i ≡ length (low_bits 8 x) + 8 * i = omega (arith, length_low_bits 8 x) in
    rw (e, drop-append-add (low_bits 8 x) (bits font) (8 * i)) (drop_bytes i font)

-- ---- the number of some bits in a row

pub double : (k y : ℕ) → 2 ^ suc k * y ≡ 2 * (2 ^ k * y)
double k y = let e : 2 ^ suc k ≡ 2 * 2 ^ k = omega arith in rw e (mul_assoc 2 (2 ^ k) y)

pub power_suc : (b x : ℕ) → x % 2 ^ suc b ≡ x % 2 + 2 * (x / 2 % 2 ^ b)
power_suc b x = let e = rw add-one at (mod-pow-add x b 1) in omega (arith, e)

pub number_low_bits : (n x : ℕ) (more : List ℕ) (r b : ℕ) → r + b ≤ n → number (take b (drop r (low_bits n x ++ more))) ≡ x / 2 ^ r % 2 ^ b
unfolding low_bits number
number_low_bits n x more zero zero h = omega arith
number_low_bits zero x more zero (suc b) h = absurd (omega arith)
number_low_bits zero x more (suc r) b h = absurd (omega arith)
number_low_bits (suc n) x more zero (suc b) h =
    let e = simp div-one at (number_low_bits n (x / 2) more zero b (omega arith)) in
    simp div-one (omega (arith, e, power_suc b x))
number_low_bits (suc n) x more (suc r) b h =
    let e = rw one-add at (shr-shr x 1 r) in
    number_low_bits n (x / 2) more r b (omega arith) ∙ ap (λ (q : ℕ). q % 2 ^ b) e

-- ---- a read

-- bits are left from `at` on
left : (font : List ℕ) (at : ℕ) → length (drop at (bits font)) ≡ 8 * length font - at
left font at = omega (arith, length-drop at (bits font), length_bits font)

pub read_got : (font : List ℕ) (at b : ℕ) → at + b < 8 * length font → read_at font at b ≡ got (number (take b (drop at (bits font))))
unfolding read_at
read_got font at b h = let l : b < length (drop at (bits font)) = omega (arith, left font at) in simp (lt-ltb b (length (drop at (bits font))) l)

pub read_ends : (font : List ℕ) (at b : ℕ) → 8 * length font ≤ at + b → read_at font at b ≡ ends
unfolding read_at
read_ends font at b h = let l : length (drop at (bits font)) ≤ b = omega (arith, left font at) in simp (le-ltb b (length (drop at (bits font))) l)

picked : (t : Bool) (m n : ℕ) → pick t (got m) ends ≡ got n → (t ≡ true) × (n ≡ m)
picked true m n e = (refl, cc)
picked false m n e = impossible cc

-- What a read that gives a number says: at least one bit is left after it, and which number it is.
pub read_inside : (font : List ℕ) (at b n : ℕ) → read_at font at b ≡ got n → (at + b < 8 * length font) × (n ≡ number (take b (drop at (bits font))))
unfolding read_at
read_inside font at b n e =
    let p = picked (ltb b (length (drop at (bits font)))) (number (take b (drop at (bits font)))) n e in
    (omega (arith, ltb-true b (length (drop at (bits font))) p.0, left font at), p.1)

-- A longer font reads the same.
pub read_longer : (font more : List ℕ) (at b n : ℕ) → read_at font at b ≡ got n → read_at (font ++ more) at b ≡ got n
read_longer font more at b n e =
    let r = read_inside font at b n e in
    let k : at ≤ length (bits font) = omega (arith, r.0, length_bits font) in
    let l : b ≤ length (drop at (bits font)) = omega (arith, r.0, left font at) in
    read_got (font ++ more) at b (omega (arith, r.0, length-append font more))
    ∙ rw (r.1, bits_append font more, drop-append-le at (bits font) (bits more) k, take-append-le b (drop at (bits font)) (bits more) l)

-- ---- the range of a number read

-- a number of b bits is below 2 to the power b, wherever they stand
abbrev pub Small : List ℕ → Type 0
Small s = (at b : ℕ) → number (take b (drop at s)) < 2 ^ b

small_nil : Small []
unfolding number
small_nil at b = simp (drop-nil {A = ℕ} at, take-nil {A = ℕ} b) (pow_pos b)

small_cons : (x : ℕ) (s : List ℕ) → x < 2 → Small s → Small (x ∷ s)
unfolding number
small_cons x s h k zero zero = omega arith
small_cons x s h k zero (suc b) = omega (arith, k zero b)
small_cons x s h k (suc at) b = k at b

small_low_bits : (n x : ℕ) (s : List ℕ) → Small s → Small (low_bits n x ++ s)
unfolding low_bits
small_low_bits zero x s k = k
small_low_bits (suc n) x s k = small_cons (x % 2) (low_bits n (x / 2) ++ s) (omega arith) (small_low_bits n (x / 2) s k)

pub number_small : (font : List ℕ) → Small (bits font)
unfolding bits
number_small [] = small_nil
number_small (x ∷ font) = small_low_bits 8 x (bits font) (number_small font)

pub read_small : (font : List ℕ) (at b n : ℕ) → read_at font at b ≡ got n → n < 2 ^ b
read_small font at b n e = rw (read_inside font at b n e).1 (number_small font at b)

-- An unsigned field of up to 8 bits.
pub unsigned_range : (font : List ℕ) (at b n : ℕ) → b ≤ 8 → read_at font at b ≡ got n → n ≤ 255
unsigned_range font at b n h e = omega (arith, read_small font at b n e, pow_mono h)

-- Signed fields of 3 and of 8 bits reach from −4 to 3 and from −128 to 127.
pub biased_ends : map (biased 3) (0 ∷ 7 ∷ []) ++ map (biased 8) (0 ∷ 255 ∷ []) ≡ negsuc 3 ∷ pos 3 ∷ negsuc 127 ∷ pos 127 ∷ []
biased_ends = refl

pub power_pred : (b : ℕ) → 1 ≤ b → 2 ^ b ≡ 2 * 2 ^ (b - 1)
power_pred zero h = absurd (omega arith)
power_pred (suc b) h = let e : suc b - 1 ≡ b = omega arith in rw e (omega arith)

pub record SignedByte (z : ℤ) : Type 0 where
  pub low : negsuc 127 ≤ℤ z
  pub high : z ≤ℤ pos 127

pub biased_range : (b n : ℕ) → (1 ≤ b) × (b ≤ 8) → n < 2 ^ b → SignedByte (biased b n)
biased_range b n h k =
    let p = power_pred b h.0 in
    let q : 2 ^ (b - 1) ≤ 128 = pow_mono {j = 7} (omega arith) in
    record {
      low = omega (zarith, minus (pos n) (pos (2 ^ (b - 1))));
      high = omega (zarith, minus (pos n) (pos (2 ^ (b - 1))));
    }

-- A signed field of 1 to 8 bits.
pub signed_range : (font : List ℕ) (at b n : ℕ) → (1 ≤ b) × (b ≤ 8) → read_at font at b ≡ got n → SignedByte (biased b n)
signed_range font at b n h e = biased_range b n h (read_small font at b n e)

-- ---- reads in a row

number_append : (xs ys : List ℕ) → number (xs ++ ys) ≡ number xs + 2 ^ length xs * number ys
unfolding number
number_append [] ys = omega arith
number_append (x ∷ xs) ys = omega (arith, double (length xs) (number ys), number_append xs ys)

-- A read of a bits and then of b more is one read of a + b bits.
pub read_row : (font : List ℕ) (at a b n m : ℕ) → read_at font at a ≡ got n → read_at font (at + a) b ≡ got m → read_at font at (a + b) ≡ got (n + 2 ^ a * m)
read_row font at a b n m e f =
    let r = read_inside font at a n e in
    let q = read_inside font (at + a) b m f in
    let l : length (take a (drop at (bits font))) ≡ a = length-take-le a (drop at (bits font)) (omega (arith, r.0, left font at)) in
    read_got font at (a + b) (omega (arith, q.0))
    ∙ rw (take-add a b (drop at (bits font)), number_append (take a (drop at (bits font))) (take b (drop a (drop at (bits font)))), l, drop-drop a at (bits font), r.1, q.1)
