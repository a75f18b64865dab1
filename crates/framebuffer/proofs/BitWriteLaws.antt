-- A byte of eight pixels with one of them written: the bit of that number set or cleared, the others as before. Assumes nothing.
use Rattle.std.specs.Prelude.{bit_and, bit_or}
use Rattle.std.specs.Int.{bit_at, bit_not}
use Rattle.std.proofs.lemmas.Nat.{and_le_l, or_lt}
use Rattle.std.proofs.lemmas.Nat.Bits.{bit_at-suc, bit_at_set_same, bit_at_set_other, bit_at_clear_same, bit_at_clear_other}
use Rattle.integers.proofs.Prelude.{◌≡◌, refl, sym, ap, ◌∙◌, Bool, true, false, List, ℕ, zero, suc, ◌+◌, ◌*◌, ◌/◌, ◌%◌, ◌^◌, ◌<◌}
use Rattle.integers.proofs.Prelude.{zero-add, div-one, arith}
use Rattle.integers.proofs.Prelude.{eqb, eqb-true, eqb-false, eq-eqb, ne_eqb, get_or, ext_get_or, w8}
use Rattle.integers.specs.Integers.{pick}
use Rattle.definitions.specs.Vocabulary.{Packed}
use Rattle.definitions.specs.Bits.{low_bits, number}
use Rattle.definitions.specs.Picture.{Paint, keep, put}
use Rattle.definitions.specs.Framebuffer.{over, map_at, stored, paint_byte}
use Rattle.definitions.proofs.BitsLaws.{length_low_bits}
use Rattle.definitions.proofs.ByteLaws.{length_map_at, getd_map_at, number_low}
use Rattle.framebuffer.specs.Columns.{only}

-- a bit by its number
bit_of : (n x i : ℕ) → i < n → get_or (low_bits n x) i 0 ≡ bit_at x i
unfolding low_bits
bit_of zero x i h = absurd (omega arith)
bit_of (suc n) x zero h = simp div-one
bit_of (suc n) x (suc i) h = bit_of n (x / 2) i (omega arith) ∙ sym (bit_at-suc x i)

-- A byte is what a paint makes of another if each of its bits is.
module _ (paint : ℕ → Paint) (x y : ℕ) (small : x < 256) (byte : y < 256)
    (each : (i : ℕ) → i < 8 → bit_at y i ≡ over (stored Packed (paint i)) (bit_at x i)) where
  abbrev painted : ℕ → ℕ → ℕ
  painted i bit = over (stored Packed (paint i)) bit

  at : (i : ℕ) → i < 8 → get_or (low_bits 8 y) i 0 ≡ get_or (map_at painted 0 (low_bits 8 x)) i 0
  at i h =
      bit_of 8 y i h
      ∙ each i h
      ∙ sym (getd_map_at painted 0 (low_bits 8 x) i (omega (arith, length_low_bits 8 x)) ∙ simp zero-add (ap (painted i) (bit_of 8 x i h)))

  same : low_bits 8 y ≡ map_at painted 0 (low_bits 8 x)
  same =
      ext_get_or 0 (low_bits 8 y) (map_at painted 0 (low_bits 8 x))
      (length_low_bits 8 y ∙ sym (length_map_at painted 0 (low_bits 8 x) ∙ length_low_bits 8 x))
      (λ i h. at i (omega (arith, h, length_low_bits 8 y)))

  painted_by_bits : y ≡ paint_byte Packed paint x
  painted_by_bits = let none : x / 256 ≡ y / 256 = omega arith in sym (number_low 8 y) ∙ ap (λ (bs : List ℕ). number bs + y / 256 * 256) same ∙ rw none refl

-- One bit is written, the others stay.
module _ (x k value y new : ℕ) (small : x < 256) (byte : y < 256) (is : over (stored Packed (put value)) (bit_at x k) ≡ new) (here : bit_at y k ≡ new)
    (there : (i : ℕ) → i < 8 → (i ≡ k → ⊥) → bit_at y i ≡ bit_at x i) where
  each_bit : (i : ℕ) → i < 8 → bit_at y i ≡ over (stored Packed (only k (put value) i)) (bit_at x i)
  each_bit i h = by (eqb i k) refl
    where
      by : (t : Bool) → eqb i k ≡ t → bit_at y i ≡ over (stored Packed (pick t (put value) keep)) (bit_at x i)
      by true e = let s : i ≡ k = eqb-true i k e in rw s (here ∙ sym is)
      by false e = there i h (eqb-false i k e)

  written : y ≡ paint_byte Packed (only k (put value)) x
  written = painted_by_bits (only k (put value)) x y small byte each_bit

-- `byte & !(1 << k)` and `byte | 1 << k`
module _ (x k value : ℕ) (small : x < 256) (h : k < 8) where
  abbrev bit : ℕ
  bit = 1 * 2 ^ k % 2 ^ 8

  pub bit_cleared : value ≡ 0 → bit_and x (bit_not w8 bit) ≡ paint_byte Packed (only k (put value)) x
  bit_cleared e =
      written x k value (bit_and x (bit_not w8 bit)) 0 small (omega (arith, and_le_l x (bit_not w8 bit)))
      (simp (eq-eqb value 0 e)) (bit_at_clear_same w8 x k h) (bit_at_clear_other w8 x k h)

  pub bit_set : (value ≡ 0 → ⊥) → bit_or x bit ≡ paint_byte Packed (only k (put value)) x
  bit_set n =
      written x k value (bit_or x bit) 1 small (or_lt 8 x bit small (omega arith))
      (simp (ne_eqb value 0 n)) (bit_at_set_same w8 x k h) (λ i l. bit_at_set_other w8 x k h i)
