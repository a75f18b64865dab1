-- A pair that a window gives is the pair read, or the font ends. Assumes nothing.
use Rattle.integers.proofs.Prelude.{◌≡◌, sym, ap, ◌∙◌, List, ℕ, ◌+◌, ◌*◌, ◌/◌, ◌%◌, ◌^◌, ◌≤◌, ◌<◌, mod-lt, arith, dec_lt, length, take, drop, lt-ltb}
use Rattle.integers.proofs.Prelude.{le-ltb, eq-eqb, ne_eqb}
use lib.Pow.{pow_pos, pow_mono, shr-shr}
use Rattle.definitions.specs.Bits.{bits, number}
use Rattle.definitions.proofs.BitsLaws.{read_got, read_ends}
use Rattle.window.specs.Window.{window}
use Rattle.window.proofs.WindowLaws.{window_part}
use Rattle.runs.specs.declared.Runs.{Runs}
use Rattle.runs.specs.RunReads.{Pair, Ends, Short, pair_of, in_font, pair_at, next_pair}

pub within : (font : List ℕ) (r : Runs) → r.bit_pos < 8 * length font → in_font font r ≡ Pair r
within font r h = simp (lt-ltb r.bit_pos (8 * length font) h)

pub beyond : (font : List ℕ) (r : Runs) → 8 * length font ≤ r.bit_pos → in_font font r ≡ Ends
beyond font r h = simp (le-ltb r.bit_pos (8 * length font) h)

module _ (font : List ℕ) (m0 m1 : ℕ) where
  abbrev bits_at : ℕ → ℕ → ℕ
  bits_at at n = number (take n (drop at (bits font)))

  abbrev read : ℕ → Runs
  read at = record { zeros = bits_at at m0; ones = bits_at (at + m0) m1; bit_pos = at + m0 + m1 }

  pair_ends : (at : ℕ) → 8 * length font ≤ at + m0 + m1 → pair_at font m0 m1 at ≡ Ends
  unfolding pair_at
  pair_ends at h = split (dec_lt (at + m0) (8 * length font))
    where
      split : Dec (at + m0 < 8 * length font) → pair_at font m0 m1 at ≡ Ends
      split (yes p) = simp (read_got font at m0 p, read_ends font (at + m0) m1 h)
      split (no p) = let l : 8 * length font ≤ at + m0 = omega arith in simp (read_ends font at m0 l)

  -- One test at the end says the same as a test after each number.
  pair_read : (at : ℕ) → in_font font (read at) ≡ pair_at font m0 m1 at
  unfolding pair_at
  pair_read at = split (dec_lt (at + m0 + m1) (8 * length font))
    where
      split : Dec (at + m0 + m1 < 8 * length font) → in_font font (read at) ≡ pair_at font m0 m1 at
      split (yes p) =
          let l : at + m0 < 8 * length font = omega arith in
          within font (read at) p ∙ simp (read_got font at m0 l, read_got font (at + m0) m1 p)
      split (no p) = let l : 8 * length font ≤ at + m0 + m1 = omega arith in beyond font (read at) l ∙ sym (pair_ends at l)

  -- The numbers from the bit s of a window on.
  pub pair_is : (i w s at next : ℕ) → w % 16777216 ≡ window 24 font i → s + m0 + m1 ≤ 24 → 8 * i + s ≡ at → next ≡ at + m0 + m1
      → in_font font (pair_of (w / 2 ^ s) m0 m1 next) ≡ pair_at font m0 m1 at
  pair_is i w s at next e h place end =
      let z : w / 2 ^ s % 2 ^ m0 ≡ bits_at at m0 = window_part 24 font i w s m0 e (omega arith) ∙ ap (λ (p : ℕ). bits_at p m0) place in
      let q : 8 * i + (s + m0) ≡ at + m0 = omega arith in
      let o : w / 2 ^ s / 2 ^ m0 % 2 ^ m1 ≡ bits_at (at + m0) m1 =
      ap (λ (p : ℕ). p % 2 ^ m1) (shr-shr w s m0) ∙ window_part 24 font i w (s + m0) m1 e (omega arith) ∙ ap (λ (p : ℕ). bits_at p m1) q in
      let same : pair_of (w / 2 ^ s) m0 m1 next ≡ read at = rw (z, o, end) in
      ap (in_font font) same ∙ pair_read at

  module _ (r : Runs) (i w s : ℕ) (e : w % 16777216 ≡ window 24 font i) (h : s ≤ 7) (place : 8 * i + s ≡ r.bit_pos) where
    repeat : w / 2 ^ s % 2 ≡ bits_at r.bit_pos 1
    repeat = window_part 24 font i w s 1 e (omega arith) ∙ ap (λ (p : ℕ). bits_at p 1) place

    -- The repeat bit is 1.
    pub again_is : w / 2 ^ s % 2 ≡ 1 → in_font font (record { zeros = r.zeros; ones = r.ones; bit_pos = r.bit_pos + 1 }) ≡ next_pair font m0 m1 r
    unfolding next_pair
    again_is one = split (dec_lt (r.bit_pos + 1) (8 * length font))
      where
        split : Dec (r.bit_pos + 1 < 8 * length font) → in_font font (record { zeros = r.zeros; ones = r.ones; bit_pos = r.bit_pos + 1 }) ≡ next_pair font m0 m1 r
        split (yes p) =
            let t = eq-eqb (bits_at r.bit_pos 1) 1 (sym repeat ∙ one) in
            within font _ p ∙ simp (read_got font r.bit_pos 1 p, t)
        split (no p) =
            let l : 8 * length font ≤ r.bit_pos + 1 = omega arith in
            beyond font _ l ∙ simp (read_ends font r.bit_pos 1 l)

    -- It is 0.
    pub new_is : (next : ℕ) → (w / 2 ^ s % 2 ≡ 1 → ⊥) → m0 ≤ 8 → m1 ≤ 8 → next ≡ r.bit_pos + 1 + m0 + m1
        → in_font font (pair_of (w / 2 ^ (s + 1)) m0 m1 next) ≡ next_pair font m0 m1 r
    unfolding next_pair
    new_is next zero x y end =
        pair_is i w (s + 1) (r.bit_pos + 1) next e (omega arith) (omega arith) end
        ∙ split (dec_lt (r.bit_pos + 1) (8 * length font))
      where
        split : Dec (r.bit_pos + 1 < 8 * length font) → pair_at font m0 m1 (r.bit_pos + 1) ≡ next_pair font m0 m1 r
        split (yes p) =
            let t = ne_eqb (bits_at r.bit_pos 1) 1 (λ one. zero (repeat ∙ one)) in
            simp (read_got font r.bit_pos 1 p, t)
        split (no p) =
            let l : 8 * length font ≤ r.bit_pos + 1 = omega arith in
            pair_ends (r.bit_pos + 1) (omega arith) ∙ simp (read_ends font r.bit_pos 1 l)

byte : (n m : ℕ) → m ≤ 8 → n % 2 ^ m ≤ 255
byte n m h = omega (arith, mod-lt n (pow_pos m), pow_mono h)

pub pair_short : (b m0 m1 next : ℕ) → m0 ≤ 8 → m1 ≤ 8 → Short (pair_of b m0 m1 next)
pair_short b m0 m1 next h k = record { zeros = byte b m0 h; ones = byte (b / 2 ^ m0) m1 k }
