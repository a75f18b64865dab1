-- A byte of the framebuffer, whatever its format: what a paint makes of each of its pixels, and of two in a row. Assumes nothing.
use Rattle.integers.proofs.Prelude.{◌≡◌, refl, sym, ap, ◌∙◌, Bool, true, false, List, [], ◌∷◌, ℕ, zero, suc, ◌+◌, ◌*◌, ◌/◌, ◌%◌, ◌^◌, ◌<◌}
use Rattle.integers.proofs.Prelude.{mul_comm, zero-add, add-zero, add-suc, suc-add, one-add, arith, eqb, length, get_or}
use lib.Pow.{shr-shr}
use Rattle.integers.specs.Integers.{pick}
use Rattle.definitions.specs.Vocabulary.{PixelFormat, Bytes, Packed}
use Rattle.definitions.specs.Bits.{low_bits, number}
use Rattle.definitions.specs.Picture.{Paint, keep, put, above}
use Rattle.definitions.specs.Framebuffer.{over, map_at, per_byte, stored, in_byte, paint_byte}
use Rattle.definitions.proofs.BitsLaws.{length_low_bits, double}

-- ---- a list changed element by element

pub length_map_at : (f : ℕ → ℕ → ℕ) (i : ℕ) (l : List ℕ) → length (map_at f i l) ≡ length l
unfolding map_at
length_map_at f i [] = refl
length_map_at f i (x ∷ xs) = ap suc (length_map_at f (suc i) xs)

pub getd_map_at : (f : ℕ → ℕ → ℕ) (i : ℕ) (l : List ℕ) (k : ℕ) → k < length l → get_or (map_at f i l) k 0 ≡ f (i + k) (get_or l k 0)
unfolding map_at
getd_map_at f i [] k h = absurd (omega arith)
getd_map_at f i (x ∷ xs) zero h = simp add-zero
getd_map_at f i (x ∷ xs) (suc k) h = getd_map_at f (suc i) xs k (omega arith) ∙ simp (suc-add, add-suc)

pub map_map : (f g h : ℕ → ℕ → ℕ) → ((i x : ℕ) → f i (g i x) ≡ h i x) → (i : ℕ) (l : List ℕ) → map_at f i (map_at g i l) ≡ map_at h i l
unfolding map_at
map_map f g h e i [] = refl
map_map f g h e i (x ∷ xs) = cc (e i x, map_map f g h e (suc i) xs)

-- Two functions that agree at each element of the list change it alike.
pub map_alike : (f g : ℕ → ℕ → ℕ) (i : ℕ) (l : List ℕ) → ((k : ℕ) → k < length l → f (i + k) (get_or l k 0) ≡ g (i + k) (get_or l k 0))
    → map_at f i l ≡ map_at g i l
unfolding map_at
map_alike f g i [] e = refl
map_alike f g i (x ∷ xs) e =
    let first : f i x ≡ g i x = simp add-zero at (e 0 (omega arith)) in
    cc (first, map_alike f g (suc i) xs (λ k h. simp suc-add (simp add-suc at (e (suc k) (omega arith)))))

-- .. and one that changes none leaves it.
pub map_same : (f : ℕ → ℕ → ℕ) (i : ℕ) (l : List ℕ) → ((k : ℕ) → k < length l → f (i + k) (get_or l k 0) ≡ get_or l k 0) → map_at f i l ≡ l
unfolding map_at
map_same f i [] e = refl
map_same f i (x ∷ xs) e =
    let first : f i x ≡ x = simp add-zero at (e 0 (omega arith)) in
    cc (first, map_same f (suc i) xs (λ k h. simp suc-add (simp add-suc at (e (suc k) (omega arith)))))

-- ---- numbers of so many bits

pub number_low : (n x : ℕ) → number (low_bits n x) + x / 2 ^ n * 2 ^ n ≡ x
unfolding number low_bits
number_low zero x = omega arith
number_low (suc n) x =
    let d : x / 2 ^ suc n ≡ x / 2 / 2 ^ n = sym (shr-shr x 1 n ∙ ap (λ (k : ℕ). x / 2 ^ k) (one-add n)) in
    let m : x / 2 / 2 ^ n * 2 ^ suc n ≡ 2 * (x / 2 / 2 ^ n * 2 ^ n) =
    mul_comm (x / 2 / 2 ^ n) (2 ^ suc n) ∙ double n (x / 2 / 2 ^ n) ∙ ap (λ (k : ℕ). 2 * k) (mul_comm (2 ^ n) (x / 2 / 2 ^ n)) in
    rw (d, m) (omega (arith, number_low n (x / 2)))

-- a list of bits
pub data Bits : List ℕ → Type 0 where
  none : Bits []
  bit : {x : ℕ} {xs : List ℕ} → x < 2 → Bits xs → Bits (x ∷ xs)

pub low_are_bits : (n x : ℕ) → Bits (low_bits n x)
unfolding low_bits
low_are_bits zero x = none
low_are_bits (suc n) x = bit {x = x % 2} (omega arith) (low_are_bits n (x / 2))

low_number : {bs : List ℕ} → Bits bs → (y : ℕ) → low_bits (length bs) (number bs + y * 2 ^ length bs) ≡ bs
unfolding number low_bits
low_number none y = refl
low_number (bit {x} {xs} h b) y =
    let m : y * 2 ^ suc (length xs) ≡ 2 * (y * 2 ^ length xs) =
    mul_comm y (2 ^ suc (length xs)) ∙ double (length xs) y ∙ ap (λ (k : ℕ). 2 * k) (mul_comm (2 ^ length xs) y) in
    let first : (x + 2 * number xs + 2 * (y * 2 ^ length xs)) % 2 ≡ x = omega arith in
    let rest : (x + 2 * number xs + 2 * (y * 2 ^ length xs)) / 2 ≡ number xs + y * 2 ^ length xs = omega arith in
    rw (m, first, rest, low_number b y)

number_small : {bs : List ℕ} → Bits bs → number bs < 2 ^ length bs
unfolding number
number_small none = omega arith
number_small (bit {x} {xs} h b) = let p : 2 ^ suc (length xs) ≡ 2 * 2 ^ length xs = omega arith in omega (arith, p, number_small b)

-- ---- one pixel

over_over : (p q : Paint) (old : ℕ) → over p (over q old) ≡ over (above p q) old
over_over keep q old = refl
over_over (put c) q old = refl

pub keep_stored : (f : PixelFormat) → stored f keep ≡ keep
keep_stored Bytes = refl
keep_stored Packed = refl

pub over_keep : (f : PixelFormat) (x : ℕ) → over (stored f keep) x ≡ x
over_keep f x = ap (λ (p : Paint). over p x) (keep_stored f)

pub stored_above : (f : PixelFormat) (p q : Paint) → stored f (above p q) ≡ above (stored f p) (stored f q)
stored_above Bytes p q = refl
stored_above Packed keep q = refl
stored_above Packed (put c) q = refl

over_bit : (p : Paint) (x : ℕ) → x < 2 → over (stored Packed p) x < 2
over_bit keep x h = h
over_bit (put c) x h = by (eqb c 0)
  where
    by : (t : Bool) → pick t 0 1 < 2
    by true = omega arith
    by false = omega arith

-- ---- the bits of a byte that is painted

module _ (paint : ℕ → Paint) where
  abbrev painted : ℕ → ℕ → ℕ
  painted k old = over (stored Packed (paint k)) old

  painted_bits : (i : ℕ) {bs : List ℕ} → Bits bs → Bits (map_at painted i bs)
  unfolding map_at
  painted_bits i none = none
  painted_bits i (bit {x} h b) = bit (over_bit (paint i) x h) (painted_bits (suc i) b)

  module _ (x : ℕ) where
    abbrev drawn : List ℕ
    drawn = map_at painted 0 (low_bits 8 x)

    eight : length drawn ≡ 8
    eight = length_map_at painted 0 (low_bits 8 x) ∙ length_low_bits 8 x

    bits_after : low_bits 8 (paint_byte Packed paint x) ≡ drawn
    bits_after = rw eight at (low_number (painted_bits 0 (low_are_bits 8 x)) (x / 256))

    rest_after : paint_byte Packed paint x / 256 ≡ x / 256
    rest_after = let s : number drawn < 256 = rw eight at (number_small (painted_bits 0 (low_are_bits 8 x))) in omega (arith, s)

-- ---- the laws of a byte

-- A pixel of a painted byte is its paint over what it was.
pub byte_painted : (f : PixelFormat) (paint : ℕ → Paint) (x k : ℕ) → k < per_byte f
    → in_byte f k (paint_byte f paint x) ≡ over (stored f (paint k)) (in_byte f k x)
byte_painted Bytes paint x k h = let z : k ≡ 0 = omega arith in rw z
byte_painted Packed paint x k h =
    rw (bits_after paint x) (getd_map_at (painted paint) 0 (low_bits 8 x) k (omega (arith, length_low_bits 8 x)) ∙ simp zero-add)

-- Two paints on a byte in a row are one, the later above the earlier.
pub byte_twice : (f : PixelFormat) (p q : ℕ → Paint) (x : ℕ) → paint_byte f p (paint_byte f q x) ≡ paint_byte f (λ k. above (p k) (q k)) x
byte_twice Bytes p q x = over_over (p 0) (q 0) x
byte_twice Packed p q x =
    rw (
      bits_after q x,
      rest_after q x,
      map_map (painted p) (painted q) (painted (λ k. above (p k) (q k)))
          (λ i y.
          over_over (stored Packed (p i)) (stored Packed (q i)) y ∙ ap (λ (r : Paint). over r y) (sym (stored_above Packed (p i) (q i)))) 0 (low_bits 8 x),
    )

-- Paints that make the same of each pixel make the same of the byte.
pub byte_alike : (f : PixelFormat) (p q : ℕ → Paint) (x : ℕ)
    → ((k : ℕ) → k < per_byte f → over (stored f (p k)) (in_byte f k x) ≡ over (stored f (q k)) (in_byte f k x)) → paint_byte f p x ≡ paint_byte f q x
byte_alike Bytes p q x e = e 0 (omega arith)
byte_alike Packed p q x e =
    ap (λ (bs : List ℕ). number bs + x / 256 * 256)
    (map_alike (painted p) (painted q) 0 (low_bits 8 x) (λ k h. simp zero-add (e k (omega (arith, h, length_low_bits 8 x)))))

-- Nothing is drawn.
pub byte_blank : (f : PixelFormat) (x : ℕ) → paint_byte f (λ k. keep) x ≡ x
byte_blank Bytes x = refl
byte_blank Packed x = rw (map_same (λ k old. old) 0 (low_bits 8 x) (λ k h. refl)) (number_low 8 x)

pub some_per_byte : (f : PixelFormat) → 0 < per_byte f
some_per_byte Bytes = omega arith
some_per_byte Packed = omega arith
