-- The pixels of a framebuffer, each in a byte of its own. Assumes nothing.
use Rattle.integers.proofs.Prelude.{◌≡◌, sym, ap, ◌∙◌, List, ℕ, zero, suc, ◌+◌, ◌*◌, ◌/◌, ◌%◌, ◌^◌, ◌≤◌, ◌<◌, div-one, div-add-mod', mod-lt}
use Rattle.integers.proofs.Prelude.{zero-add, one-add}
use Rattle.integers.proofs.Prelude.{mul-le-mul_right, dec_lt, arith, length, get_or, replicate, length-replicate, ext_get_or}
use lib.Pow.{shr-shr}
use Rattle.definitions.specs.Vocabulary.{Framebuffer, Bytes}
use Rattle.definitions.specs.Bits.{low_bits}
use Rattle.definitions.specs.Framebuffer.{byte_at, pixel_at, unpacked, BufferFits}
use Rattle.definitions.proofs.ByteLaws.{length_map_at, getd_map_at}
use Rattle.definitions.proofs.FramebufferLaws.{on_buffer}

-- a bit of a number
pub low_bit : (n x k : ℕ) → k < n → get_or (low_bits n x) k 0 ≡ x / 2 ^ k % 2
unfolding low_bits
low_bit zero x k h = absurd (omega arith)
low_bit (suc n) x zero h = simp div-one
low_bit (suc n) x (suc k) h = low_bit n (x / 2) k (omega arith) ∙ ap (λ (q : ℕ). q % 2) (rw one-add at (shr-shr x 1 k))

module _ {bytes : ℕ} {p : Framebuffer} (f : BufferFits bytes p) where
  -- a pixel's byte
  pub in_buffer : (i : ℕ) → i < p.height * p.width → byte_at p (i % p.width) (i / p.width) < bytes
  in_buffer i h = on_buffer f (i % p.width) (i / p.width) (mod-lt i f.some) (by (dec_lt (i / p.width) p.height))
    where
      by : Dec (i / p.width < p.height) → i / p.width < p.height
      by (yes k) = k
      by (no k) =
          let k : p.height ≤ i / p.width = omega arith in
          absurd (omega (arith, mul-le-mul_right p.width k, div-add-mod' i p.width))

module _ (p : Framebuffer) (buffer : List ℕ) where
  pub length_unpacked : length (unpacked p buffer) ≡ p.height * p.width
  length_unpacked = length_map_at _ 0 (replicate (p.height * p.width) 0) ∙ length-replicate (p.height * p.width) 0

  pub unpacked_at : (i : ℕ) → i < p.height * p.width → get_or (unpacked p buffer) i 0 ≡ pixel_at p buffer (i % p.width) (i / p.width)
  unpacked_at i h =
      getd_map_at _ 0 (replicate (p.height * p.width) 0) i (omega (arith, length-replicate {A = ℕ} (p.height * p.width) 0)) ∙ simp zero-add

  pub all_unpacked : (pixels : List ℕ) → length pixels ≡ p.height * p.width
      → ((i : ℕ) → i < length pixels → get_or pixels i 0 ≡ pixel_at p buffer (i % p.width) (i / p.width)) → pixels ≡ unpacked p buffer
  all_unpacked pixels long each = ext_get_or 0 pixels (unpacked p buffer) (long ∙ sym length_unpacked) (λ i h. each i h ∙ sym (unpacked_at i (omega (arith, long))))

-- In bytes they are the buffer.
module _ (p : Framebuffer) (buffer : List ℕ) (bytes : p.format ≡ Bytes) (f : BufferFits (length buffer) p) where
  pub bytes_long : length buffer ≡ p.height * p.width
  bytes_long = rw bytes at f.area ∙ ap (λ (n : ℕ). n * p.width) (div-one p.height)

  pub bytes_unpacked : buffer ≡ unpacked p buffer
  bytes_unpacked = all_unpacked p buffer buffer bytes_long each
    where
      each : (i : ℕ) → i < length buffer → get_or buffer i 0 ≡ pixel_at p buffer (i % p.width) (i / p.width)
      each i h =
          let e : i / p.width / 1 * p.width + i % p.width ≡ i =
          ap (λ (n : ℕ). n * p.width + i % p.width) (div-one (i / p.width)) ∙ div-add-mod' i p.width
          in
          rw (bytes, e)
