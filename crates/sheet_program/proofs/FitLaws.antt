-- A framebuffer of the place's size, at the front of the largest. Assumes nothing.
use Rattle.integers.proofs.Prelude.{◌≡◌, sym, subst, ◌∙◌, List, ℕ, arith, length, take, length-take-le}
use Rattle.definitions.specs.Vocabulary.{Place}
use Rattle.pixels.proofs.RoomLaws.{bytes_most}
use Rattle.sheet_ground.specs.Readings.{PlaceFits}
use Rattle.sheet_program.specs.Sheets.{Buffers, LargeBuffers}

module _ {place : Place} {n : ℕ} (f : PlaceFits n place) where
  front_length : (l : List ℕ) → length l ≡ 65536 → length (take n l) ≡ n
  front_length l e = length-take-le n l (omega (arith, bytes_most f.fits))

  pub buffers_fit : (ground screen alone : List ℕ) → LargeBuffers (length ground) (length screen) (length alone)
      → Buffers place (length (take n ground)) (length (take n screen)) (length (take n alone))
  buffers_fit ground screen alone large = record {
    fits = subst (λ (m : ℕ). PlaceFits m place) (sym (front_length ground large.ground)) f;
    as_screen = front_length ground large.ground ∙ sym (front_length screen large.screen);
    as_alone = front_length ground large.ground ∙ sym (front_length alone large.alone);
  }
