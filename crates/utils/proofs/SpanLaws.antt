-- Every sum of `span_length` fits an i32 where the spans are in reach. Assumes nothing.
use Rattle.integers.proofs.Prelude.{◌≡◌, ℕ, ◌<◌, ◌^◌, T, ℤ, pos, ◌+ℤ◌, ◌-ℤ◌, non_neg, w32, Fits, SFits, to_z, of_z, to_z-of_z, to_z_pos}
use Rattle.integers.specs.Integers.{min_z, max_z}
use Rattle.integers.proofs.Laws.{zarith, plus, minus, min_is, max_is, castable}
use Rattle.definitions.specs.Geometry.{span_length, SpanInReach}
use Rattle.definitions.proofs.JoinLaws.{end, length_nonneg}
use Rattle.utils.specs.Spans.{SpansInReach}

module _ {a : ℤ} {m : ℕ} (h : SpanInReach a m) where
  pub length_below : m < 2 ^ 31
  length_below = omega (zarith, plus a (pos m))

  pub end_fits : SFits w32 (end a m)
  end_fits = omega (zarith, plus a (pos m))

  -- the end as the code adds it, from a start and a length that were stored
  pub end_stored : SFits w32 a → (to_z w32 (of_z w32 a) +ℤ to_z w32 m) ≡ end a m
  end_stored f = let l = length_below in simp (to_z-of_z, f, to_z_pos w32)

module _ {a b : ℤ} {m n : ℕ} (h : SpansInReach a b m n) where
  pub length_fits : SFits w32 (max_z (end a m) (end b n) -ℤ min_z a b)
  length_fits =
      omega (zarith, minus (max_z (end a m) (end b n)) (min_z a b), max_is (end a m) (end b n), min_is a b, plus a (pos m), plus b (pos n))

  pub length_casts : T (non_neg (max_z (end a m) (end b n) -ℤ min_z a b)) × Fits w32 (span_length a b m n)
  length_casts = castable tt length_fits (length_nonneg a b m n)
