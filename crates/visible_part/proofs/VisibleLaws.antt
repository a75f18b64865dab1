-- The visible columns or rows of a glyph: no other lies on the framebuffer. Assumes nothing.
use Rattle.integers.proofs.Prelude.{◌≡◌, ℕ, ◌+◌, ◌-◌, ◌≤◌, ◌<◌, arith, ℤ, pos, nat_abs, ◌+ℤ◌, ◌-ℤ◌, ◌≤ℤ◌, ◌<ℤ◌, w32, w64, SFits}
use Rattle.integers.proofs.Laws.{zarith, up, down, plus, minus, size}
use Rattle.framebuffer.specs.Areas.{clamped}
use Rattle.framebuffer.proofs.ClampLaws.{clamped_is}
use Rattle.visible_part.specs.Visible.{EndFits}

pub near_fits : {z : ℤ} → EndFits z → SFits w32 z
near_fits near = omega (zarith, near.low, near.high)

-- the difference that is taken
pub difference_fits : (n : ℕ) (z : ℤ) → n ≤ 256 → EndFits z → SFits w64 (pos n -ℤ z)
difference_fits n z h near = omega (zarith, minus (pos n) z, near.low, near.high)

-- Of `long` columns or rows from z on, those from `first` to before `past` are seen, from the framebuffer's `at` on.
pub record Seen (z : ℤ) (long limit first past at : ℕ) : Type 0 where
  pub some : first < past
  pub within : past ≤ long
  pub begins : z +ℤ pos first ≡ pos at
  pub ends : at + (past - first) ≤ limit
  pub from : (k : ℕ) → z ≤ℤ pos k → at ≤ k
  pub to : (k : ℕ) → k < limit → pos k <ℤ (z +ℤ pos long) → k < at + (past - first)

module _ {z : ℤ} {long limit first past at : ℕ} (v : Seen z long limit first past at) (k : ℕ) where
  pub from_seen : at ≤ k → z ≤ℤ pos k
  from_seen h = omega (zarith, v.begins, plus z (pos first))

  pub to_seen : k < at + (past - first) → pos k <ℤ (z +ℤ pos long)
  to_seen h = omega (zarith, v.begins, v.within, v.some, plus z (pos first), plus z (pos long))

  -- which of them is seen there
  pub seen_index : at ≤ k → nat_abs (pos k -ℤ z) ≡ first + (k - at)
  seen_index h = omega (zarith, size (pos k -ℤ z), minus (pos k) z, v.begins, plus z (pos first))

module _ (z : ℤ) (long limit : ℕ) where
  abbrev first : ℕ
  first = clamped (pos 0 -ℤ z) long

  abbrev past : ℕ
  past = clamped (pos limit -ℤ z) long

  within : past ≤ long
  within = omega (arith, clamped_is (pos limit -ℤ z) long)

  -- the framebuffer shows none before the first
  from_first : (k : ℕ) → z ≤ℤ pos k → (z +ℤ pos first) ≤ℤ pos k
  from_first k h = omega (zarith, plus z (pos first), minus (pos 0) z, clamped_is (pos 0 -ℤ z) long)

  -- nor one from `past` on
  to_past : (k : ℕ) → k < limit → pos k <ℤ (z +ℤ pos long) → pos k <ℤ (z +ℤ pos past)
  to_past k h l = omega (zarith, plus z (pos past), plus z (pos long), minus (pos limit) z, clamped_is (pos limit -ℤ z) long)

  pub none_seen : past ≤ first → (k : ℕ) → k < limit → z ≤ℤ pos k → pos k <ℤ (z +ℤ pos long) → ⊥
  none_seen h k l a b = omega (zarith, from_first k a, to_past k l b, plus z (pos first), plus z (pos past))

  module _ (some : first < past) where
    begins : z +ℤ pos first ≡ pos (clamped z limit)
    begins =
        let f : first ≡ up (pos 0 -ℤ z) - down (pos 0 -ℤ z) = omega (arith, within, clamped_is (pos 0 -ℤ z) long) in
        let p : z ≤ℤ pos limit = omega (zarith, minus (pos limit) z, clamped_is (pos limit -ℤ z) long) in
        let a : clamped z limit ≡ up z - down z = omega (zarith, clamped_is z limit) in
        omega (zarith, plus z (pos first), minus (pos 0) z)

    ends : (z +ℤ pos past) ≤ℤ pos limit
    ends = omega (zarith, plus z (pos past), minus (pos limit) z, clamped_is (pos limit -ℤ z) long)

    pub seen_visible : Seen z long limit first past (clamped z limit)
    seen_visible = record {
      some = some;
      within = within;
      begins = begins;
      ends = omega (zarith, ends, begins, plus z (pos first), plus z (pos past));
      from = λ k h. omega (zarith, begins, from_first k h);
      to = λ k l h. omega (zarith, begins, to_past k l h, plus z (pos first), plus z (pos past));
    }
