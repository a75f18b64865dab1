-- How far the anchor moves a text: at most 128 down, and at most 128 more than t, the newlines times the line height, up. Ascent
-- and descent are bytes read as signed, −128 to 127. Assumes nothing.
use Rattle.integers.proofs.Prelude.{ℕ, ◌+◌, ◌≤◌, ℤ, pos, negsuc, ◌+ℤ◌, ◌-ℤ◌, ◌≤ℤ◌, w8, w32, SFits}
use Rattle.definitions.specs.Vocabulary.{VerticalPosition}
use Rattle.types.specs.declared.style.VerticalPosition.TheVariants.{Baseline, Top, Center, Bottom}
use Rattle.integers.specs.Integers.{half}
use Rattle.integers.proofs.Laws.{zarith, plus, minus, half_is, range}
use Rattle.definitions.specs.VerticalOffset.{vertical_offset}

module _ (t : ℕ) {a d : ℤ} (f : SFits w8 a) (g : SFits w8 d) where
  pub offset_bounds : (v : VerticalPosition) → (negsuc 127 ≤ℤ (vertical_offset v (pos t) a d +ℤ pos t)) × (vertical_offset v (pos t) a d ≤ℤ pos 128)
  offset_bounds Baseline = omega (zarith, plus (pos 0) (pos t))
  offset_bounds Top = omega (zarith, range f, plus a (pos 1), plus (a +ℤ pos 1) (pos t))
  offset_bounds Center =
      let n = pos t +ℤ a -ℤ d +ℤ pos 1 in
      omega (
        zarith,
        range f,
        range g,
        plus (pos t) a,
        minus (pos t +ℤ a) d,
        plus (pos t +ℤ a -ℤ d) (pos 1),
        half_is n,
        plus (half n) d,
        minus (half n +ℤ d) (pos t),
        plus (half n +ℤ d -ℤ pos t) (pos t),
      )
  offset_bounds Bottom = omega (zarith, range g, minus d (pos t), plus (d -ℤ pos t) (pos t))

  module _ (v : VerticalPosition) where
    -- with the advance of a glyph's line, which lies between 0 and t
    pub advance_bounds : (y : ℤ) → pos 0 ≤ℤ y → y ≤ℤ pos t
        → (negsuc 127 ≤ℤ (vertical_offset v (pos t) a d +ℤ y +ℤ pos t)) × ((vertical_offset v (pos t) a d +ℤ y) ≤ℤ pos (t + 128))
    advance_bounds y low high =
        let b = offset_bounds v in
        let o = vertical_offset v (pos t) a d in
        omega (zarith, plus o (pos t), plus o y, plus (o +ℤ y) (pos t))

    -- the same within the calls' limits: 4,096 bytes of text and lines 65,535 high
    pub offset_limits : t ≤ 268431360 → (negsuc 268431487 ≤ℤ vertical_offset v (pos t) a d) × (vertical_offset v (pos t) a d ≤ℤ pos 128)
    offset_limits h = let b = offset_bounds v in omega (zarith, plus (vertical_offset v (pos t) a d) (pos t))

    pub advance_limits : t ≤ 268431360 → (y : ℤ) → pos 0 ≤ℤ y → y ≤ℤ pos t
        → (negsuc 268431487 ≤ℤ (vertical_offset v (pos t) a d +ℤ y)) × ((vertical_offset v (pos t) a d +ℤ y) ≤ℤ pos 268431488)
    advance_limits h y low high =
        let b = advance_bounds y low high in
        omega (zarith, plus (vertical_offset v (pos t) a d +ℤ y) (pos t))

    pub offset_fits : t ≤ 268431360 → SFits w32 (vertical_offset v (pos t) a d)
    offset_fits h = let b = offset_limits h in omega zarith
