-- Heights of 8 bits, and a baseline that they move, are near 0.
use Rattle.std.proofs.Common.{rules, ◌≡◌, sym, subst, arith, ℤ, pos, w8, w32, FitsSigned, to_z, of_z}
use Rattle.integers.proofs.Prelude.{to_z-of_z}
use Rattle.integers.proofs.Laws.{zarith, range, stored}
use Rattle.definitions.specs.Vocabulary.{VerticalPosition}
use Rattle.definitions.specs.VerticalOffset.{vertical_offset}
use Rattle.definitions.proofs.VerticalOffsetLaws.{offset_limits}
use Rattle.layout.specs.Ranges.{Near}
use Rattle.measuring.proofs.font_bounding_box.font_box.Goals as goal

near_offset : (v : VerticalPosition) {a d : ℤ} → FitsSigned w8 a → FitsSigned w8 d → Near (vertical_offset v (pos 0) a d)
near_offset v f g = let o = offset_limits 0 f g v (omega arith) in record { low = omega (zarith, o.0); high = omega (zarith, o.1) }

near_height : {h : ℤ} → FitsSigned w8 h → Near h
near_height f = record { low = omega (zarith, range f); high = omega (zarith, range f) }

pub top-y-requires : goal.top-y-requires
top-y-requires c =
    let h = c.args.head in
    let up : FitsSigned w8 h.ascent = search rules in
    let down : FitsSigned w8 h.descent = search rules in
    let tall : FitsSigned w8 h.font_bounding_box_height = search rules in
    let baseline : to_z w32 (of_z w32 c.compute_vertical_offset-baseline.result) ≡ vertical_offset c.args.vertical_pos (pos 0) h.ascent h.descent
    = stored w32 c.compute_vertical_offset-baseline.type_inv (simp (to_z-of_z, up, down) at c.compute_vertical_offset-baseline.ensures) in
    let height : to_z w32 (of_z w32 c.from.result) ≡ h.font_bounding_box_height
    = stored w32 c.from.type_inv (simp (to_z-of_z, tall) at c.from.ensures) in
    (subst Near (sym baseline) (near_offset c.args.vertical_pos up down), subst Near (sym height) (near_height tall))
