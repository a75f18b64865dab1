-- Within the limits of the text and the place every value on the way is near 0.
use Rattle.std.proofs.Common.{rules, ◌≡◌, false, ℤ, ◌+ℤ◌, w8, w32, FitsSigned, to_z, of_z}
use Rattle.integers.proofs.Prelude.{to_z-of_z}
use Rattle.integers.proofs.Laws.{zarith, plus, stored}
use Rattle.definitions.specs.Limits.{text_cause, position_cause}
use Rattle.definitions.specs.Calls.{Request, plain}
use Rattle.checks.proofs.OriginLaws.{text_limits, position_limits, offset, offset_near}
use Rattle.checks.proofs.origin.text_origin.Goals as goal

sum_fits : (a d : ℤ) (r : Request) → FitsSigned w8 a → FitsSigned w8 d → (text_cause r.text).applies ≡ false
    → (position_cause r.position r.line_height).applies ≡ false → FitsSigned w32 (r.position.y +ℤ offset a d r)
sum_fits a d r f g t p =
    let b = position_limits r.position r.line_height p in
    let o = offset_near a d r f g (text_limits r.text t) b in
    omega (zarith, plus r.position.y (offset a d r))

pub compute_vertical_offset-offset-requires : goal.compute_vertical_offset-offset-requires
compute_vertical_offset-offset-requires c =
    let t = text_limits c.args.text.now c.requires.0 in
    let p = position_limits c.args.placement.position c.args.placement.line_height c.requires.1 in
    simp c.get_newline_count-newline_count.ensures (t.count, p.line)

pub overflow_add-result : goal.overflow_add-result
overflow_add-result c =
    let r = plain c.args.text.now c.args.placement c.args.vertical_pos in
    let f : FitsSigned w32 c.args.placement.position.y = search rules in
    let e : to_z w32 (of_z w32 c.compute_vertical_offset-offset.result) ≡ offset c.args.ascent c.args.descent r
    = stored w32 c.compute_vertical_offset-offset.type_inv (simp (to_z-of_z, c.ranges.ascent, c.ranges.descent, c.get_newline_count-newline_count.ensures) at c.compute_vertical_offset-offset.ensures) in
    simp (e, to_z-of_z, f) (sum_fits c.args.ascent c.args.descent r c.ranges.ascent c.ranges.descent c.requires.0 c.requires.1)

pub returns : goal.returns
returns c =
    let r = plain c.args.text.now c.args.placement c.args.vertical_pos in
    let f : FitsSigned w32 c.args.placement.position.x = search rules in
    let g : FitsSigned w32 c.args.placement.position.y = search rules in
    let e : to_z w32 (of_z w32 c.compute_vertical_offset-offset.result) ≡ offset c.args.ascent c.args.descent r
    = stored w32 c.compute_vertical_offset-offset.type_inv (simp (to_z-of_z, c.ranges.ascent, c.ranges.descent, c.get_newline_count-newline_count.ensures) at c.compute_vertical_offset-offset.ensures) in
    simp (e, to_z-of_z, f, g, sum_fits c.args.ascent c.args.descent r c.ranges.ascent c.ranges.descent c.requires.0 c.requires.1)
