-- A font that does not open is not measured, and the line height of one that does is at most 128. Assumes nothing.
use Rattle.std.proofs.lemmas.Result.{err_from_is_err_and}
use Rattle.integers.proofs.Prelude.{refl, sym, subst, inl, ℕ, arith}
use Rattle.definitions.specs.Header.{header}
use Rattle.corner.specs.Whole.{setting_of}
use Rattle.pictures.proofs.DrawingLaws.{opening_refused, is_default, default_low}
use Rattle.pictures.specs.Drawings.{IsDrawing}
use Rattle.pictures.proofs.whole.draw_whole.Goals as goal

pub returns-in_err-head : goal.returns-in_err-head
returns-in_err-head c =
    let font = c.args.font.now in
    let p = err_from_is_err_and c.from_residual.result c.from_residual.ensures.1 in
    let refused = opening_refused font c.args.text.now (setting_of (header font).line_height c.args.align) (sym c.in_err-head.ensures) in
    rw (p.1, p.2) (inl (refl, refused))

pub draw_measured-requires : goal.draw_measured-requires
draw_measured-requires c =
    (omega (arith, default_low c.args.font.now _ (sym c.in_ok-head.ensures) (omega (arith, c.type_inv.font 10))), c.requires)

pub returns : goal.returns
returns c =
    let a = c.args in
    let call = c.draw_measured in
    subst (λ (n : ℕ). IsDrawing a.font.now a.text.now (setting_of n a.align) a.color a.format a.buffer.now call.new.buffer call.result)
    (is_default a.font.now _ (sym c.in_ok-head.ensures))
    call.ensures
