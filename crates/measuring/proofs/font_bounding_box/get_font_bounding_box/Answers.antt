-- A font that does not open is refused as opening is.
use Rattle.std.proofs.lemmas.Result.{err_from_is_err_and}
use Rattle.std.proofs.Common.{◌≡◌, sym, ◌∙◌, ap}
use Rattle.definitions.specs.Refusals.{success, error_number, code_point}
use Rattle.definitions.specs.Calls.{open_font, font_bounding_box, font_box}
use Rattle.definitions.proofs.OpenedLaws.{opened, open_refused, open_goes_on}
use Rattle.measuring.proofs.font_bounding_box.get_font_bounding_box.Goals as goal

pub returns-in_err-head : goal.returns-in_err-head
unfolding font_bounding_box
returns-in_err-head c =
    let e = c.in_err-head.field-0.0 in
    let p = err_from_is_err_and c.from_residual.result c.from_residual.ensures.1 in
    rw (p.1, p.2) (sym (open_refused _ _ (error_number e) (code_point e) (sym c.in_err-head.ensures)))

pub returns : goal.returns
unfolding font_bounding_box
returns c =
    let opens : open_font c.args.font.now ≡ success c.in_ok-head.head = sym c.in_ok-head.ensures in
    ap success (c.font_box.ensures ∙ ap (λ h. font_box h c.args.vertical_pos) (opened c.args.font.now c.in_ok-head.head opens).read)
    ∙ sym (open_goes_on _ _ c.in_ok-head.head opens)
