-- The causes are tested in the definition's order: between those of the font and those of the text stand no others, nor after them.
use Rattle.std.proofs.lemmas.Result.{err_from_is_err_and}
use Rattle.std.proofs.Common.{◌≡◌, refl, subst, List, [], ℕ, Result, Ok, Err}
use Rattle.definitions.specs.Vocabulary.{Error, FontReader}
use Rattle.definitions.specs.Refusals.{success}
use Rattle.definitions.specs.Font.{u8g2}
use Rattle.definitions.specs.Calls.{Request, open_font, plain, measure_causes}
use Rattle.checks.specs.declared.origin.Setup.{Setup}
use Rattle.checks.specs.Origins.{place_causes}
use Rattle.checks.specs.Setups.{Tests, SetFor}
use Rattle.checks.proofs.SetupLaws.{font_refused, place_refused, none_refused}
use Rattle.measuring.proofs.aligned_dimensions.check.Goals as goal

-- the tests of a text, on a font that opens
on_font : (font : List ℕ) {head : FontReader} → open_font font ≡ success head → (r : Request) (s : Result Setup Error)
    → Tests (place_causes r) (SetFor font r) s → Tests (measure_causes (u8g2 font) r) (SetFor font r) s
on_font font opens r (Ok s) k = (none_refused font [] r [] opens refl k.0 refl, k.1)
on_font font opens r (Err e) k = place_refused font [] r [] opens refl k

pub returns-in_err-font : goal.returns-in_err-font
returns-in_err-font c =
    let asked = plain c.args.text.now c.args.placement c.args.vertical_pos in
    let p = err_from_is_err_and c.from_residual.result c.from_residual.ensures.1 in
    rw (p.1, p.2) (font_refused c.args.font.now [] asked [] c.in_err-font.ensures)

pub returns : goal.returns
returns c =
    let asked = plain c.args.text.now c.args.placement c.args.vertical_pos in
    on_font c.args.font.now c.in_ok-font.ensures.1 asked c.checked.result
    (subst (λ (b : List ℕ). Tests (place_causes asked) (SetFor b asked) c.checked.result) c.in_ok-font.ensures.0 c.checked.ensures)
