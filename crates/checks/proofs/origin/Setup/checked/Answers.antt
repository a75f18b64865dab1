-- Causes 4 and 5 are tested by the origin, which is the font's since the header is that of its bytes.
use Rattle.std.proofs.lemmas.Result.{err_from_is_err_and}
use Rattle.std.proofs.Common.{rules, ◌≡◌, refl, sym, ap, subst, ◌∙◌, w8, FitsSigned}
use Rattle.integers.proofs.Prelude.{to_z-of_z}
use Rattle.definitions.specs.Vocabulary.{Point}
use Rattle.definitions.specs.Refusals.{success}
use Rattle.definitions.specs.Font.{u8g2}
use Rattle.definitions.specs.Calls.{plain, origin}
use Rattle.definitions.proofs.RefusalLaws.{stopped}
use Rattle.checks.specs.Origins.{origin_by, place_causes, checked_origin, Checked}
use Rattle.checks.proofs.OriginLaws.{begun, placed_checked, origin_read}
use Rattle.checks.proofs.origin.Setup.checked.Goals as goal

pub returns-in_err-origin : goal.returns-in_err-origin
returns-in_err-origin c =
    let asked = plain c.args.text.now c.args.placement c.args.vertical_pos in
    let head = c.args.font.head in
    let f : FitsSigned w8 head.ascent = search rules in
    let g : FitsSigned w8 head.descent = search rules in
    let off = sym {b = checked_origin head.ascent head.descent asked} (simp (to_z-of_z, f, g) at c.in_err-origin.ensures) in
    let p = err_from_is_err_and c.from_residual.result c.from_residual.ensures.1 in
    rw (p.1, p.2) (stopped (origin_by head.ascent head.descent asked) (success (tt {0})) (place_causes asked) off).1

pub returns : goal.returns
returns c =
    let asked = plain c.args.text.now c.args.placement c.args.vertical_pos in
    let head = c.args.font.head in
    let f : FitsSigned w8 head.ascent = search rules in
    let g : FitsSigned w8 head.descent = search rules in
    let passes = sym {b = checked_origin head.ascent head.descent asked} (simp (to_z-of_z, f, g) at c.in_ok-origin.ensures) in
    let k = begun head.ascent head.descent asked passes in
    let begins : c.in_ok-origin.origin ≡ origin (u8g2 c.args.font.bytes.now) asked = sym k.1 ∙ origin_read c.args.font.opened asked in
    let sound = placed_checked head.ascent head.descent asked f g k.0 in (
      k.0,
      record {
        bytes = refl;
        pen = c.new-pen.ensures
            ∙ ap (λ (o : Point). record { origin = o; line_height = asked.line_height; ignore_unknown_chars = asked.skip }) begins;
        checked = rw c.new-pen.ensures (subst (λ (o : Point). Checked asked.text o asked.line_height) k.1 sound);
      },
    )
