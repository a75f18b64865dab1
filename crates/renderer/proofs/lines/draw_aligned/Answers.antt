-- By the alignment: Left is the plain text, the others move lines.
use Rattle.definitions.proofs.TextLaws.{default_dimensions}
use Rattle.integers.proofs.Prelude.{◌≡◌, sym, subst, ◌⊎◌, inl, inr}
use Rattle.definitions.specs.Vocabulary.{HorizontalAlignment}
use Rattle.types.specs.declared.style.HorizontalAlignment.TheVariants.{Center, Right}
use Rattle.checks.proofs.OriginLaws.{as_line}
use Rattle.layout.proofs.MeasureLaws.{within_start}
use Rattle.renderer.specs.Texts.{Moves}
use Rattle.renderer.proofs.DrawnLineLaws.{plain_text}
use Rattle.renderer.proofs.lines.draw_aligned.Goals as goal

pub draw_text-requires : goal.draw_text-requires
draw_text-requires c =
    let s = c.requires in
    record {
      checked = as_line s.checked;
      room = simp (default_dimensions c.default.ensures) (within_start (as_line s.checked));
      fits = s.fits;
    }

moves : {a : HorizontalAlignment} → (a ≡ Center) ⊎ (a ≡ Right) → Moves a
moves (inl e) = subst Moves (sym e) tt
moves (inr e) = subst Moves (sym e) tt

pub returns-in-Left : goal.returns-in-Left
returns-in-Left c = plain_text c.in-Left.is (default_dimensions c.default.ensures) c.draw_text.ensures
