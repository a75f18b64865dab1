-- The runs of a glyph that was found begin within the font. Assumes nothing.
use Rattle.integers.proofs.Prelude.{sym, ap, ◌∙◌, arith}
use Rattle.definitions.specs.Refusals.{outcome}
use Rattle.definitions.proofs.GlyphLaws.{glyph_range}
use Rattle.answers.proofs.check_glyph.Goals as goal

pub check_runs-requires : goal.check_runs-requires
check_runs-requires c =
    let f = c.args.font.now in
    let found = sym c.requires ∙ ap outcome c.in_ok-glyph.was in
    let r = glyph_range f.bytes.now f.head c.args.ch c.in_ok-glyph.glyph f.opened found in
    omega (arith, r)
