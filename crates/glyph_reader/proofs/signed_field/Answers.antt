-- The difference taken in 32 bits fits a signed byte (ReadLaws). Assumes nothing.
use Rattle.integers.proofs.Prelude.{ap, ◌∙◌, ◌^◌, ◌<◌, mod-lt, w32}
use Rattle.integers.proofs.Laws.{stored}
use lib.Pow.{pow_pos}
use Rattle.definitions.specs.Bits.{biased}
use Rattle.glyph_reader.proofs.ReadLaws.{biased_is}
use Rattle.glyph_reader.proofs.signed_field.Goals as goal

pub returns : goal.returns
returns c =
    let value = c.unsigned_field-value.result in
    let small : value < 2 ^ c.args.width = rw c.unsigned_field-value.ensures (mod-lt _ (pow_pos _)) in
    rw (stored w32 c.from.type_inv c.from.ensures, stored w32 c.from-2.type_inv c.from-2.ensures)
    (biased_is c.args.width value c.requires small ∙ ap (biased c.args.width) c.unsigned_field-value.ensures)
