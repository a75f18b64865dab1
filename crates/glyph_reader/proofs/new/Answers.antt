-- The font ends in the fields (`fields_end`), or one fetch has them all (`fields_fetched`). Assumes nothing.
use Rattle.integers.proofs.Prelude.{sym, arith, w8}
use Rattle.integers.proofs.Laws.{stored}
use Rattle.glyph_reader.proofs.FieldLaws.{fields_end, fields_fetched}
use Rattle.glyph_reader.proofs.new.Goals as goal

pub returns-then-font-end : goal.returns-then-font-end
returns-then-font-end c = let a = c.args in sym (fields_end a.font.now.bytes.now a.font.now.head a.ch a.start (omega arith))

pub returns : goal.returns
returns c =
    let a = c.args in
    rw (
      c.from.ensures,
      c.unsigned_field.ensures,
      c.unsigned_field-2.ensures,
      stored w8 c.signed_field.type_inv c.signed_field.ensures,
      stored w8 c.signed_field-2.type_inv c.signed_field-2.ensures,
      stored w8 c.signed_field-3.type_inv c.signed_field-3.ensures,
    )
    (sym (fields_fetched a.font.now.bytes.now a.font.now.head a.ch a.start _ a.font.now.opened (omega arith) c.long_at-bits.ensures))
