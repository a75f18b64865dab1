-- A move past the font's end: the chain has no byte there (`chain_past`). Assumes nothing.
use Rattle.integers.proofs.Prelude.{◌≡◌, sym, ap, ◌∙◌, ◌+◌, arith, take_all, drop, length-drop}
use Rattle.definitions.specs.Lookup.{after_entries}
use Rattle.definitions.proofs.LookupLaws.{table_sum, chain_past, looks16}
use Rattle.glyph_searcher.specs.Answers.{search_report}
use Rattle.glyph_searcher.proofs.search_unicode.Goals as goal

pub returns-then-rest-jump_offset : goal.returns-then-rest-jump_offset
returns-then-rest-jump_offset c =
    let a = c.args in
    let font = a.font.now.bytes.now in
    let (within, _, rest, ends) = c.in-Some.ensures.lookup.0 in
    let is : c.in-Some.rest.now ≡ drop a.table font = rest ∙ take_all _ _ (omega (arith, length-drop a.table font)) in
    let d = c.in-Some-jump_offset.jump_offset in
    let n = c.calculate_jump_offset-jump_offset.result.entries in
    let leads = sym (rw (is, c.in-Some-jump_offset.is) at c.calculate_jump_offset-jump_offset.ensures) in
    let past = chain_past (looks16 a.encoding) (after_entries n) 0 (a.table + d) font (omega (arith, ends, c.if-rest-jump_offset.true)) in
    c.font_ends-then-rest-jump_offset.ensures ∙ ap (search_report a.encoding) (sym (table_sum font a.table a.encoding within d n leads ∙ past))
