-- Where neither cause applies, the header can be read.
use Rattle.integers.proofs.Prelude.{◌≡◌, sym, ◌∙◌, false, le-ltb}
use Rattle.definitions.specs.Header.{header, length_off}
use Rattle.definitions.proofs.OpenedLaws.{opened_limits}
use Rattle.font_reader.proofs.new_from_raw_data.Goals as goal

pub read_header-requires : goal.read_header-requires
unfolding header
read_header-requires c =
    let length_in : length_off c.args.font.now ≡ false = simp (le-ltb _ _ c.if-font-lt-HEADER_SIZE.false, le-ltb _ _ c.if-font-gt-MAX_FONT_SIZE.false) in
    let o = opened_limits c.args.font.now length_in (sym c.has_bad_header.ensures ∙ c.if-has_bad_header.false) in
    (o.least, o.height)
