-- Where neither cause applies, the header that was read is the font's.
use Rattle.integers.proofs.Prelude.{sym}
use Rattle.definitions.proofs.OpenedLaws.{opened}
use Rattle.font_reader.proofs.opened.OpenedFont.open.Goals as goal

pub invariant_of-result : goal.invariant_of-result
invariant_of-result c = record { opened = opened _ c.in_ok-head.head (sym c.in_ok-head.ensures) }
