-- `fill_all_bits`: the bytes before the index are filled. Assumes nothing.
use Rattle.definitions.specs.Vocabulary.{Packed}
use Rattle.framebuffer.specs.Columns.{Filled}
use Rattle.framebuffer.proofs.row_writers.fill_all_bits.Given as goal

abbrev pub invariant-loop-byte : goal.invariant-loop-byte
invariant-loop-byte l = Filled Packed l.pixel 0 0 l.byte-index l.value l.initial.part l.part
