-- The whole text decodes exactly if what is left of it does. Assumes nothing.
use Rattle.std.proofs.Common.{◌≡◌, length}
use Rattle.definitions.specs.Utf8.{decode, is_utf8}
use Rattle.content.proofs.text.is_utf8.Given as goal

abbrev pub invariant-loop-tail : goal.invariant-loop-tail
invariant-loop-tail l = is_utf8 (decode l.text) ≡ is_utf8 (decode l.rest)

abbrev pub decreases-loop-tail : goal.decreases-loop-tail
decreases-loop-tail l = length l.rest
