-- What a read adds stands behind what was read before. Assumes nothing.
use Rattle.std.proofs.Common.{length, ◌-◌, sym, subst, rules}
use Rattle.std.specs.Io.KnownBytes.{Consumes}
use Rattle.std.proofs.KnownBytes.{Consumes-trans}
use Rattle.system.proofs.ReadingLaws.{read_behind}
use Rattle.system.proofs.reading.read_start.Goals as goal

pub loop-n-preserved : goal.loop-n-preserved
loop-n-preserved g c =
    let n = c.loop-n.n in
    let buffer = c.loop-n.buffer in
    let before = c.loop-n.invariant in
    let read = c.in-Ok.ensures in
    let joined = read_behind n (length buffer - n) c.in-Ok.k buffer c.read.new.buf before.0 read.bound.0 in
    (search rules, subst (Consumes _ _) (sym joined) (Consumes-trans _ _ _ _ _ before.1 read.bytes.0))
