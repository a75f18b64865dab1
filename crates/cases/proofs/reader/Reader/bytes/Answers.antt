-- A part more was read, or there is none, or no memory.
use Rattle.std.proofs.lemmas.Result.{err_from_is_err_and}
use Rattle.cases.proofs.StringLaws.{next, stopped}
use Rattle.cases.proofs.reader.Reader.bytes.Goals as goal

pub returns-in_err-whole_part : goal.returns-in_err-whole_part
returns-in_err-whole_part c =
    let p = err_from_is_err_and c.from_residual-in_err-whole_part.result c.from_residual-in_err-whole_part.ensures.1 in
    rw (p.1, p.2) (λ h. stopped c.loop.counter c.in_ok-end.end c.loop.invariant c.loop-test.true c.in_err-whole_part.ensures h.all)

pub loop-preserved : goal.loop-preserved
loop-preserved c =
    let more = rw c.deref.ensures.value at c.in_ok-extend_from_slice.ensures.items in
    next c.loop.counter c.in_ok-end.end c.loop.invariant c.loop-test.true c.in_ok-whole_part.ensures more
