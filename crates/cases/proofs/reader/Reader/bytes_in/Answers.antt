-- A part more was read, or it begins beyond the last place.
use Rattle.std.proofs.Common.{rules, sym, ap, ◌∙◌, arith}
use Rattle.std.proofs.lemmas.List.{places}
use Rattle.cases.specs.Reading.{Position}
use Rattle.cases.proofs.CutLaws.{cut_behind}
use Rattle.cases.proofs.CutStringLaws.{next, stopped, empty, anew}
use Rattle.cases.proofs.reader.Reader.bytes_in.Goals as goal

pub returns-then-ends_early-clause-value : goal.returns-then-ends_early-clause-value
returns-then-ends_early-clause-value c =
    empty _ c.args.self.now
    (stopped c.loop.counter _ c.loop.invariant.reached c.loop-test.true (sym c.ends_early.ensures ∙ c.if-ends_early.true))

pub returns-then-ends_early-clause-after : goal.returns-then-ends_early-clause-after
returns-then-ends_early-clause-after c =
    anew c.args.self.now
    (stopped c.loop.counter _ c.loop.invariant.reached c.loop-test.true (sym c.ends_early.ensures ∙ c.if-ends_early.true))
    (ap (λ (q : Position). q.file) c.self.view_is ∙ c.loop.invariant.reached.file)

pub loop-preserved : goal.loop-preserved
loop-preserved c = record {
  within = search (rules, places);
  reached = next c.loop.counter _ c.loop.invariant.reached c.loop-test.true (sym c.ends_early.ensures ∙ c.if-ends_early.false)
      (cut_behind c.loop.room _ c.part-len.new.room _ c.loop.auto.room (omega arith) (omega arith) c.part-len.ensures.filled
      (search (rules, places)))
      c.part-len.ensures.after;
}
