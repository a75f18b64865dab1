-- `seek` meets its contract: StandsLaws has where the first pair leads, and the step to the next.
use Rattle.integers.proofs.Prelude.{arith}
use Rattle.std.proofs.Common.{rules}
use Rattle.runs.proofs.StandsLaws.{leads_there, stands_next}
use Rattle.runs.proofs.seek.Goals as goal

-- The reader stands at the glyph's pixel.
pub next_pair-runs-requires : goal.next_pair-runs-requires
next_pair-runs-requires c =
    let reader = c.new-reader.ensures in
    let s = leads_there c.requires (rw (reader.bytes, reader.zeros, reader.ones) at c.first_pair-runs.ensures.read) c.loop-offset.invariant in
    search rules

pub loop-offset-smaller : goal.loop-offset-smaller
loop-offset-smaller c =
    let reader = c.new-reader.ensures in
    let s = leads_there c.requires (rw (reader.bytes, reader.zeros, reader.ones) at c.first_pair-runs.ensures.read) c.loop-offset.invariant in
    omega (arith, s.place, c.next_pair-runs.ensures.later)

pub loop-offset-preserved : goal.loop-offset-preserved
loop-offset-preserved c =
    let reader = c.new-reader.ensures in
    let e = c.next_pair-runs.ensures in
    record {
      short = e.short;
      leads = λ n ps h s. rw c.count-offset.ensures (stands_next (c.loop-offset.invariant.leads n ps h s) (omega arith) h
          (rw (reader.bytes, reader.zeros, reader.ones) at e.read));
    }

pub returns : goal.returns
returns c =
    let reader = c.new-reader.ensures in
    record {
      stands = leads_there c.requires (rw (reader.bytes, reader.zeros, reader.ones) at c.first_pair-runs.ensures.read) c.loop-offset.invariant;
      inside = omega arith;
      short = c.loop-offset.invariant.short;
    }
