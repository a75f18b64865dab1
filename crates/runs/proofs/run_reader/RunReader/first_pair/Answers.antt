-- The pair lies in the window of the byte that it begins in. Assumes nothing.
use Rattle.integers.proofs.Prelude.{refl, ◌/◌, ◌%◌, arith}
use Rattle.runs.proofs.PairLaws.{pair_is, pair_short}
use Rattle.runs.proofs.run_reader.RunReader.first_pair.Goals as goal

pub returns : goal.returns
returns c =
    let a = c.args in
    rw (c.pair_of.ensures, c.from.ensures, c.from-2.ensures) record {
      read = pair_is a.self.now.bytes.now a.self.now.m0 a.self.now.m1 (a.start / 8) c.bytes_at.result (a.start % 8) a.start _ c.bytes_at.ensures
          (omega (arith, a.self.now.widths.zeros, a.self.now.widths.ones)) (omega arith) refl;
      short = pair_short _ a.self.now.m0 a.self.now.m1 _ a.self.now.widths.zeros a.self.now.widths.ones;
    }
