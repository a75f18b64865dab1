-- The repeat bit and a new pair lie in one window of 24 bits. Assumes nothing.
use Rattle.integers.proofs.Prelude.{refl, ◌/◌, ◌%◌, arith}
use Rattle.std.proofs.Common.{rules}
use Rattle.runs.proofs.PairLaws.{pair_short, again_is, new_is}
use Rattle.runs.proofs.run_reader.RunReader.next_pair.Goals as goal

pub returns-then-word-shift-eq1 : goal.returns-then-word-shift-eq1
returns-then-word-shift-eq1 c =
    let a = c.args in
    let word = c.bytes_at-word in
    let at = a.runs.bit_pos in
    record {
      read = again_is a.self.now.bytes.now a.self.now.m0 a.self.now.m1 a.runs (at / 8) word.result (at % 8) word.ensures (omega arith) (omega arith) c.if-word-shift-eq1.true;
      short = search rules;
      later = omega arith;
    }

pub returns : goal.returns
returns c =
    let a = c.args in
    let p = a.self.now.widths in
    let word = c.bytes_at-word in
    let at = a.runs.bit_pos in
    rw (c.pair_of.ensures, c.from.ensures, c.from-2.ensures) record {
      read = new_is a.self.now.bytes.now a.self.now.m0 a.self.now.m1 a.runs (at / 8) word.result (at % 8) word.ensures (omega arith) (omega arith) _ c.if-word-shift-eq1.false p.zeros p.ones refl;
      short = pair_short _ a.self.now.m0 a.self.now.m1 _ p.zeros p.ones;
      later = omega arith;
    }
