-- An entry is the table's next four bytes, and its limit leads on or not (TableLaws). Assumes nothing.
use Rattle.integers.proofs.Prelude.{◌≡◌, sym, ◌∙◌, arith, length}
use Rattle.unicode_jumptable_reader.proofs.TableLaws.{table_end, table_found, table_next}
use Rattle.unicode_jumptable_reader.proofs.calculate_jump_offset.Goals as goal

pub returns-then-encoding-u16_at : goal.returns-then-encoding-u16_at
returns-then-encoding-u16_at c =
    let e = c.as_chunks.ensures in
    let l = c.loop-before in
    let within = rw c.u16_at-in-loop-before.ensures at c.if-encoding-u16_at.true in
    rw (c.from-jump_offset.ensures, c.u16_at.ensures)
    (sym (l.invariant.same ∙ table_found _ c.args.encoding l.jump_offset l.before l.before _ e.front (omega (arith, e.front_len)) within))

pub loop-before-preserved : goal.loop-before-preserved
loop-before-preserved c =
    let e = c.as_chunks.ensures in
    let l = c.loop-before in
    let more = rw c.u16_at-in-loop-before.ensures at c.if-encoding-u16_at.false in
    record {
      small = omega (arith, l.invariant.small, c.from-jump_offset.ensures, c.u16_at.type_inv);
      same = rw (c.from-jump_offset.ensures, c.u16_at.ensures)
          (l.invariant.same ∙ table_next _ c.args.encoding l.jump_offset l.before l.before _ e.front (omega (arith, e.front_len)) more);
    }

pub returns : goal.returns
returns c =
    let e = c.as_chunks.ensures in
    let l = c.loop-before in
    let all : length c.as_chunks.result.0.now ≡ l.before = omega arith in
    rw all (sym (l.invariant.same ∙ table_end _ c.args.encoding l.jump_offset l.before l.before (omega (arith, e.front_len))))
