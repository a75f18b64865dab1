-- Each step goes from a state to another (StateLaws). Assumes nothing.
use Rattle.integers.proofs.Prelude.{ap, ℕ, ◌-◌, arith}
use Rattle.rows.proofs.StateLaws.{at_start, at_row, all_rows, at_next}
use Rattle.rows.proofs.PartLaws.{part_lies}
use Rattle.rows.proofs.draw_pairs.Goals as goal

pub pairs-init : goal.pairs-init
pairs-init c =
    let place = c.seek-start in
    let wide = c.from-glyph_width.ensures in
    record {
      short = place.ensures.short;
      at = at_start (part_lies c.requires.fits _ _) (omega (arith, c.requires.fits.some_rows)) (omega (arith, place.ensures.inside))
          (rw wide at place.ensures.stands) c.saturating_sub-from.ensures (ap (λ (k : ℕ). k - place.result.offset) c.count.ensures) c.new-line.ensures;
    }

pub loop-to-preserved : goal.loop-to-preserved
loop-to-preserved c =
    let l = c.loop-to in
    let wide = c.from-glyph_width.ensures in
    record {
      short = l.invariant.short;
      at = rw (c.saturating_sub-from-in-loop-to.ensures, wide)
          (at_row (part_lies c.requires.fits _ _) l.invariant.at (rw wide at c.loop-to-test.true) c.if-below-bottom.false
          (rw wide at c.fill_columns.ensures) c.new-line-in-loop-to.ensures);
    }

pub pairs-preserved : goal.pairs-preserved
pairs-preserved c =
    let l = c.loop-to in
    let wide = c.from-glyph_width.ensures in
    let reader = c.new-reader.ensures in
    record {
      short = c.next_pair-runs.ensures.short;
      at = at_next (part_lies c.requires.fits _ _) l.invariant.at (rw wide at c.loop-to-test.false)
          (rw (reader.bytes, reader.zeros, reader.ones) at c.next_pair-runs.ensures.read) c.fill_columns-in-pairs.ensures;
    }

pub returns : goal.returns
returns c =
    let l = c.loop-to in
    let wide = c.from-glyph_width.ensures in
    all_rows (part_lies c.requires.fits _ _) l.invariant.at (rw wide at c.loop-to-test.true) c.if-below-bottom.true
    (rw wide at c.fill_columns.ensures)
