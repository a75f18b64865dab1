-- `fill_rows` meets its contract: FillLaws has the step to the next row. Assumes nothing.
use Rattle.integers.proofs.Prelude.{◌≡◌, refl, sym, ◌∙◌, arith}
use Rattle.framebuffer.proofs.FillLaws.{no_row, next_row}
use Rattle.framebuffer.proofs.fill.fill_rows.Goals as goal

pub loop-row-init : goal.loop-row-init
loop-row-init c =
    let a = c.args in
    rw c.into_iter-row-iterator.ensures.into_iter_gives record {
      end = refl;
      begun = omega arith;
      within = c.requires.rows;
      filled = λ some. sym (no_row a.framebuffer some a.color a.columns.start a.columns.end a.rows.start a.buffer.now);
    }

-- the row lies on the framebuffer
pub new-line-requires : goal.new-line-requires
new-line-requires c =
    let f = c.requires.fits in
    let row : c.in-Some.row ≡ c.loop-row.row-iterator.start = c.in-Some.ensures.steps.1.1 in
    record {
      wide = f.wide;
      high = f.high;
      below = omega (arith, c.in-Some.ensures.steps.1.0, c.loop-row.invariant.end, c.requires.below);
      right = omega (arith, c.requires.columns, c.requires.within);
    }

pub fill_line-requires : goal.fill_line-requires
fill_line-requires c =
    let row : c.in-Some.row ≡ c.loop-row.row-iterator.start = c.in-Some.ensures.steps.1.1 in
    rw (c.new-line.ensures, c.loop-row.auto.buffer) record {
      fits = c.requires.fits;
      below = omega (arith, c.in-Some.ensures.steps.1.0, c.loop-row.invariant.end, c.requires.below);
      right = omega (arith, c.requires.columns, c.requires.within);
      start = refl;
      pixel = refl;
    }

pub loop-row-preserved : goal.loop-row-preserved
loop-row-preserved c =
    let a = c.args in
    let l = c.loop-row.invariant in
    let step = c.in-Some.ensures.steps in
    let y = c.loop-row.row-iterator.start in
    let row : c.in-Some.row ≡ y = step.1.1 in
    rw (step.0, l.end, step.1.2) record {
      end = refl;
      begun = omega (arith, l.begun);
      within = omega (arith, step.1.0, l.end);
      filled = λ some.
          rw (c.new-line.ensures, row, l.filled some) at c.fill_line.ensures
          ∙ next_row a.framebuffer some a.color a.columns.start a.columns.end a.rows.start a.buffer.now y c.requires.columns l.begun;
    }

pub returns : goal.returns
returns c =
    let l = c.loop-row.invariant in
    let e : c.loop-row.row-iterator.start ≡ c.args.rows.end = omega (arith, c.in-None.ensures.steps.1.0, l.end, l.within) in
    l.filled c.requires.fits.some ∙ rw e
