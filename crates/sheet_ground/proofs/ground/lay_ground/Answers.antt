-- `lay_ground` meets its contract: the boxes of the first k readings are cleared, and GroundLaws.antt has what that leaves.
-- Assumes nothing.
use Rattle.integers.proofs.Prelude.{refl, sym, subst, ℕ, arith, length}
use Rattle.sheet_ground.specs.Readings.{PlaceFits}
use Rattle.sheet_ground.proofs.GroundLaws.{laid_start, laid_next, laid}
use Rattle.sheet_ground.proofs.ground.lay_ground.Goals as goal

pub loop-k-init : goal.loop-k-init
loop-k-init c =
    let a = c.args in
    record { long = refl; is = laid_start a.font.now a.place (length a.buffer.now) _ c.fill_with_rubbish.ensures }

pub loop-k-preserved : goal.loop-k-preserved
loop-k-preserved c =
    let a = c.args in
    let l = c.loop-k in
    record {
      long = omega (arith, c.clear_reading.auto.buffer, l.invariant.long);
      is = laid_next a.font.now a.place _ l.k l.invariant.is c.clear_reading.ensures;
    }

pub returns : goal.returns
returns c =
    let a = c.args in
    let l = c.loop-k in
    laid a.font.now a.place _ l.k l.buffer (subst (λ (n : ℕ). PlaceFits n a.place) (sym c.fill_with_rubbish.auto.buffer) c.requires) (omega arith) l.invariant.is
