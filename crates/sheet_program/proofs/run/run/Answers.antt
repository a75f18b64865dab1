-- The screen and the totals are those of the first k readings, and SheetLaws has what holds of all.
use Rattle.std.proofs.Common.{rules, ◌≡◌, refl, sym, ap, subst, ◌∙◌, arith}
use Rattle.std.specs.Prelude.{None}
use Rattle.readings.specs.Sheet.{SheetState, screen_of, screen_at, totals_to, Sound}
use Rattle.readings.proofs.SheetLaws.{start_screen, start_totals, few, next_screen, next_totals, sound}
use Rattle.sheet_totals.specs.Totals.{no_totals}
use Rattle.sheet_program.proofs.run.run.Goals as goal

pub loop-k-init : goal.loop-k-init
loop-k-init g c =
    let a = c.args in
    let none : c.default-totals.result ≡ no_totals = search rules in
    record {
      screen-length = refl;
      alone-length = refl;
      here = ap (screen_of None) c.requires.begins ∙ start_screen a.trial.narrow a.font.now a.trial.place a.ground.now c.requires.buffers.fits.takes;
      counts = none ∙ start_totals a.trial.narrow a.font.now a.trial.place a.ground.now c.requires.buffers.fits.takes;
    }

pub counted-totals-requires : goal.counted-totals-requires
counted-totals-requires g c =
    let a = c.args in
    few a.trial.narrow a.font.now a.trial.place a.ground.now c.requires.buffers.fits.takes (omega arith) c.loop-k.invariant.counts

pub loop-k-preserved : goal.loop-k-preserved
loop-k-preserved g c =
    let a = c.args in
    let i = c.loop-k.invariant in
    let finds = c.step-found.ensures in
    record {
      screen-length = omega arith;
      alone-length = omega arith;
      here = next_screen a.trial.narrow a.font.now a.trial.place a.ground.now c.requires.buffers.fits.takes i.here finds;
      counts = next_totals a.trial.narrow a.font.now a.trial.place a.ground.now c.requires.buffers.fits.takes i.here finds i.counts (c.counted-totals.ensures ∙ rw c.sight_of-sight.ensures refl);
    }

pub returns : goal.returns
returns g c =
    let a = c.args in
    let l = c.loop-k in
    let all : l.k ≡ 901 = omega arith in
    let t = l.invariant.counts ∙ ap (totals_to a.trial.narrow a.font.now a.trial.place a.ground.now) all in
    let s = l.invariant.here ∙ ap (screen_at a.trial.narrow a.font.now a.trial.place a.ground.now) all in
    record {
      totals = t;
      left = ap (λ (s : SheetState). s.bytes) s;
      sound = λ clear. subst (Sound a.trial.narrow a.font.now a.trial.place a.ground.now) (sym t)
          (sound a.trial.narrow a.font.now a.trial.place a.ground.now c.requires.buffers.fits.takes clear);
    }
