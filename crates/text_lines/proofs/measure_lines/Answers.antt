-- `measure_lines` meets its contract: each character that is added leads on (`measured_next`) or stops the text (`aligned_stops`,
-- `sum_stops`). At the end the last line is still to be moved.
use Rattle.std.proofs.Common.{refl, sym, ap, ◌∙◌}
use Rattle.definitions.proofs.TextLaws.{default_dimensions}
use Rattle.definitions.proofs.SumsLaws.{default_steps}
use Rattle.definitions.specs.Refusals.{success}
use Rattle.utf8.proofs.SplitLaws.{split_shorter}
use Rattle.checks.proofs.OriginLaws.{as_line}
use Rattle.layout.proofs.MeasureLaws.{checked_characters}
use Rattle.layout.proofs.SumLoopLaws.{summed_start, summed_end, summed_fits}
use Rattle.text_lines.specs.Lines.{state_outcome}
use Rattle.text_lines.proofs.LoopLaws.{aligned_start, aligned_end, aligned_stops, measured_next, sum_stops}
use Rattle.text_lines.proofs.measure_lines.Goals as goal

pub loop-ch-init : goal.loop-ch-init
loop-ch-init c =
    let k = c.requires in
    simp (default_dimensions c.default.ensures, default_steps c.default-steps.ensures) record { aligned = aligned_start k; summed = summed_start (checked_characters (as_line k)) }

pub returns-in-Err : goal.returns-in-Err
returns-in-Err c =
    let k = c.requires in
    let stops = sym c.add_char-added.ensures.added ∙ ap state_outcome c.in-Err.is in
    rw c.stopped.ensures
    record {
      measured = aligned_stops k c.loop-ch.invariant.aligned c.in-Some.ensures stops;
      summed = sum_stops k c.loop-ch.invariant c.in-Some.ensures c.add_char-added.ensures.brought c.add_steps.ensures stops refl;
    }

pub add_steps-requires : goal.add_steps-requires
add_steps-requires c =
    summed_fits c.loop-ch.invariant.summed c.in-Some.ensures c.add_char-added.ensures.brought c.args.font.now.opened.least c.args.font.now.opened.most c.requires.short

pub add_steps-steps-requires : goal.add_steps-steps-requires
add_steps-steps-requires c =
    summed_fits c.loop-ch.invariant.summed c.in-Some.ensures c.add_char-added.ensures.brought c.args.font.now.opened.least c.args.font.now.opened.most c.requires.short

pub loop-ch-smaller : goal.loop-ch-smaller
loop-ch-smaller c = split_shorter c.in-Some.ensures

pub loop-ch-preserved : goal.loop-ch-preserved
loop-ch-preserved c =
    measured_next c.requires c.loop-ch.invariant c.in-Some.ensures c.add_char-added.ensures.brought c.add_steps-steps.ensures c.args.font.now.opened
    (sym c.add_char-added.ensures.added ∙ ap state_outcome c.in-Ok.is)

pub returns : goal.returns
returns c = record {
  measured = ap success c.end_text.ensures ∙ aligned_end c.requires c.loop-ch.invariant.aligned c.in_default.ensures;
  summed = summed_end c.loop-ch.invariant.summed c.in_default.ensures;
}
