-- LetterLaws and SumLoopLaws have the loop's steps and its ends; here they are applied to the character that was read.
use Rattle.integers.proofs.Prelude.{◌≡◌, refl, sym, ap, subst, ◌∙◌}
use Rattle.integers.proofs.Choices.{impossible}
use Rattle.definitions.proofs.SumsLaws.{default_steps}
use Rattle.definitions.specs.Vocabulary.{RenderedDimensions}
use Rattle.definitions.specs.Refusals.{outcome}
use Rattle.definitions.specs.Geometry.{InReach}
use Rattle.utf8.specs.Splits.{FirstAndRest}
use Rattle.utf8.proofs.SplitLaws.{split_shorter}
use Rattle.definitions.specs.Font.{u8g2}
use Rattle.definitions.specs.Sums.{plus_steps, brings, Fits32}
use Rattle.layout.proofs.MeasureLaws.{checked_characters, measured_end, measured_stops}
use Rattle.layout.proofs.SumLoopLaws.{summed_start, summed_end, summed_fits}
use Rattle.renderer.proofs.LetterLaws.{drawn_small, drawn_start, drawn_end, drawn_next, drawn_stops, sum_next, sum_stops}
use Rattle.renderer.proofs.letters.draw_text.Goals as goal
use Rattle.renderer.proofs.letters.draw_text.Goals.{After-draw_char-drawn}

pub loop-ch-init : goal.loop-ch-init
loop-ch-init c =
    let k = c.requires.checked in
    record { drawn = drawn_start _ _ _ _ _ _ _ _ _ k c.requires.room; summed = simp (default_steps c.default-steps.ensures) (summed_start (checked_characters k)) }

-- the character that was read, and drawn
module _ (c : After-draw_char-drawn) where
  first : FirstAndRest c.loop-ch.rest.now c.in-Some.ch c.in-Some.tail.now
  first = c.in-Some.ensures

  brings_it : c.draw_char-drawn.result.steps ≡ brings (u8g2 c.args.font.now.bytes.now).steps c.in-Some.ch
  brings_it = c.draw_char-drawn.ensures.brought

  sum_fits : Fits32 (plus_steps c.loop-ch.steps c.draw_char-drawn.result.steps)
  sum_fits =
      let s = c.requires in
      let o = c.args.font.now.opened in
      summed_fits c.loop-ch.invariant.summed first brings_it o.least o.most s.checked.short

pub add_steps-sum-requires : goal.add_steps-sum-requires
add_steps-sum-requires c = sum_fits (goal.at.add_steps-sum-requires c).After-draw_char-drawn

pub returns-in-Err : goal.returns-in-Err
returns-in-Err c =
    let k = (goal.at.returns-in-Err c).After-draw_char-drawn in
    let is = c.in-Err.is in
    let i = c.loop-ch.invariant in
    let d = c.draw_char-drawn.ensures in
    let stops = sym d.counted ∙ ap outcome is in
    rw c.stopped.ensures
    record {
      counted = sym (measured_stops c.requires.checked i.drawn.reached (first k) stops);
      summed =
          sum_stops _ i.summed (first k) (brings_it k) c.add_steps-sum.ensures c.args.pen.line_height
          c.args.pen.origin c.loop-ch.dimensions stops refl;
      shown = drawn_stops _ _ _ _ _ _ _ _ _ c.requires.checked i.drawn (first k) stops d.shown;
      reach = λ e h. impossible cc;
    }

pub loop-ch-smaller : goal.loop-ch-smaller
loop-ch-smaller c = split_shorter (first (goal.at.loop-ch-smaller c).After-draw_char-drawn)

pub loop-ch-preserved : goal.loop-ch-preserved
loop-ch-preserved c =
    let k = (goal.at.loop-ch-preserved c).After-draw_char-drawn in
    let is = c.in-Ok.is in
    let i = c.loop-ch.invariant in
    let d = c.draw_char-drawn.ensures in
    let goes = sym d.counted ∙ ap outcome is in
    record {
      drawn = drawn_next _ _ _ _ _ _ _ _ _ c.requires.checked i.drawn (first k) (drawn_small c.args.font.now.opened _) goes d.shown
          c.draw_char-drawn.auto.buffer;
      summed = sum_next _ i.summed (first k) (brings_it k) c.add_steps-sum.ensures c.args.pen.line_height
          c.args.pen.origin c.loop-ch.dimensions goes;
    }

pub returns : goal.returns
returns c =
    let i = c.loop-ch.invariant in
    let k = c.requires.checked in
    let over = c.in_default.ensures in
    record {
      counted = sym (measured_end k i.drawn.reached over);
      summed = summed_end i.summed over;
      shown = drawn_end _ _ _ _ _ _ _ _ _ k i.drawn over;
      reach = λ e k. let same : c.loop-ch.dimensions ≡ e = cc in
          subst (λ (x : RenderedDimensions). InReach x.bounding_box) same i.drawn.reached.reached.within.box;
    }
