-- What the step's causes are: a step that passes them, and one that they refuse. Assumes nothing.
use Rattle.integers.proofs.Prelude.{◌≡◌, refl, Bool, true, false, ◌||◌, List, ◌∷◌, ℕ, eqb}
use Rattle.integers.proofs.Choices.{impossible}
use Rattle.definitions.specs.Refusals.{Cause, any_applies}
use Rattle.definitions.specs.Vocabulary.{Transparent}
use Rattle.definitions.specs.Limits.{text_cause, color_off}
use Rattle.definitions.specs.Agreement.{Ground}
use Rattle.definitions.proofs.RefusalLaws.{NoneApplies, each_off}
use Rattle.definitions.proofs.CausesLaws.{DrawPasses}
use Rattle.definitions.proofs.SumsLaws.{refused_early}
use Rattle.checks.specs.Setups.{Refuse}
use Rattle.redraw_checks.specs.Drawing.{Drawing, asks}
use Rattle.redraw_checks.specs.Checks.{redraw_causes}

-- None of its causes applies: the old text is one that can be drawn, what clears it a colour that the framebuffer has, and the new text
-- passes as a drawing does.
pub record StepPasses (font old : List ℕ) (new : Drawing) (background : ℕ) (p : Ground) : Type 0 where
  pub old_in : (text_cause old).applies ≡ false
  pub clears : color_off p.framebuffer.format (Transparent background) ≡ false
  pub passes : DrawPasses font (asks new) new.color p

pub step_passes : (font old : List ℕ) (new : Drawing) (background : ℕ) (p : Ground)
    → any_applies (redraw_causes font old new background p) ≡ false → StepPasses font old new background p
step_passes font old new background p e = by (each_off (redraw_causes font old new background p) e)
  where
    by : NoneApplies (redraw_causes font old new background p) → StepPasses font old new background p
    by (l, (h, (s, (o, (t, (q, (b, (k, (c, none))))))))) =
        record {
          old_in = o;
          clears = k;
          passes = record {
            limited = record { length_in = l; header_in = h; size_in = s; text_in = t; place_in = q };
            bits_in = b;
            color_in = c;
          };
        }

-- One of two causes with the same number applies.
pub refused_either : (n : ℕ) (a b : Bool) (cs : List Cause) → (a || b) ≡ true
    → Refuse (record { number = n; applies = a } ∷ record { number = n; applies = b } ∷ cs) n 0
refused_either n true b cs e = refl
refused_either n false true cs e = refl
refused_either n false false cs e = impossible cc

-- A step that a test refuses is refused before its first character.
pub checks_early : (font old : List ℕ) (new : Drawing) (background : ℕ) (p : Ground) {n c : ℕ}
    → Refuse (redraw_causes font old new background p) n c → eqb n 7 ≡ false
checks_early font old new background p e =
    refused_early (tt {0}) (redraw_causes font old new background p)
    (refl, (refl, (refl, (refl, (refl, (refl, (refl, (refl, (refl, tt))))))))) e
