-- A reading drawn on a copy of the ground. Aligned drawing answers with the box alone; whether it succeeds is what tells. Assumes
-- nothing.
use Rattle.integers.proofs.Prelude.{◌≡◌, refl, sym, ap, ◌∙◌, List, ℕ}
use Rattle.integers.proofs.Choices.{impossible}
use Rattle.std.specs.Prelude.{true, false, Result, Ok, Err, is_err}
use Rattle.definitions.specs.Vocabulary.{Error, BoundingBox, RenderedDimensions}
use Rattle.definitions.specs.Refusals.{Outcome, success, refused, outcome}
use Rattle.definitions.specs.Font.{u8g2}
use Rattle.definitions.specs.Calls.{draw_aligned}
use Rattle.definitions.specs.Agreement.{on, Ground}
use Rattle.definitions.proofs.TextLaws.{box_alone}
use Rattle.definitions.proofs.AlignedLaws.{drawn_box}
use Rattle.redraw_checks.specs.Drawing.{Drawing, asks, drawn, after}
use Rattle.redraw.specs.Redraw.{whole_or, reading_on}

whole : {b : BoundingBox} (o : Outcome RenderedDimensions) (drawing ground : List ℕ) → box_alone o ≡ success b → drawing ≡ whole_or o drawing ground
whole (success d) drawing ground e = refl
whole (refused n c) drawing ground e = impossible cc

none : {n c : ℕ} (o : Outcome RenderedDimensions) (drawing ground : List ℕ) → box_alone o ≡ refused n c → ground ≡ whole_or o drawing ground
none (success d) drawing ground e = impossible cc
none (refused n c) drawing ground e = refl

module _ (font : List ℕ) (r : Drawing) (p : Ground) {copy : List ℕ} (copied : copy ≡ p.before) {answer : Outcome BoundingBox}
    (answered : answer ≡ draw_aligned (u8g2 font) (asks r) r.color p.framebuffer copy) where
  on_ground : box_alone (drawn font r p) ≡ answer
  on_ground =
      ap (λ (b : List ℕ). box_alone (drawn font r (on p.framebuffer b))) (sym copied)
      ∙ sym (answered ∙ drawn_box (u8g2 font) (asks r) r.color p.framebuffer copy)

  pub drawn_alone : {exit : List ℕ} (res : Result BoundingBox Error) → exit ≡ after font r (on p.framebuffer copy) → answer ≡ outcome res
      → is_err res ≡ false → exit ≡ reading_on font r p
  drawn_alone (Ok b) e h k =
      e
      ∙ ap (λ (b : List ℕ). after font r (on p.framebuffer b)) copied
      ∙ whole (drawn font r p) (after font r p) p.before (on_ground ∙ h)
  drawn_alone (Err x) e h k = impossible cc

  pub refused_alone : (res : Result BoundingBox Error) → answer ≡ outcome res → is_err res ≡ true → p.before ≡ reading_on font r p
  refused_alone (Ok b) h k = impossible cc
  refused_alone (Err x) h k = none (drawn font r p) (after font r p) p.before (on_ground ∙ h)
