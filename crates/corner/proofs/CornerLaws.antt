-- Drawing at the opposite of the corner of a text's box: the call is the definition's, and all of the text is seen. Assumes
-- nothing.
use Rattle.integers.proofs.Prelude.{◌≡◌, sym, ap, subst, ◌∙◌, List, ℕ, ◌≤◌, ℤ, pos, negsuc, ◌-ℤ◌, ◌≤ℤ◌, length}
use Rattle.integers.proofs.Laws.{zarith}
use Rattle.definitions.specs.Vocabulary.{Framebuffer, Rectangle, RenderedDimensions, FontColor}
use Rattle.definitions.specs.Refusals.{Outcome}
use Rattle.definitions.specs.Geometry.{left, top}
use Rattle.definitions.specs.Text.{point}
use Rattle.definitions.specs.Font.{u8g2}
use Rattle.definitions.specs.Calls.{draw, draw_buffer}
use Rattle.corner.specs.declared.Setting.{Setting}
use Rattle.pixels.proofs.RoomLaws.{holds_rows}
use Rattle.corner.specs.Whole.{whole, opposite, SeenWhole}
use Rattle.corner.proofs.WholeLaws.{near, seen_whole}
use Rattle.corner.specs.Corners.{Measured, Framed, CornerDrawn}

-- so that the opposite of the corner fits
pub corner_low : {font text : List ℕ} {s : Setting} {r : Rectangle} → Measured font text s r → (negsuc 1048575 ≤ℤ left r) × (negsuc 1048575 ≤ℤ top r)
corner_low {font} {text} {s} {r} m =
    let n = near font text s m.advance r m.low m.box in
    (omega zarith, omega zarith)

module _ (font text : List ℕ) (s : Setting) (color : FontColor) (r : Rectangle) (x y : ℤ) (p : Framebuffer) (before : List ℕ)
    (at_x : x ≡ pos 0 -ℤ left r) (at_y : y ≡ pos 0 -ℤ top r) (m : Measured font text s r) (f : Framed color r p (length before)) where
  place : point x y ≡ opposite r
  place = cc (at_x, at_y)

  high : r.size.height ≤ p.height
  high = subst (λ (q : Framebuffer). r.size.height ≤ q.height) (sym f.is) (holds_rows p.format r.size.height)

  -- what the call came to and left
  module _ {after : List ℕ} {o : Outcome RenderedDimensions} (answered : o ≡ draw (u8g2 font) (whole text s (point x y)) color p before)
      (shown : after ≡ draw_buffer (u8g2 font) (whole text s (point x y)) color p before) where
    answers : o ≡ draw (u8g2 font) (whole text s (opposite r)) color p before
    answers = answered ∙ rw place

    pub corner_drawn : CornerDrawn font text s color p.format r before after o
    corner_drawn = record {
      answered = answers ∙ ap (λ (q : Framebuffer). draw (u8g2 font) (whole text s (opposite r)) color q before) f.is;
      shown = shown ∙ rw place (ap (λ (q : Framebuffer). draw_buffer (u8g2 font) (whole text s (opposite r)) color q before) f.is);
      seen = λ advance k. subst (SeenWhole advance r) (sym answers) (seen_whole font text s advance r m.low k color p before f.fits high f.bits);
    }
