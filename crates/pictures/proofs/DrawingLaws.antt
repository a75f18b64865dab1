-- What each step of drawing a text on a framebuffer of its own comes to. Assumes nothing.
use Rattle.integers.proofs.Prelude.{◌≡◌, refl, sym, ap, subst, ◌∙◌, List, [], ◌∷◌, ◌++◌, ℕ, ◌≤◌, ◌<◌, arith, pos, nat_abs}
use Rattle.integers.proofs.Prelude.{◌+ℤ◌, ◌≤ℤ◌, length, get_or, take, drop, length-take-le}
use Rattle.integers.specs.Integers.{signed8}
use Rattle.integers.proofs.Laws.{zarith, plus, range, size, signed8_fits}
use Rattle.definitions.specs.Vocabulary.{FontReader, Framebuffer, PixelFormat, BoundingBox, Some, Rectangle, RenderedDimensions, FontColor}
use Rattle.definitions.specs.Refusals.{Outcome, success, refused, unless_refused}
use Rattle.definitions.specs.Header.{header, signed_byte}
use Rattle.definitions.specs.Text.{dimensions}
use Rattle.definitions.specs.Framebuffer.{size_in_bytes, BufferFits}
use Rattle.definitions.specs.Limits.{text_cause, position_cause}
use Rattle.definitions.specs.Font.{u8g2}
use Rattle.definitions.specs.Calls.{open_font, measured_text, measure}
use Rattle.corner.specs.declared.Setting.{Setting}
use Rattle.pixels.proofs.RoomLaws.{room_fits, bytes_most}
use Rattle.corner.specs.Whole.{room_of, at_zero, whole, measured_at_zero, SeenWhole}
use Rattle.definitions.proofs.OpenedLaws.{opened, open_refused}
use Rattle.corner.specs.Corners.{Measured, Cornered, CornerDrawn}
use Rattle.corner.proofs.WholeLaws.{near}
use Rattle.pictures.specs.Drawings.{Buffered, bytes_of, Called, IsDrawn}

-- the smallest framebuffer, and how many bytes it has, at the front of the buffer
module _ {font text : List ℕ} {s : Setting} {color : FontColor} {format : PixelFormat} {r : Rectangle} (before : List ℕ)
    (b : Buffered font text s color format r (length before)) (wide : r.size.width ≤ 256) (high : r.size.height ≤ 256)
    {p : Framebuffer} {n : ℕ} (is : p ≡ room_of format r) (size : n ≡ size_in_bytes p) where
  fits : BufferFits (bytes_of format r) (room_of format r)
  fits =
      let m = b.measured in
      room_fits format r.size.width r.size.height (near font text s m.advance r m.low m.box).some.wide wide high

  bytes_are : n ≡ bytes_of format r
  bytes_are = size ∙ ap size_in_bytes is

  pub in_buffer : n ≤ length before
  in_buffer = omega (arith, bytes_are, bytes_most fits, b.drawable.room)

  pub cornered : Cornered font text s color r p (length (take n before))
  cornered =
      let e = length-take-le n before in_buffer ∙ bytes_are in
      rw (e, is) record { measured = b.measured; framed = record { is = refl; fits = fits; bits = b.drawable.bits } }

  -- the call's answer, read, and the bytes it left
  pub called : {after : List ℕ} {answer o : Outcome RenderedDimensions} → answer ≡ o
      → CornerDrawn font text s color p.format r (take n before) after answer
      → Called font text s color format before (after ++ drop n before) r o
  called {after} {answer} {o} is_o c = by (rw (is, bytes_are) at c)
    where
      by : CornerDrawn font text s color format r (take (bytes_of format r) before) after answer → Called font text s color format before (after ++ drop n before) r o
      by c = record {
        advance = b.measured.advance;
        measured = b.measured.box;
        fits = fits;
        answered = sym c.answered ∙ is_o;
        shown = rw bytes_are (ap (λ (l : List ℕ). l ++ drop (bytes_of format r) before) c.shown);
        seen = subst (SeenWhole b.measured.advance r) is_o (c.seen b.measured.advance b.measured.box);
      }

-- a drawing that succeeded
pub is_drawn : {font text before after : List ℕ} {s : Setting} {color : FontColor} {format : PixelFormat} {r : Rectangle} {d : RenderedDimensions}
    → Called font text s color format before after r (success d) → IsDrawn font text s color format before after d r.size
is_drawn {r = r} c = record { box = r; size_is = refl; called = c }

-- a measuring that succeeded with a box
pub measured_box : {font text : List ℕ} {s : Setting} {answer : Outcome RenderedDimensions} {d : RenderedDimensions} {r : Rectangle}
    → s.line_height ≤ 128 → answer ≡ measured_at_zero font text s → answer ≡ success d → d.bounding_box ≡ Some r → Measured font text s r
measured_box {d = d} low call is box = record {
  low = low;
  advance = d.advance;
  box = sym call ∙ is ∙ ap (λ (b : BoundingBox). success record { advance = d.advance; bounding_box = b }) box;
}

-- ---- an opened font

module _ (font text : List ℕ) (s : Setting) where
  pub opening_refused : {n c : ℕ} → open_font font ≡ refused n c → measured_at_zero font text s ≡ refused n c
  unfolding measure
  opening_refused {n} {c} e =
      open_refused font
      (unless_refused (text_cause text ∷ position_cause at_zero s.line_height ∷ []) (dimensions (measured_text (u8g2 font) (whole text s at_zero))))
      n c e

low_height : (b : ℕ) → b < 256 → pos 0 ≤ℤ signed8 b → nat_abs (signed8 b +ℤ pos 1) ≤ 128
low_height b h k = omega (zarith, range (signed8_fits b h), plus (signed8 b) (pos 1), size (signed8 b +ℤ pos 1))

module _ (font : List ℕ) (head : FontReader) (opens : open_font font ≡ success head) where
  pub is_default : head.line_height ≡ (header font).line_height
  is_default = ap (λ (h : FontReader). h.line_height) (opened font head opens).read

  -- a default line height is at most 128
  pub default_low : get_or font 10 0 < 256 → head.line_height ≤ 128
  unfolding header
  default_low h =
      let o = opened font head opens in
      let height : pos 0 ≤ℤ signed_byte font 10 = subst (λ (x : FontReader). pos 0 ≤ℤ x.font_bounding_box_height) o.read o.height in
      subst (λ (n : ℕ). n ≤ 128) (sym is_default) (low_height (get_or font 10 0) h height)
