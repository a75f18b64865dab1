-- A drawing on a framebuffer of its own, unpacked, is what one in bytes shows of the text (request A4). Assumes nothing.
use Rattle.integers.proofs.Prelude.{◌≡◌, sym, ap, ◌∙◌, false, List, ℕ, ◌≤◌, arith, length, take, drop, take-append-le, take-length}
use Rattle.definitions.specs.Vocabulary.{Framebuffer, PixelFormat, Rectangle, RenderedDimensions, FontColor}
use Rattle.definitions.specs.Refusals.{success, any_applies}
use Rattle.definitions.specs.Text.{dimensions}
use Rattle.definitions.specs.Picture.{text_picture}
use Rattle.definitions.specs.Font.{u8g2, pixels_of}
use Rattle.definitions.specs.Framebuffer.{in_bytes, unpacked}
use Rattle.definitions.specs.Calls.{Request, draw_causes, drawn_text, draw, draw_buffer}
use Rattle.definitions.specs.Agreement.{on}
use Rattle.definitions.proofs.RefusalLaws.{succeeded}
use Rattle.definitions.proofs.CausesLaws.{DrawPasses, draw_passes}
use Rattle.definitions.proofs.FramebufferLaws.{length_shown, size_fits}
use Rattle.definitions.proofs.UnpackLaws.{drawn_alike}
use Rattle.corner.specs.declared.Setting.{Setting}
use Rattle.corner.specs.Whole.{whole, opposite, room_of}
use Rattle.pictures.specs.Drawings.{bytes_of, Called}

module _ {font text : List ℕ} {s : Setting} {color : FontColor} {format : PixelFormat} {before after : List ℕ} {r : Rectangle} {d : RenderedDimensions}
    (c : Called font text s color format before after r (success d)) where
  abbrev asked : Request
  asked = whole text s (opposite r)

  abbrev p : Framebuffer
  p = room_of format r

  -- the bytes that are the framebuffer's
  abbrev part : List ℕ → List ℕ
  part buffer = take (bytes_of format r) buffer

  abbrev drawn : List ℕ
  drawn = draw_buffer (u8g2 font) asked color p (part before)

  unrefused : any_applies (draw_causes (u8g2 font) asked color p (part before)) ≡ false
  unfolding draw
  unrefused = (succeeded (dimensions (drawn_text (u8g2 font) asked)) d (draw_causes (u8g2 font) asked color p (part before)) c.answered).0

  passes : DrawPasses font asked color (on p (part before))
  passes = draw_passes font asked color (on p (part before)) unrefused

  length_drawn : length drawn ≡ bytes_of format r
  unfolding draw_buffer
  length_drawn =
      let picture = text_picture color (pixels_of (u8g2 font)) (drawn_text (u8g2 font) asked).glyphs in
      rw unrefused (length_shown p picture (part before) ∙ (size_fits p (part before) passes.limited.size_in).area)

  part_after : part after ≡ drawn
  part_after =
      let whole : bytes_of format r ≤ length drawn = omega (arith, length_drawn) in
      ap part c.shown
      ∙ take-append-le (bytes_of format r) drawn (drop (bytes_of format r) before) whole
      ∙ ap (λ (n : ℕ). take n drawn) (sym length_drawn)
      ∙ take-length drawn

  pub shown_in_bytes : unpacked p (part after) ≡ draw_buffer (u8g2 font) asked color (in_bytes p) (unpacked p (part before))
  shown_in_bytes =
      ap (unpacked p) part_after
      ∙ sym (drawn_alike (u8g2 font) asked color (on p (part before)) record { sized = passes.limited.size_in; bits = passes.bits_in }).pixels
