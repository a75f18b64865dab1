-- The causes of the calls on a text by their names, where none of them applies. Assumes nothing.
use Rattle.integers.proofs.Prelude.{◌≡◌, false, List, ℕ}
use Rattle.definitions.specs.Vocabulary.{FontColor}
use Rattle.definitions.specs.Refusals.{any_applies}
use Rattle.definitions.specs.Header.{length_off, header_off}
use Rattle.definitions.specs.Framebuffer.{framebuffer_cause}
use Rattle.definitions.specs.Limits.{text_cause, position_cause, color_off, background_cause}
use Rattle.definitions.specs.Font.{u8g2}
use Rattle.definitions.specs.Calls.{Request, measure_causes, draw_causes}
use Rattle.definitions.specs.Agreement.{Ground, limits, WithinLimits}
use Rattle.definitions.proofs.RefusalLaws.{NoneApplies, each_off, all_off}

-- of measuring
pub record MeasurePasses (font : List ℕ) (r : Request) : Type 0 where
  pub length_in : length_off font ≡ false
  pub header_in : header_off font ≡ false
  pub text_in : (text_cause r.text).applies ≡ false
  pub place_in : (position_cause r.position r.line_height).applies ≡ false

pub measure_passes : (font : List ℕ) (r : Request) → any_applies (measure_causes (u8g2 font) r) ≡ false → MeasurePasses font r
measure_passes font r e = by (each_off (measure_causes (u8g2 font) r) e)
  where
    by : NoneApplies (measure_causes (u8g2 font) r) → MeasurePasses font r
    by (l, (h, (t, (p, none)))) = record { length_in = l; header_in = h; text_in = t; place_in = p }

-- of drawing, but for the colour
pub record LimitsPass (font : List ℕ) (r : Request) (p : Ground) : Type 0 where
  pub length_in : length_off font ≡ false
  pub header_in : header_off font ≡ false
  pub size_in : (framebuffer_cause p.framebuffer p.before).applies ≡ false
  pub text_in : (text_cause r.text).applies ≡ false
  pub place_in : (position_cause r.position r.line_height).applies ≡ false

-- and with it
pub record DrawPasses (font : List ℕ) (r : Request) (color : FontColor) (p : Ground) : Type 0 where
  pub limited : LimitsPass font r p
  pub bits_in : color_off p.framebuffer.format color ≡ false
  pub color_in : (background_cause color (u8g2 font).background).applies ≡ false

module _ (font : List ℕ) (r : Request) where
  module _ (p : Ground) where
    pub limits_pass : WithinLimits (u8g2 font) r p → LimitsPass font r p
    limits_pass e = by (each_off (limits (u8g2 font) r p) e)
      where
        by : NoneApplies (limits (u8g2 font) r p) → LimitsPass font r p
        by (l, (h, (s, (t, (q, none))))) = record { length_in = l; header_in = h; size_in = s; text_in = t; place_in = q }

    pub limits_off : LimitsPass font r p → WithinLimits (u8g2 font) r p
    limits_off s = all_off (limits (u8g2 font) r p) (s.length_in, (s.header_in, (s.size_in, (s.text_in, (s.place_in, tt)))))

  module _ (color : FontColor) (p : Ground) where
    pub draw_passes : any_applies (draw_causes (u8g2 font) r color p.framebuffer p.before) ≡ false → DrawPasses font r color p
    draw_passes e = by (each_off (draw_causes (u8g2 font) r color p.framebuffer p.before) e)
      where
        by : NoneApplies (draw_causes (u8g2 font) r color p.framebuffer p.before) → DrawPasses font r color p
        by (l, (h, (s, (t, (q, (b, (c, none))))))) =
            record { limited = record { length_in = l; header_in = h; size_in = s; text_in = t; place_in = q }; bits_in = b; color_in = c }

    pub draw_off : DrawPasses font r color p → any_applies (draw_causes (u8g2 font) r color p.framebuffer p.before) ≡ false
    draw_off d =
        let s = d.limited in
        all_off (draw_causes (u8g2 font) r color p.framebuffer p.before)
        (s.length_in, (s.header_in, (s.size_in, (s.text_in, (s.place_in, (d.bits_in, (d.color_in, tt)))))))
