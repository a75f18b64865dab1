-- Cause 6: the header that was read tells of the colour. Assumes nothing.
use Rattle.integers.proofs.Prelude.{◌≡◌, ap, List, ℕ}
use Rattle.definitions.specs.Vocabulary.{FontReader, FontColor}
use Rattle.definitions.specs.Header.{Opened}
use Rattle.definitions.specs.Font.{u8g2}
use Rattle.definitions.specs.Limits.{background_off, background_cause}

pub color_is : {font : List ℕ} {head : FontReader} → Opened font head → (color : FontColor)
    → background_off color head.supports_background_color ≡ (background_cause color (u8g2 font).background).applies
color_is o color = ap (λ (h : FontReader). background_off color h.supports_background_color) o.read
