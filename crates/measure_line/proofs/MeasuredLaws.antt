-- A font that is too long for the program. Assumes nothing.
use Rattle.integers.proofs.Prelude.{◌≡◌, List, ℕ, ◌<◌, length, lt-ltb}
use Rattle.definitions.specs.Refusals.{refused}
use Rattle.measure_line.specs.Measured.{measured_by_program}

pub font_too_long : (font text : List ℕ) → 65536 < length font → measured_by_program font text ≡ refused 1 0
unfolding measured_by_program
font_too_long font text h = simp (lt-ltb 65536 (length font) h)
