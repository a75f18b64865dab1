-- The smallest framebuffer that has so many columns and rows.
use Rattle.std.specs.Prelude.{ℕ, ◌+◌, ◌-◌, ◌*◌, ◌/◌}
use Rattle.definitions.specs.Vocabulary.{Framebuffer, PixelFormat}
use Rattle.definitions.specs.Framebuffer.{per_byte, sized}

-- so many rows, and those that fill the last byte
abbrev pub whole_rows : PixelFormat → ℕ → ℕ
whole_rows format rows = (rows + per_byte format - 1) / per_byte format * per_byte format

abbrev pub room_for : PixelFormat → ℕ → ℕ → Framebuffer
room_for format width height = sized format width (whole_rows format height)
