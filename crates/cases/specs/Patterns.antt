-- What a framebuffer holds before a call: 0 throughout, or a pattern in which neighbours differ.
use Rattle.std.specs.Prelude.{ℕ, ◌+◌, ◌%◌, ◌==◌, if◌then◌else◌}

abbrev pub pattern_at : ℕ → ℕ → ℕ
pattern_at fill i = if fill == 0 then 0 else (fill + i % 3) % 256
