-- `fill_line` meets its contract: the part that the writer of its format filled is the picture's (PartLaws). Assumes nothing.
use Rattle.integers.proofs.Prelude.{◌≡◌, ◌+◌, ◌-◌, arith}
use Rattle.std.proofs.Common.{rules}
use Rattle.framebuffer.proofs.PartLaws.{line_within, pixel_of_bytes, pixel_of_packed, bytes_filled, line_filled}
use Rattle.framebuffer.proofs.line.fill_line.Goals as goal

pub slice_bounds-part-end : goal.slice_bounds-part-end
slice_bounds-part-end c = let within = line_within c.requires in search rules

pub fill_all_bits-requires : goal.fill_all_bits-requires
fill_all_bits-requires c = pixel_of_packed c.requires c.in-Packed.is

pub returns-in-Bytes : goal.returns-in-Bytes
returns-in-Bytes c =
    let a = c.args in
    let n : a.line.start + a.line.columns - a.line.start ≡ a.line.columns = omega arith in
    let all = bytes_filled (rw n at (c.fill.ensures.after (λ y e. e))) in
    rw n (line_filled a.buffer.now c.requires (rw (c.in-Bytes.is, pixel_of_bytes c.requires c.in-Bytes.is) all))

pub returns-in-Packed : goal.returns-in-Packed
returns-in-Packed c =
    let a = c.args in
    let n : a.line.start + a.line.columns - a.line.start ≡ a.line.columns = omega arith in
    rw n (line_filled a.buffer.now c.requires (rw c.in-Packed.is (rw n at c.fill_all_bits.ensures)))
