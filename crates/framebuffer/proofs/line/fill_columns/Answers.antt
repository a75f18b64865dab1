-- `fill_columns` meets its contract: the part that the writer of its format filled is the picture's (PartLaws). Assumes nothing.
use Rattle.integers.proofs.Prelude.{◌≡◌, ◌+◌, ◌-◌, arith}
use Rattle.std.proofs.Common.{rules}
use Rattle.framebuffer.proofs.PartLaws.{line_within, pixel_of_bytes, pixel_of_packed, part_filled}
use Rattle.framebuffer.proofs.line.fill_columns.Goals as goal

pub slice_bounds-part-end : goal.slice_bounds-part-end
slice_bounds-part-end c = let within = line_within c.requires in search rules

pub fill_bits-requires : goal.fill_bits-requires
fill_bits-requires c = pixel_of_packed c.requires c.in-Packed.is

pub returns-in-Bytes : goal.returns-in-Bytes
returns-in-Bytes c =
    let a = c.args in
    let n : a.line.start + a.line.columns - a.line.start ≡ a.line.columns = omega arith in
    rw n (part_filled a.buffer.now c.requires (rw (c.in-Bytes.is, pixel_of_bytes c.requires c.in-Bytes.is) (rw n at c.fill_bytes.ensures)))

pub returns-in-Packed : goal.returns-in-Packed
returns-in-Packed c =
    let a = c.args in
    let n : a.line.start + a.line.columns - a.line.start ≡ a.line.columns = omega arith in
    rw n (part_filled a.buffer.now c.requires (rw c.in-Packed.is (rw n at c.fill_bits.ensures)))
