-- A bit of a byte. Assumes nothing.
use Rattle.integers.proofs.Prelude.{sym, ◌∙◌}
use Rattle.std.proofs.lemmas.Nat.Bits.{shr_and_one}
use Rattle.pixels.proofs.UnpackedLaws.{low_bit}
use Rattle.pixels.proofs.unpack.in_byte.Goals as goal

pub returns-in-Packed : goal.returns-in-Packed
returns-in-Packed c =
    let a = c.args in
    let h = rw c.in-Packed.is at c.requires in
    rw c.in-Packed.is (shr_and_one a.byte a.pixel ∙ sym (low_bit 8 a.byte a.pixel h))
