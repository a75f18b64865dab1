-- The three bytes are the window of 24 bits (`window_bytes`). Assumes nothing.
use Rattle.integers.proofs.Prelude.{arith, add-zero}
use Rattle.window.proofs.WindowLaws.{window_bytes}
use Rattle.window.proofs.three_bytes_at.Goals as goal

pub returns : goal.returns
returns c =
    omega (
      arith,
      c.byte_or_zero.ensures,
      c.byte_or_zero-2.ensures,
      c.byte_or_zero-3.ensures,
      c.from_le_bytes.ensures,
      simp add-zero at (window_bytes 2 c.args.font.now c.args.i c.type_inv.font),
    )
