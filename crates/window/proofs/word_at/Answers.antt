-- The four bytes are the window of 32 bits (`window_bytes`). Assumes nothing.
use Rattle.integers.proofs.Prelude.{arith, add-zero}
use Rattle.window.proofs.WindowLaws.{window_bytes}
use Rattle.window.proofs.word_at.Goals as goal

pub returns : goal.returns
returns c =
    omega (arith, c.from_le_bytes.ensures, simp add-zero at (window_bytes 3 c.args.font.now c.args.i c.type_inv.font))
