-- Eight bytes are a window and more (`window_bytes`, `window_add`), and twice three bytes make it. Assumes nothing.
use Rattle.integers.proofs.Prelude.{◌+◌, arith, add-zero}
use Rattle.window.proofs.WindowLaws.{window_bytes, window_small, window_add}
use Rattle.window.proofs.long_at.Goals as goal

pub returns-then-i-font : goal.returns-then-i-font
returns-then-i-font c =
    let a = c.args in
    omega (
      arith,
      c.from_le_bytes.ensures,
      simp add-zero at (window_bytes 7 a.font.now a.i c.type_inv.font),
      window_add 6 16 a.font.now a.i (a.i + 6) (omega arith),
      window_small 48 a.font.now a.i,
    )

pub returns : goal.returns
returns c =
    let a = c.args in
    omega (
      arith,
      c.three_bytes_at.ensures,
      c.three_bytes_at-2.ensures,
      window_add 3 24 a.font.now a.i (a.i + 3) (omega arith),
      window_small 48 a.font.now a.i,
    )
