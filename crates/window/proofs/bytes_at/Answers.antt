-- Four bytes are a window and more (`window_add`). Assumes nothing.
use Rattle.integers.proofs.Prelude.{◌+◌, arith}
use Rattle.window.proofs.WindowLaws.{window_small, window_add}
use Rattle.window.proofs.bytes_at.Goals as goal

pub returns-then-i-font : goal.returns-then-i-font
returns-then-i-font c =
    let a = c.args in
    omega (arith, c.word_at.ensures, window_add 3 8 a.font.now a.i (a.i + 3) (omega arith), window_small 24 a.font.now a.i)

pub returns : goal.returns
returns c =
    let a = c.args in
    omega (arith, c.three_bytes_at.ensures, window_small 24 a.font.now a.i)
