-- The buffers are as long as there is room for, so what fills them fills that room. Assumes nothing.
use Rattle.std.proofs.Common.{◌≡◌, length, take, subst, arith}
use Rattle.measure_program.specs.Filled.{Filled}
use Rattle.measure_program.proofs.measure_buffers.Goals as goal

pub returns : goal.returns
returns c =
    let a = c.args in
    let line = c.measure_read.ensures in
    let font : length a.font.now ≡ 65537 = omega arith in
    let text : length a.text.now ≡ 4097 = omega arith in
    λ file input f g.
    let p : Filled 65537 file (take a.n a.font.now) = subst (λ room. Filled room file (take a.n a.font.now)) font f in
    let q : Filled 4097 input (take a.k a.text.now) = subst (λ room. Filled room input (take a.k a.text.now)) text g in
    search line
