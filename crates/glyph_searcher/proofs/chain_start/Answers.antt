-- From 97 on the chain begins at the offset of 'a'. Assumes nothing.
use Rattle.integers.proofs.Prelude.{◌≤◌, ap, ◌+◌, ℕ, arith, le-leb}
use Rattle.glyph_searcher.proofs.chain_start.Goals as goal

pub returns-in-97-to-65535 : goal.returns-in-97-to-65535
returns-in-97-to-65535 c =
    let e = c.args.encoding in
    let low : 97 ≤ e = omega arith in
    (simp (le-leb 97 e low) (ap (λ (n : ℕ). 23 + n) c.from-in-97-to-65535.ensures), omega arith)
