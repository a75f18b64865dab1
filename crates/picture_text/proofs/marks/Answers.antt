-- One pixel more is shown. Assumes nothing.
use Rattle.integers.proofs.Prelude.{◌≡◌, ◌∙◌, ℕ, ◌+◌, ◌<◌, arith, List, [], ◌∷◌, map, map-append, length, length-set, get_or, take, set}
use Rattle.std.proofs.lemmas.List.{take_more, take_more_set}
use Rattle.picture_text.specs.Marks.{shade}
use Rattle.picture_text.proofs.marks.Goals as goal

next : (bytes row : List ℕ) (i mark : ℕ) → take i bytes ≡ map shade (take i row) → i < length bytes → i < length row → mark ≡ shade (get_or row i 0)
    → take (i + 1) (set bytes i mark) ≡ map shade (take (i + 1) row)
next bytes row i mark before h k e =
    let a = take_more_set bytes i mark h in
    let b = take_more row i 0 k in
    let m = map-append shade (take i row) (get_or row i 0 ∷ []) in
    rw (a, b, m, before, e)

pub loop-i-preserved : goal.loop-i-preserved
loop-i-preserved c =
    let i = c.loop-i.invariant in
    record {
      long = length-set c.loop-i.bytes c.loop-i.i c.mark.result ∙ i.long;
      shown = next c.loop-i.bytes c.args.row.now c.loop-i.i c.mark.result i.shown (omega arith) (omega arith) c.mark.ensures;
    }
