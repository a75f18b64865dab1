-- What is copied to the front are the header's values.
use Rattle.std.proofs.Common.{rules, ◌≡◌, sym, ap, ◌∙◌, List, ◌++◌, ℤ, drop, arith}
use Rattle.std.proofs.Math.Seq.{sets-eq}
use Rattle.c_values.specs.Headers.{header_values}
use Rattle.c_values.proofs.header.store_header.Goals as goal

pub returns : goal.returns
returns c =
    let values = header_values c.args.head in
    let copied : c.copy_from_slice.new.self ≡ values = search rules in
    ap (λ (front : List ℤ). front ++ drop 21 c.args.out.now) copied ∙ sym (sets-eq values c.args.out.now 0 (omega arith))
