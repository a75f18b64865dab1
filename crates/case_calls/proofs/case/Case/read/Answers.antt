-- A case has a colour where its colour stands.
use Rattle.std.proofs.Common.{rules, ◌≡◌, sym, subst, List, ℕ}
use Rattle.std.proofs.lemmas.Result.{err_from_is_err_and}
use Rattle.cases.specs.Reading.{rest}
use Rattle.case_calls.specs.Numbers.{behind, IsColor}
use Rattle.case_calls.proofs.case.Case.read.Goals as goal

pub returns-in_err-color : goal.returns-in_err-color
returns-in_err-color c =
    let p = err_from_is_err_and c.from_residual-in_err-color.result c.from_residual-in_err-color.ensures.1 in
    let here : rest c.number-5.new.self ≡ behind 7 (rest c.args.cases.now) = search rules in
    rw p.1 (λ case h. c.in_err-color.ensures case.style.color (subst (λ (l : List ℕ). IsColor l case.style.color) (sym here) h.color))
