-- The contracts of the four calls, and the law of such calls.
use Rattle.std.proofs.Common.{sym, subst}
use Rattle.definitions.specs.Agreement.{MeasuredAsDrawn}
use Rattle.agreement.proofs.twice.draw_twice_and_measure_by.Goals as goal

pub returns-clause-called : goal.returns-clause-called
returns-clause-called g c = cc

pub returns-clause-agree : goal.returns-clause-agree
returns-clause-agree g c = subst (MeasuredAsDrawn g.C.Calls.box_in _ _ _ _ _) (sym (returns-clause-called g c)) (g.met.C.Calls.agrees _ _ _ _ _ _)
