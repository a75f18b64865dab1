-- What is passed is gone from what is left. Assumes nothing.
use Rattle.std.proofs.Common.{refl, arith}
use Rattle.std.proofs.lemmas.List.{length-drop}
use Rattle.cases.proofs.RestLaws.{rest_passed}
use Rattle.cases.proofs.reader.Reader.check_left.Goals as goal

pub returns-then-len-saturating_sub : goal.returns-then-len-saturating_sub
returns-then-len-saturating_sub c =
    rw (← c.self.view_is) (
      omega (arith, length-drop c.self.inside.next c.self.inside.file.now),
      rest_passed c.args.len (record { file = c.self.inside.file.now; next = c.self.inside.next }) (omega arith),
    )

pub returns-else-len-saturating_sub : goal.returns-else-len-saturating_sub
returns-else-len-saturating_sub c = rw (← c.self.view_is) (refl, omega (arith, length-drop c.self.inside.next c.self.inside.file.now))
