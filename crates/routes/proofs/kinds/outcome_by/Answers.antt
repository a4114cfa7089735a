use native.Mathlib.Omega.{arith}
use Rattle.choice.specs.Outcome.{told_as}
use Rattle.routes.specs.Said.{said_by}
use Rattle.routes.proofs.Saying.{refused_with}
use Rattle.routes.proofs.kinds.outcome_by.Goals as goal

pub returns-in-0 : goal.returns-in-0
unfolding said_by told_as
returns-in-0 c = rw (c.in-0.is, c.mode_by-one.ensures)

pub returns-in-1 : goal.returns-in-1
unfolding said_by told_as
returns-in-1 c = rw (c.in-1.is, c.mode_by-two.ensures, c.mode_by-one.ensures)

pub returns-in-2 : goal.returns-in-2
unfolding said_by told_as
returns-in-2 c = rw (c.in-2.is, c.mode_by-three.ensures, c.mode_by-two.ensures, c.mode_by-one.ensures)

pub returns-in_default : goal.returns-in_default
unfolding said_by
returns-in_default c = rw c.refused.ensures (refused_with _ _ _ _ (omega arith))
