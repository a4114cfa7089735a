use native.Mathlib.Omega.{arith}
use Rattle.sets.proofs.Legs.{loss_part, loss_dead, loss_none}
use Rattle.sets.proofs.leg.Leg.meets.Goals as goal

pub returns-in-0-to-8 : goal.returns-in-0-to-8
returns-in-0-to-8 c = loss_part _ _ _ _ _ _ (omega arith) c.part_meets.ensures

pub returns-in-9 : goal.returns-in-9
returns-in-9 c = loss_dead _ _ _ _ _ _ (omega (arith, c.in-9.is)) c.in-9.is c.dead_meets.ensures

pub returns-in_default : goal.returns-in_default
returns-in_default c = loss_none _ _ _ _ _ (omega arith) (λ e. omega arith)
