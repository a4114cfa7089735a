use native.Mathlib.Omega.{arith}
use Rattle.sets.proofs.Sifting.{reaches_part, reaches_dead, reaches_none}
use Rattle.sets.proofs.sift.Reach.reaches.Goals as goal

pub returns-in-0-to-8 : goal.returns-in-0-to-8
returns-in-0-to-8 c = reaches_part _ _ _ _ _ (omega arith) c.part_reaches.ensures

pub returns-in-9 : goal.returns-in-9
returns-in-9 c = reaches_dead _ _ _ _ _ (omega (arith, c.in-9.is)) c.in-9.is c.dead_reaches.ensures

pub returns-in_default : goal.returns-in_default
returns-in_default c = reaches_none _ _ _ _ (omega arith) (λ e. omega arith)
