use native.Mathlib.Omega.{arith}
use Rattle.sets.proofs.Taking.{loss_part, loss_dead, loss_none}
use Rattle.sets.proofs.clear.Within.less_loss.Goals as goal

pub returns-in-0-to-8 : goal.returns-in-0-to-8
returns-in-0-to-8 c = loss_part _ _ _ _ _ _ _ (omega arith) c.less_part.ensures

pub returns-in-9 : goal.returns-in-9
returns-in-9 c = loss_dead _ _ _ _ _ _ _ (omega (arith, c.in-9.is)) c.in-9.is c.less_dead.ensures

pub returns-else-number-lt9 : goal.returns-else-number-lt9
returns-else-number-lt9 c = loss_none _ _ _ _ _ _ (omega arith) (λ e. omega arith)
