use mathlib.Core.Path.{◌∙◌}
use native.Mathlib.Omega.{arith}
use Rattle.plan.proofs.Order.{above}
use Rattle.plan.proofs.checks.not_above.Goals as goal

pub returns-in-Some : goal.returns-in-Some
returns-in-Some c = rw c.in-Some.is (c.le.ensures ∙ above c.args.f c.in-Some.b (omega arith) (omega arith))
