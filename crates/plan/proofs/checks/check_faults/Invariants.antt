use Rattle.plan.specs.Checks.{torus_plans}
use Rattle.plan.proofs.Faults.{Checking}
use Rattle.plan.proofs.checks.check_faults.Given as goal

abbrev pub invariant-loop-i : goal.invariant-loop-i
invariant-loop-i l = Checking torus_plans 3 l.shape l.sheet l.i-end l.before l.i
