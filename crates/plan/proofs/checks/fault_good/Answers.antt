use Rattle.plan.specs.Checks.{fault_good}
use Rattle.plan.proofs.checks.fault_good.Goals as goal

pub returns : goal.returns
unfolding fault_good
returns c = rw (c.both.ensures, c.fault_exists.ensures)
