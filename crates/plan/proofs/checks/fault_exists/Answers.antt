use Rattle.plan.proofs.Faults.{asked_twice}
use Rattle.plan.specs.Checks.{fault_exists}
use Rattle.plan.proofs.checks.fault_exists.Goals as goal

pub returns : goal.returns
unfolding fault_exists
returns c = rw (← asked_twice _ _ _ _, c.both-2.ensures, c.is_node-2.ensures, c.either-kind.ensures, c.both.ensures, c.is_link.ensures, c.is_node.ensures, c.has_link-linked.ensures, c.dir.ensures.value)
