use Rattle.plan.specs.Checks.{large}
use Rattle.dead.proofs.NodeTable.{Marking}
use Rattle.dead.proofs.nodes.dead_nodes.Given as goal

abbrev pub invariant-loop-i : goal.invariant-loop-i
invariant-loop-i l = Marking large l.sheet l.nodes l.i
