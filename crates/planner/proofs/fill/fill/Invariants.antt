use Rattle.planner.proofs.Filling.{Filling}
use Rattle.planner.proofs.fill.fill.Given as goal

abbrev pub invariant-loop-node : goal.invariant-loop-node
invariant-loop-node l = Filling l.known.plan.now l.node l.initial.work l.work
