use Prim.Native.Nat.{◌-◌}
use Rattle.planner.proofs.EachOutcome.{Asking}
use Rattle.planner.proofs.outcomes.all_outcomes.Given as goal

abbrev pub invariant-loop-at : goal.invariant-loop-at
invariant-loop-at l = Asking l.source.known.plan.now l.source.known.shape l.source.node l.outcomes l.at

abbrev pub decreases-loop-at : goal.decreases-loop-at
decreases-loop-at l = 4097 - l.at.node
