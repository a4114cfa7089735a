use Rattle.planner.proofs.Writing.{Going}
use Prim.Native.Nat.{◌-◌}
use mathlib.Core.Path.{◌≡◌}
use lib.ListN.{length}
use Rattle.planner.proofs.listed.list.Given as goal

abbrev pub invariant-loop-at : goal.invariant-loop-at
invariant-loop-at l = Going l.source.known.plan.now l.source.known.shape l.source.known.work.now l.source.node l.source.clear.adaptive.now l.bytes l.listed l.at × (length l.bytes ≡ length l.initial.bytes)

abbrev pub decreases-loop-at : goal.decreases-loop-at
decreases-loop-at l = 4097 - l.at.node
