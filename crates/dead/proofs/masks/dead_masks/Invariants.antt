use Rattle.plan.specs.Checks.{large}
use Rattle.dead.proofs.Table.{Marking}
use Rattle.dead.proofs.masks.dead_masks.Given as goal

abbrev pub invariant-loop-i : goal.invariant-loop-i
invariant-loop-i l = Marking large l.sheet l.shape l.masks l.i
