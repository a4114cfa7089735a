use Rattle.planner.proofs.Running.{RunSoFar}
use Rattle.planner.proofs.boards.boards_from.Given as goal

abbrev pub invariant-loop-next : goal.invariant-loop-next
invariant-loop-next l = RunSoFar l.known.plan.now l.known.work.now l.from l.all l.initial.out l.out l.size l.next
