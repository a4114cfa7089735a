use borrow.Author.Tests.{eq-eqb, ne_eqb, lt-ltb, le-ltb}
use Rattle.planner.specs.Steps.{ended}
use Rattle.planner.proofs.run.ended.Goals.{else-run-eq0-via-then-run-eq0+else-run-all, else-run-eq0-via-else-run-eq0}
use Rattle.planner.proofs.run.ended.Goals as goal

pub returns-then-run-all : goal.returns-then-run-all
unfolding ended
returns-then-run-all c = rw (eq-eqb _ 0 c.if-run-eq0.true, lt-ltb _ _ c.if-run-all.true)

pub returns : goal.returns
unfolding ended
returns c = elim c.else-run-eq0.branch [
  | else-run-eq0-via-then-run-eq0+else-run-all w ↦ rw (eq-eqb _ 0 w.if-run-eq0.true, le-ltb _ _ w.if-run-all.false)
  | else-run-eq0-via-else-run-eq0 w ↦ rw (ne_eqb _ 0 w.if-run-eq0.false)
]
