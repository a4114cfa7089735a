use borrow.Author.Tests.{eq-eqb, ne_eqb}
use Rattle.routes.specs.Said.{mode_by}
use Rattle.routes.proofs.kinds.mode_by.Goals as goal

pub returns-then-bits-eq1 : goal.returns-then-bits-eq1
unfolding mode_by
returns-then-bits-eq1 c = rw (eq-eqb _ 1 c.if-bits-eq1.true)

pub returns-else-bits-eq1 : goal.returns-else-bits-eq1
unfolding mode_by
returns-else-bits-eq1 c = rw (ne_eqb _ 1 c.if-bits-eq1.false)
